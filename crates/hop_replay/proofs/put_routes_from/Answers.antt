-- `put_routes_from` meets its contract: where all lines have an end, the next one has. Assumes nothing.
use Rattle.hop_rule.specs.Stored.{read_as}
use Rattle.hop_replay.specs.Replay.{route_at}
use Rattle.hop_replay.proofs.Routes.{joined_ends, route_read, from_lines}
use Rattle.hop_replay.proofs.put_routes_from.Goals as goal

pub put_route-requires : goal.put_route-requires
put_route-requires c =
    let s = c.args.state.bytes.now in
    rw (c.from.ensures, c.from-in-loop-v.ensures, route_read _ s c.args.u c.loop-v.v c.route-way.ensures)
    (joined_ends (route_at (read_as _ s) c.args.u) c.loop-v.v _ c.loop-v-test.true (rw (from_lines _ s c.args.u) at c.requires.1) c.loop-v.invariant)
