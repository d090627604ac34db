-- `put_all_routes` meets its contract: where the lines of all nodes have an end, those of the next node have. Assumes nothing.
use Rattle.hop_rule.specs.Stored.{read_as}
use Rattle.hop_replay.specs.Replay.{routes_from}
use Rattle.hop_replay.proofs.Routes.{joined_ends, all_lines}
use Rattle.hop_replay.proofs.put_all_routes.Goals as goal

pub put_routes_from-requires : goal.put_routes_from-requires
put_routes_from-requires c =
    let s = c.args.state.bytes.now in
    (c.loop-u-test.true, joined_ends (routes_from (read_as _ s)) c.loop-u.u _ c.loop-u-test.true (rw (all_lines _ s) at c.requires) c.loop-u.invariant)
