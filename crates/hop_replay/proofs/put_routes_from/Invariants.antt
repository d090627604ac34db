-- The lines of the destinations before v are on the page.
use Rattle.hop_rule.specs.Words.{joined}
use Rattle.hop_rule.specs.Stored.{read_as}
use Rattle.hop_text.specs.Writing.{Puts}
use Rattle.hop_replay.specs.Replay.{route_at}
use Rattle.hop_replay.proofs.put_routes_from.Given as goal

abbrev pub invariant-loop-v : goal.invariant-loop-v
invariant-loop-v l = Puts (joined l.v (route_at (read_as l.state.n l.state.bytes.now) l.u)) l.initial.page l.page
