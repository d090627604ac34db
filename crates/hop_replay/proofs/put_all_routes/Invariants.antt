-- The lines of the nodes before u are on the page.
use Rattle.hop_rule.specs.Words.{joined}
use Rattle.hop_rule.specs.Stored.{read_as}
use Rattle.hop_text.specs.Writing.{Puts}
use Rattle.hop_replay.specs.Replay.{routes_from}
use Rattle.hop_replay.proofs.put_all_routes.Given as goal

abbrev pub invariant-loop-u : goal.invariant-loop-u
invariant-loop-u l = Puts (joined l.u (routes_from (read_as l.state.n l.state.bytes.now))) l.initial.page l.page
