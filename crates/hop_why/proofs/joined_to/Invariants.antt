use Prim.Native.Nat.{◌≤◌}
use Rattle.hop_rule.specs.Route.{route, routed}
use Rattle.hop_rule.specs.Stored.{read_as}
use Rattle.hop_why.proofs.Sets.{Gathered}
use Rattle.hop_why.proofs.joined_to.Given as goal

abbrev pub invariant-loop-x : goal.invariant-loop-x
invariant-loop-x l = (l.x ≤ l.s.n) × Gathered (λ v. routed l.s.n (route (read_as l.s.n l.s.bytes.now) l.u v).distance) l.set l.count l.x
