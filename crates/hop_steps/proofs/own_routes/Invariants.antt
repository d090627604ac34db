use mathlib.Core.Path.{◌≡◌}
use Prim.Native.Nat.{◌≤◌}
use lib.ListN.{length}
use Rattle.hop_rule.specs.Words.{loop}
use Rattle.hop_steps.specs.Steps.{own_route}
use Rattle.hop_steps.proofs.own_routes.Given as goal

abbrev pub invariant-loop-u : goal.invariant-loop-u
invariant-loop-u l = (l.u ≤ l.n) × (length l.s ≡ length l.initial.s) × (l.s ≡ loop l.u (own_route l.n) l.initial.s)
