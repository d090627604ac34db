use mathlib.Core.Path.{◌≡◌}
use Prim.Native.Nat.{◌≤◌}
use lib.ListN.{length}
use Rattle.hop_rule.specs.Words.{loop}
use Rattle.hop_steps.specs.Steps.{hear_at}
use Rattle.hop_steps.proofs.hear_first.Given as goal

abbrev pub invariant-loop-p : goal.invariant-loop-p
invariant-loop-p l = (l.p ≤ l.k) × (length l.s ≡ length l.initial.s) × (l.s ≡ loop l.p (hear_at l.n l.w l.u) l.initial.s)
