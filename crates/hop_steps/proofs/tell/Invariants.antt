use mathlib.Core.Path.{◌≡◌}
use Prim.Native.Nat.{◌≤◌}
use lib.ListN.{length}
use Rattle.hop_rule.specs.Words.{loop}
use Rattle.hop_steps.specs.Steps.{tell_one}
use Rattle.hop_steps.proofs.tell.Given as goal

abbrev pub invariant-loop-w : goal.invariant-loop-w
invariant-loop-w l = (l.w ≤ l.n) × (length l.s ≡ length l.initial.s) × (l.s ≡ loop l.w (tell_one l.n l.u l.v l.d) l.initial.s)
