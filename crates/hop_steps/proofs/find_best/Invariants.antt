use mathlib.Core.Path.{◌≡◌}
use Prim.Native.Nat.{◌≤◌}
use Rattle.hop_rule.specs.Words.{loop}
use Rattle.hop_steps.specs.Steps.{nearer}
use Rattle.hop_steps.proofs.find_best.Given as goal

abbrev pub invariant-loop-w : goal.invariant-loop-w
invariant-loop-w l = (l.w ≤ l.s.n) × (l.b ≡ loop l.w (nearer l.s.n l.u l.v l.s.bytes.now) l.initial.b)
