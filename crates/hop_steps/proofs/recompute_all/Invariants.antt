use mathlib.Core.Path.{◌≡◌}
use Prim.Native.Nat.{◌≤◌}
use lib.ListN.{length}
use Rattle.hop_rule.specs.Words.{loop}
use Rattle.hop_steps.specs.Steps.{recompute}
use Rattle.hop_steps.proofs.recompute_all.Given as goal

abbrev pub invariant-loop-v : goal.invariant-loop-v
invariant-loop-v l = (l.v ≤ l.n) × (length l.s ≡ length l.initial.s) × (l.s ≡ loop l.v (recompute l.n l.u) l.initial.s)
