use mathlib.Core.Path.{◌≡◌}
use Prim.Native.Nat.{◌≤◌}
use lib.ListN.{length}
use Rattle.hop_trial.proofs.Copies.{overlaid}
use Rattle.hop_trial.proofs.copy.Given as goal

abbrev pub invariant-loop-i : goal.invariant-loop-i
invariant-loop-i l = (l.i ≤ l.k) × (length l.to ≡ length l.initial.to) × (l.to ≡ overlaid l.from l.initial.to l.i)
