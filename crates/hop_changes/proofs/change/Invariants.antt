use mathlib.Core.Path.{◌≡◌}
use Prim.Native.Nat.{◌*◌, ◌≤◌}
use Rattle.hop_changes.proofs.Sums.{change_to}
use Rattle.hop_changes.proofs.change.Given as goal

abbrev pub invariant-loop-i : goal.invariant-loop-i
invariant-loop-i l = (l.i ≤ l.n * l.n) × (l.sum ≡ change_to l.n l.before l.after l.i)
