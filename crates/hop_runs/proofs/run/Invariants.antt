use mathlib.Core.Path.{◌≡◌}
use mathlib.Core.Bool.{false}
use Prim.Native.Nat.{ℕ, ◌≤◌, ◌<◌, ◌*◌}
use lib.Dec.{eqb}
use lib.ListN.{length}
use Rattle.hop_counts.specs.Counts.{queued}
use Rattle.hop_runs.specs.Runs.{passes, delivered}
use Rattle.hop_runs.proofs.run.Given as goal

abbrev pub invariant-loop-made : goal.invariant-loop-made
invariant-loop-made l =
    (l.made ≤ l.k)
    × (length l.s ≡ length l.initial.s)
    × (l.deliveries ≤ 408000 * l.made)
    × (l.s ≡ passes l.n l.made l.initial.s)
    × (l.deliveries ≡ delivered l.n l.made l.initial.s)
    × ((j : ℕ) → j < l.made → eqb (queued l.n (passes l.n j l.initial.s)) 0 ≡ false)
    × (length l.noted ≡ 1600)
