-- Places that fall free one by one are a run of cells. Assumes nothing.
use mathlib.Core.Path.{◌≡◌, ap₂}
use mathlib.Core.List.{List}
use Prim.Native.Nat.{ℕ, ◌+◌, ◌*◌}
use native.Mathlib.Omega.{arith}
use Rattle.hop_rule.specs.declared.Table.{Table}
use Rattle.hop_laws.proofs.Words.{loop_same}
use Rattle.hop_cells.specs.Cells.{put, fill_cells}
use Rattle.hop_queues.specs.Queues.{clear}

pub cleared : (n : ℕ) (t : Table) (w u m k i : ℕ) (s : List ℕ) → i ≡ (w * n + u) * n + m → fill_cells n t i k 0 s ≡ clear n t w u m k s
unfolding fill_cells clear
cleared n t w u m k i s e = loop_same k _ _ s (λ p x l. ap₂ (λ j y. put n t j y x) (omega arith) (omega arith))
