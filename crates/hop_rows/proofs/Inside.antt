-- Every row of a block lies inside the state, and the state has at most 198,401 bytes. Assumes nothing.
use Prim.Native.Nat.{ℕ, ◌+◌, ◌*◌, ◌-◌, ◌≤◌, ◌<◌}
use native.Mathlib.Nat.{suc-mul, mul-le-mul_right}
use native.Mathlib.Omega.{arith}
use Rattle.hop_rule.specs.declared.Table.{Table}
use Rattle.hop_rule.specs.Stored.{size, start}
use Rattle.hop_cells.specs.Cells.{cells}
use Rattle.hop_cells.proofs.Places.{square_most, cube_most, inside}

-- k bytes from index i of a block on: they end inside the state, which is small.
pub record Inside (n : ℕ) (t : Table) (i k : ℕ) : Type 0 where
  pub ends : start n t + i + k ≤ size n
  pub most : size n ≤ 198401

size_most : {n : ℕ} → n ≤ 40 → size n ≤ 198401
unfolding size
size_most l = omega (arith, square_most l, cube_most l)

-- One more row than q rows of n bytes is at most m rows.
pub row_ends : (n : ℕ) {q m : ℕ} → q < m → q * n + n ≤ m * n
row_ends n {q} l = rw (← suc-mul q n) (mul-le-mul_right n l)

module _ (n : ℕ) (t : Table) (l : n ≤ 40) where
  pub block_inside : (i k : ℕ) → 0 < k → i + k ≤ cells n t → Inside n t i k
  block_inside i k lk h = record { ends = omega (arith, inside n t {i = i + k - 1} (omega arith)); most = size_most l }
