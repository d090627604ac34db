-- `from_row2` meets its contract: the row starts inside the state. Assumes nothing.
use mathlib.Core.Path.{◌≡◌}
use Prim.Native.Nat.{ℕ, ◌*◌, ◌≤◌, ◌<◌}
use native.Mathlib.Omega.{arith}
use Rattle.hop_rule.specs.declared.Table.{Table}
use Rattle.hop_cells.specs.Cells.{cells}
use Rattle.hop_rows.proofs.Inside.{Inside, block_inside, row_ends}
use Rattle.hop_rows.proofs.Parts.{is_part}
use Rattle.hop_rows.proofs.from_row2.Goals as goal

row_inside : (n : ℕ) (t : Table) {a : ℕ} → n ≤ 40 → a < n → cells n t ≡ n * n → Inside n t (a * n) n
row_inside n t {a} most l e = block_inside n t most (a * n) n (omega arith) (rw e (row_ends n l))

pub overflow_add-at : goal.overflow_add-at
overflow_add-at c = let p = c.requires in let i = row_inside c.args.s.n c.args.t c.args.s.room.most p.0 p.1 in omega (arith, c.start.ensures)

pub slice_bounds-result-count : goal.slice_bounds-result-count
slice_bounds-result-count c = let p = c.requires in let i = row_inside c.args.s.n c.args.t c.args.s.room.most p.0 p.1 in omega (arith, c.start.ensures, c.args.s.room.fits)

pub slice_bounds-result-start : goal.slice_bounds-result-start
slice_bounds-result-start c = let p = c.requires in let i = row_inside c.args.s.n c.args.t c.args.s.room.most p.0 p.1 in omega (arith, c.start.ensures, c.args.s.room.fits)

pub returns : goal.returns
returns c = let p = c.requires in let i = row_inside c.args.s.n c.args.t c.args.s.room.most p.0 p.1 in rw c.start.ensures (is_part (omega (arith, c.args.s.room.fits)) (omega arith))
