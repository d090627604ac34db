-- `part` meets its contract: the bytes lie inside the state. Assumes nothing.
use native.Mathlib.Omega.{arith}
use Rattle.hop_rows.proofs.Inside.{block_inside}
use Rattle.hop_rows.proofs.Parts.{is_part}
use Rattle.hop_rows.proofs.part.Goals as goal

pub overflow_add-at : goal.overflow_add-at
overflow_add-at c = let p = c.requires in let i = block_inside c.args.s.n c.args.t c.args.s.room.most _ _ p.0 p.1 in omega (arith, c.start.ensures)

pub overflow_add-result : goal.overflow_add-result
overflow_add-result c = let p = c.requires in let i = block_inside c.args.s.n c.args.t c.args.s.room.most _ _ p.0 p.1 in omega (arith, c.start.ensures)

pub slice_bounds-result-end : goal.slice_bounds-result-end
slice_bounds-result-end c = let p = c.requires in let i = block_inside c.args.s.n c.args.t c.args.s.room.most _ _ p.0 p.1 in omega (arith, c.start.ensures, c.args.s.room.fits)

pub returns : goal.returns
returns c = let p = c.requires in let i = block_inside c.args.s.n c.args.t c.args.s.room.most _ _ p.0 p.1 in rw c.start.ensures (is_part (omega (arith, i.ends, c.args.s.room.fits)) (omega arith))
