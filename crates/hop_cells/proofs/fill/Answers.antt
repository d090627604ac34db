-- `fill` meets its contract: a row of a block is n cells in a row. Assumes nothing.
use mathlib.Core.Path.{◌∙◌, ap}
use native.Mathlib.Omega.{arith}
use Rattle.hop_cells.specs.Cells.{fill_cells, fill}
use Rattle.hop_cells.proofs.Places.{row_most}
use Rattle.hop_cells.proofs.fill.Goals as goal

pub fill_cells-requires : goal.fill_cells-requires
fill_cells-requires c = let p = c.requires in (p.0, omega (arith, c.triple.ensures.0, row_most p.1 p.2))

pub returns : goal.returns
unfolding fill_cells fill
returns c = let a = c.args in c.fill_cells.ensures ∙ ap (λ i. fill_cells a.n a.t i a.n a.x a.s.now) (omega (arith, c.triple.ensures.0))
