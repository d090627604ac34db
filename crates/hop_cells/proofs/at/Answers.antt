-- `at` meets its contract: every block lies inside the state. Assumes nothing.
use native.Mathlib.Omega.{arith}
use Rattle.hop_cells.proofs.Places.{size_most, inside}
use Rattle.hop_cells.proofs.at.Goals as goal

pub overflow_add-result : goal.overflow_add-result
overflow_add-result c = let (few, within) = c.requires in omega (arith, c.start.ensures, inside c.args.n c.args.t within, size_most few)

pub returns : goal.returns
returns c = omega (arith, c.start.ensures, inside c.args.n c.args.t c.requires.1)
