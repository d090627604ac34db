-- `triple` meets its contract: three digits below n. Assumes nothing.
use mathlib.Core.Path.{refl}
use Rattle.hop_cells.proofs.Places.{cell3_lt}
use Rattle.hop_cells.proofs.triple.Goals as goal

pub returns : goal.returns
returns c = let p = c.requires in rw c.pair.ensures.0 (refl, cell3_lt p.1 p.2 p.3)
