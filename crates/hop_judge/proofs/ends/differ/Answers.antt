-- `ends::differ` meets its contract: the bytes that it compares are those of the two ends. Assumes nothing.
use Rattle.hop_rule.specs.Stored.{flat, read_as}
use Rattle.hop_cells.specs.Cells.{get}
use Rattle.hop_judge.proofs.ends.differ.Goals as goal

pub returns : goal.returns
unfolding get flat read_as
returns c = rw (← c.get2.ensures.0, ← c.get2-2.ensures.0)
