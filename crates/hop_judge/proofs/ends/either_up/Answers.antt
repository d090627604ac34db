-- `ends::either_up` meets its contract: each way out is a case of the test. Assumes nothing.
use borrow.Author.Tests.{eq-eqb, ne_eqb}
use Rattle.hop_rule.specs.Stored.{flat, read_as}
use Rattle.hop_cells.specs.Cells.{get}
use Rattle.hop_judge.proofs.ends.either_up.Goals as goal

pub returns-then-get2-eq1 : goal.returns-then-get2-eq1
unfolding get flat read_as
returns-then-get2-eq1 c = rw (← c.get2.ensures.0, eq-eqb _ _ c.if-get2-eq1.true)

pub returns : goal.returns
unfolding get flat read_as
returns c = rw (← c.get2.ensures.0, ne_eqb _ _ c.if-get2-eq1.false, ← c.get2-2.ensures.0)
