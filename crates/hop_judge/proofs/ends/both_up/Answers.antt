-- `ends::both_up` meets its contract: each way out is a case of the test. Assumes nothing.
use borrow.Author.Tests.{eq-eqb, ne_eqb}
use Rattle.hop_rule.specs.Stored.{flat, read_as}
use Rattle.hop_cells.specs.Cells.{get}
use Rattle.hop_judge.proofs.ends.both_up.Goals as goal

pub returns-then-get2-ne1 : goal.returns-then-get2-ne1
unfolding get flat read_as
returns-then-get2-ne1 c = rw (← c.get2.ensures.0, ne_eqb _ _ c.if-get2-ne1.true)

pub returns : goal.returns
unfolding get flat read_as
returns c = rw (← c.get2.ensures.0, eq-eqb _ _ c.if-get2-ne1.false, ← c.get2-2.ensures.0)
