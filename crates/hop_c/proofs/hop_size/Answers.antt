-- `hop_c::hop_size` meets its contract: a count below 1 or above 40 has no size. Assumes nothing.
use borrow.Author.Tests.{eq-eqb, ne_eqb, lt-ltb, le-ltb}
use Rattle.hop_c.specs.Edge.{size_of}
use Rattle.hop_c.proofs.hop_size.Goals as goal

pub returns-then-n-eq0 : goal.returns-then-n-eq0
unfolding size_of
returns-then-n-eq0 c = simp (eq-eqb _ _ c.if-n-eq0.true)

pub returns-then-n-gt40 : goal.returns-then-n-gt40
unfolding size_of
returns-then-n-gt40 c = simp (ne_eqb _ _ c.if-n-eq0.false, lt-ltb _ _ c.if-n-gt40.true)

pub returns : goal.returns
unfolding size_of
returns c = simp (ne_eqb _ _ c.if-n-eq0.false, le-ltb _ _ c.if-n-gt40.false, c.size.ensures)
