-- `link_sound` meets its contract: each way out is a case of the test. Assumes nothing.
use borrow.Author.Tests.{le-leb, lt-leb, eq-eqb, ne_eqb}
use Rattle.hop_sound_pairs.specs.Pairs.{link_sound}
use Rattle.hop_sound_pairs.proofs.link_sound.Goals as goal

pub returns-then-l-gt1 : goal.returns-then-l-gt1
unfolding link_sound
returns-then-l-gt1 c = simp (← c.get2-l.ensures.0, lt-leb _ _ c.if-l-gt1.true)

pub returns-then-u-w : goal.returns-then-u-w
unfolding link_sound
returns-then-u-w c = simp (← c.get2-l.ensures.0, le-leb _ _ c.if-l-gt1.false, ne_eqb _ _ c.if-u-w.true)

pub returns : goal.returns
unfolding link_sound
returns c = simp (← c.get2-l.ensures.0, le-leb _ _ c.if-l-gt1.false, eq-eqb _ _ c.if-u-w.false)
