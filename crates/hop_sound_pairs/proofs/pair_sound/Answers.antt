-- `pair_sound` meets its contract: each way out is a case of the test. Assumes nothing.
use borrow.Author.Tests.{eq-eqb, ne_eqb}
use Rattle.hop_sound_pairs.specs.Pairs.{pair_sound}
use Rattle.hop_sound_pairs.proofs.pair_sound.Goals as goal

pub returns-then-not-link_sound : goal.returns-then-not-link_sound
unfolding pair_sound
returns-then-not-link_sound c = simp (← c.link_sound.ensures, c.if-not-link_sound.true)

pub returns-then-get2-eq1 : goal.returns-then-get2-eq1
unfolding pair_sound
returns-then-get2-eq1 c = simp (← c.link_sound.ensures, c.if-not-link_sound.false, ← c.get2.ensures.0, eq-eqb _ _ c.if-get2-eq1.true, ← c.up_sound.ensures)

pub returns : goal.returns
unfolding pair_sound
returns c = simp (← c.link_sound.ensures, c.if-not-link_sound.false, ← c.get2.ensures.0, ne_eqb _ _ c.if-get2-eq1.false, ← c.down_sound.ensures)
