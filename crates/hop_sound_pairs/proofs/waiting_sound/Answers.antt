-- `waiting_sound` meets its contract: each way out is a case of the test. Assumes nothing.
use borrow.Author.Tests.{eq-eqb, ne_eqb}
use Rattle.hop_sound_pairs.specs.Pairs.{waiting_sound}
use Rattle.hop_sound_pairs.proofs.waiting_sound.Goals as goal

pub returns-then-get2-eq1 : goal.returns-then-get2-eq1
unfolding waiting_sound
returns-then-get2-eq1 c = simp (← c.get2.ensures.0, eq-eqb _ _ c.if-get2-eq1.true, ← c.queue_sound.ensures)

pub returns : goal.returns
unfolding waiting_sound
returns c = rw (← c.get2.ensures.0, ne_eqb _ _ c.if-get2-eq1.false, ← c.get2-2.ensures.0)
