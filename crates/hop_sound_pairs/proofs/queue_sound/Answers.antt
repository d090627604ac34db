-- `queue_sound` meets its contract: each way out is a case of the test. Assumes nothing.
use borrow.Author.Tests.{le-leb, lt-leb, eq-eqb, ne_eqb}
use Rattle.hop_sound_pairs.specs.Pairs.{queue_sound}
use Rattle.hop_sound_pairs.proofs.queue_sound.Goals as goal

pub returns-then-m-eq0 : goal.returns-then-m-eq0
unfolding queue_sound
returns-then-m-eq0 c = simp (← c.get2-m.ensures.0, eq-eqb _ _ c.if-m-eq0.true, ← c.idle_sound.ensures)

pub returns-then-s-m : goal.returns-then-s-m
unfolding queue_sound
returns-then-s-m c = simp (← c.get2-m.ensures.0, ne_eqb _ _ c.if-m-eq0.false, lt-leb _ _ c.if-s-m.true)

pub returns : goal.returns
unfolding queue_sound
returns c = simp (← c.get2-m.ensures.0, ne_eqb _ _ c.if-m-eq0.false, le-leb _ _ c.if-s-m.false, ← c.busy_sound.ensures)
