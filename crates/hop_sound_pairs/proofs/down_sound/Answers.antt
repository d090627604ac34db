-- `down_sound` meets its contract: each way out is a case of the test. Assumes nothing.
use borrow.Author.Tests.{eq-eqb, ne_eqb}
use Rattle.hop_rows.proofs.Slices.{are_here}
use Rattle.hop_sound_pairs.specs.Pairs.{down_sound}
use Rattle.hop_sound_pairs.proofs.down_sound.Goals as goal

pub returns-then-get2-ne0 : goal.returns-then-get2-ne0
unfolding down_sound
returns-then-get2-ne0 c = simp (← c.get2.ensures.0, ne_eqb _ _ c.if-get2-ne0.true)

pub returns : goal.returns
unfolding down_sound
returns c = simp (← c.get2.ensures.0, eq-eqb _ _ c.if-get2-ne0.false, ← are_here c.row3.ensures c.args.s.n, ← c.all_are.ensures)
