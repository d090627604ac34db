-- `up_sound` meets its contract: each way out is a case of the test. Assumes nothing.
use Rattle.hop_sound_rows.proofs.SoundTests.{allow_here}
use Rattle.hop_sound_pairs.specs.Pairs.{up_sound}
use Rattle.hop_sound_pairs.proofs.up_sound.Goals as goal

pub returns-then-not-waiting_sound : goal.returns-then-not-waiting_sound
unfolding up_sound
returns-then-not-waiting_sound c = simp (← c.waiting_sound.ensures, c.if-not-waiting_sound.true)

pub returns : goal.returns
unfolding up_sound
returns c = simp (← c.waiting_sound.ensures, c.if-not-waiting_sound.false, ← allow_here c.args.w c.row3.ensures c.row2.ensures c.row2-2.ensures, ← c.allow.ensures)
