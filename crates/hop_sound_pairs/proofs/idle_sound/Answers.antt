-- `idle_sound` meets its contract: the rows stand where the test has them. Assumes nothing.
use mathlib.Core.Path.{◌∙◌}
use Rattle.hop_rows.proofs.Slices.{same_here}
use Rattle.hop_sound_pairs.specs.Pairs.{idle_sound}
use Rattle.hop_sound_pairs.proofs.idle_sound.Goals as goal

pub returns : goal.returns
unfolding idle_sound
returns c = c.eq.ensures ∙ same_here c.row3.ensures c.row2.ensures
