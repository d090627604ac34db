-- `all_told` meets its contract: the row that is filled is the row of distances. Assumes nothing.
use mathlib.Core.Path.{◌∙◌}
use Rattle.hop_sound_rows.specs.SoundRows.{rows_told}
use Rattle.hop_sound_rows.proofs.ToldRows.{told_equal}
use Rattle.hop_sound_rows.proofs.all_told.Goals as goal

pub returns : goal.returns
unfolding rows_told
returns c = c.eq.ensures ∙ told_equal c.args.distances.now c.told-heard.ensures c.requires.0 c.requires.1
