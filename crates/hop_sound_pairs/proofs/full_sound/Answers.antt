-- `full_sound` meets its contract: both ways find out the same. Assumes nothing.
use mathlib.Core.Path.{sym, ◌∙◌}
use Rattle.hop_rows.proofs.Slices.{same_here}
use Rattle.hop_sound_rows.proofs.FullRows.{counting_here}
use Rattle.hop_sound_pairs.proofs.Full.{full_counting}
use Rattle.hop_sound_pairs.proofs.full_sound.Goals as goal

pub returns-then-counting : goal.returns-then-counting
returns-then-counting c =
    c.eq.ensures ∙ same_here c.row3.ensures c.row2.ensures ∙ full_counting _ _ _ _ (sym (c.counting.ensures ∙ counting_here c.row3-destinations.ensures) ∙ c.if-counting.true)
