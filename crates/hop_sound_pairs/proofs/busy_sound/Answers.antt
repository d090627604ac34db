-- `busy_sound` meets its contract: all ways find out the same. Assumes nothing.
use mathlib.Core.Path.{sym, ◌∙◌}
use borrow.Author.Rules.{rules}
use Rattle.hop_rows.proofs.Parts.{row_front}
use Rattle.hop_sound_rows.proofs.RisingRows.{rising_here}
use Rattle.hop_sound_pairs.proofs.busy_sound.Goals as goal

pub ordered_sound-requires : goal.ordered_sound-requires
ordered_sound-requires c =
    (search rules, search rules, search rules, search rules, sym (c.rising.ensures ∙ rising_here (row_front c.row3.ensures c.requires.2)) ∙ c.if-rising.true)
