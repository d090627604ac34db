-- `told_sound` meets its contract: it is one test on four rows. Assumes nothing.
use mathlib.Core.Path.{◌∙◌}
use native.Mathlib.Omega.{arith}
use Rattle.hop_rows.proofs.Parts.{row_front}
use Rattle.hop_rows.proofs.Slices.{below_here}
use Rattle.hop_sound_rows.proofs.ToldRows.{told_here}
use Rattle.hop_sound_pairs.specs.Pairs.{told_sound}
use Rattle.hop_sound_pairs.proofs.told_sound.Goals as goal

pub all_told-requires : goal.all_told-requires
all_told-requires c =
    let pre = c.requires in
    let views = c.row3.ensures in
    let destinations = row_front c.row3-2.ensures pre.2 in
    let values = row_front c.row3-3.ensures pre.2 in
    (omega (arith, views.long, c.args.s.room.most), omega (arith, views.long, c.row2.ensures.long), omega (arith, destinations.long, values.long), rw views.long (below_here destinations c.args.s.n ∙ pre.3))

pub returns : goal.returns
unfolding told_sound
returns c = c.all_told.ensures ∙ told_here c.row3.ensures c.row2.ensures (row_front c.row3-2.ensures c.requires.2) (row_front c.row3-3.ensures c.requires.2)
