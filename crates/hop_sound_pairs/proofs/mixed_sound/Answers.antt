-- `mixed_sound` meets its contract: each way out is a case of the test. Assumes nothing.
use mathlib.Core.Path.{sym, ◌∙◌}
use borrow.Author.Rules.{rules}
use Rattle.hop_rows.proofs.Parts.{row_front}
use Rattle.hop_rows.proofs.Slices.{below_here}
use Rattle.hop_sound_pairs.specs.Pairs.{busy_sound}
use Rattle.hop_seen.proofs.Seen.{below_more, differing_here}
use Rattle.hop_sound_pairs.proofs.mixed_sound.Goals as goal

pub returns-then-not-all_below : goal.returns-then-not-all_below
unfolding busy_sound
returns-then-not-all_below c =
    let row = row_front c.row3.ensures c.requires.2 in
    simp (← below_here row c.args.s.n, ← c.all_below.ensures, c.if-not-all_below.true)

pub differing-requires : goal.differing-requires
differing-requires c =
    let row = row_front c.row3.ensures c.requires.2 in
    below_here row 64 ∙ below_more _ _ _ (search rules) (sym (c.all_below.ensures ∙ below_here row c.args.s.n) ∙ c.if-not-all_below.false)

pub returns-then-not-differing : goal.returns-then-not-differing
unfolding busy_sound
returns-then-not-differing c =
    let row = row_front c.row3.ensures c.requires.2 in
    simp (← below_here row c.args.s.n, ← c.all_below.ensures, c.if-not-all_below.false, ← differing_here row, ← c.differing.ensures, c.if-not-differing.true)

pub told_sound-requires : goal.told_sound-requires
told_sound-requires c =
    let row = row_front c.row3.ensures c.requires.2 in
    (search rules, search rules, search rules, sym (c.all_below.ensures ∙ below_here row c.args.s.n) ∙ c.if-not-all_below.false)

pub returns : goal.returns
unfolding busy_sound
returns c =
    let row = row_front c.row3.ensures c.requires.2 in
    simp (← below_here row c.args.s.n, ← c.all_below.ensures, c.if-not-all_below.false, ← differing_here row, ← c.differing.ensures, c.if-not-differing.false, ← c.told_sound.ensures)
