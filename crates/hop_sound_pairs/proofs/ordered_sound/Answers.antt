-- `ordered_sound` meets its contract: what is left to judge of a queue in order. Assumes nothing.
use mathlib.Core.Path.{◌∙◌}
use borrow.Author.Rules.{rules}
use Rattle.hop_sound_pairs.proofs.Ordered.{busy_over, busy_below, busy_told}
use Rattle.hop_sound_pairs.proofs.ordered_sound.Goals as goal

pub returns-then-s-get3 : goal.returns-then-s-get3
returns-then-s-get3 c =
    let pre = c.requires in
    busy_over _ _ _ _ _ pre.3 pre.4 c.get3.ensures.0 c.if-s-get3.true

pub told_sound-requires : goal.told_sound-requires
told_sound-requires c =
    let pre = c.requires in
    (search rules, search rules, search rules, busy_below _ _ _ _ _ pre.3 pre.4 c.get3.ensures.0 c.if-s-get3.false)

pub returns : goal.returns
returns c =
    let pre = c.requires in
    c.told_sound.ensures ∙ busy_told _ _ _ _ _ pre.3 pre.4 c.get3.ensures.0 c.if-s-get3.false
