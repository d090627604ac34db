-- `differing` meets its contract: the set is that of the bytes passed, and the mark is `every` of them. Assumes nothing.
use mathlib.Core.Path.{sym, ap, ◌∙◌}
use Rattle.hop_rows.proofs.Every.{every_none, every_next, every_done}
use Rattle.hop_rows.proofs.Parts.{byte_of}
use Rattle.hop_rows.proofs.RowTests.{itself, tells_below}
use Rattle.hop_seen.specs.Seen.{has, added, differing}
use Rattle.hop_seen.proofs.Seen.{seen_none, seen_more, before_none}
use Rattle.hop_seen.proofs.differing.Goals as goal

pub loop-v-init : goal.loop-v-init
loop-v-init c = (seen_none _, sym (every_none _), (tells_below (itself _ 0) _ 64).shows c.requires)

pub loop-v-preserved : goal.loop-v-preserved
loop-v-preserved c =
    let i = c.loop-v.v-index in
    let set = c.loop-v.before in
    let inv = c.loop-v.invariant in
    let v = byte_of c.args.row.now i in
    (seen_more _ i inv.0 (c.added-before.ensures ∙ ap (added set) v), every_next _ _ inv.1 (before_none _ _ _ _ inv.0 (c.has.ensures ∙ ap (has set) v)), inv.2)

pub returns : goal.returns
unfolding differing
returns c = every_done _ _ _ c.loop-v.invariant.1 c.loop-v.auto.v-index-end c.loop-v-test.false
