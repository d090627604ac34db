-- `each` meets its contract: the mark is `every` of the bytes passed. Assumes nothing.
use mathlib.Core.Path.{sym, ap, ◌∙◌}
use Rattle.hop_rows.proofs.Every.{every_none, every_next, every_done}
use Rattle.hop_rows.proofs.Parts.{byte_of}
use Rattle.hop_rows.proofs.each.Goals as goal

pub loop-x-init : goal.loop-x-init
loop-x-init g c = λ p h. sym (every_none _)

pub loop-x-preserved : goal.loop-x-preserved
loop-x-preserved g c = λ p h.
    let i = c.loop-x.x-index in
    every_next _ _ (c.loop-x.invariant p h) (h _ _ c.test-ok.ensures ∙ ap p (byte_of _ i))

pub returns : goal.returns
returns g c = λ p h. every_done _ _ _ (c.loop-x.invariant p h) c.loop-x.auto.x-index-end c.loop-x-test.false
