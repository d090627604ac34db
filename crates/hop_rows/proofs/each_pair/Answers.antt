-- `each_pair` meets its contract: the mark is `every` of the pairs passed. Assumes nothing.
use mathlib.Core.Path.{sym}
use Rattle.hop_rows.proofs.Every.{every_none, every_next, every_done}
use Rattle.hop_rows.proofs.Parts.{byte_of}
use Rattle.hop_rows.proofs.each_pair.Goals as goal

pub loop-i-init : goal.loop-i-init
loop-i-init g c = (c.requires.0, λ p h. sym (every_none _))

pub loop-i-preserved : goal.loop-i-preserved
loop-i-preserved g c = (
  c.loop-i.invariant.0,
  λ p h. every_next _ _ (c.loop-i.invariant.1 p h)
      (rw (← byte_of c.args.a.now c.loop-i.i) (rw (← byte_of c.args.b.now c.loop-i.i) (h _ _ _ c.test-ok.ensures))),
)

pub returns : goal.returns
returns g c = λ p h. every_done _ _ _ (c.loop-i.invariant.1 p h) c.loop-i.auto.i-end c.loop-i-test.false
