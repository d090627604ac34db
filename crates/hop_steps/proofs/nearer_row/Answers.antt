-- `nearer_row` meets its contract: the link is down, or after v turns neighbour w is looked at for the destinations below v. Assumes nothing.
use native.Mathlib.Omega.{arith}
use borrow.Author.Tests.{eq-eqb, ne_eqb}
use Rattle.hop_steps.proofs.Rows.{row_left, row_turn}
use Rattle.hop_steps.proofs.nearer_row.Goals as goal

pub returns-then-get2-ne1 : goal.returns-then-get2-ne1
returns-then-get2-ne1 c = let a = c.args in λ v l. row_left _ _ _ _ a.views.now a.from.now (rw (← c.get2.ensures.0) (ne_eqb _ _ c.if-get2-ne1.true)) v

pub loop-v-preserved : goal.loop-v-preserved
loop-v-preserved c =
    let a = c.args in
    let e = c.nearer_at.ensures in
    let l = c.loop-v in
    (omega arith, omega arith, omega arith, row_turn _ _ _ _ a.views.now a.from.now l.views l.from l.v (rw (← c.get2.ensures.0) (eq-eqb _ _ c.if-get2-ne1.false)) (omega arith) (omega arith) l.invariant.3 e.0 e.1)
