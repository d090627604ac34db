-- `move_up` meets its contract: after p turns the first p places have taken what stood k places behind them, and the k behind those that stay become 0. Assumes nothing.
use mathlib.Core.Path.{refl, sym, ap, ◌∙◌}
use native.Mathlib.Omega.{arith}
use Rattle.hop_laws.proofs.Words.{loop_none, loop_turn}
use Rattle.hop_cells.proofs.Loops.{loop_end}
use Rattle.hop_cells.proofs.Places.{room_as, row_most}
use Rattle.hop_queues.specs.Queues.{clear, move_up}
use Rattle.hop_queues.proofs.Moved.{cleared}
use Rattle.hop_queues.proofs.move_up.Goals as goal

pub loop-p-init : goal.loop-p-init
loop-p-init c = (omega arith, refl, sym (loop_none _ _))

pub loop-p-preserved : goal.loop-p-preserved
loop-p-preserved c = (omega arith, omega arith, loop_turn _ _ _ c.loop-p.invariant.2 c.shift.ensures)

pub fill_cells-requires : goal.fill_cells-requires
fill_cells-requires c =
    let p = c.requires in
    (room_as c.loop-p.invariant.1 p.0, omega (arith, c.triple.ensures.0, row_most p.1 p.2))

pub returns : goal.returns
unfolding move_up
returns c =
    let a = c.args in
    c.fill_cells.ensures
    ∙ cleared a.n a.t a.w a.u a.m a.k _ _ (omega (arith, c.triple.ensures.0))
    ∙ ap (clear a.n a.t a.w a.u a.m a.k) (loop_end _ _ _ _ c.loop-p.invariant.2 c.loop-p.invariant.0 c.loop-p-test.false)
