-- `find_all` meets its contract: after w turns the neighbours below w have been looked at for every destination. Assumes nothing.
use mathlib.Core.Path.{refl, sym}
use native.Mathlib.Omega.{arith}
use Rattle.hop_laws.proofs.Words.{loop_none, loop_turn}
use Rattle.hop_cells.proofs.Loops.{loop_end}
use Rattle.hop_steps.specs.Steps.{best}
use Rattle.hop_steps.proofs.find_all.Goals as goal

pub loop-w-init : goal.loop-w-init
loop-w-init c = (omega arith, refl, refl, λ v l. let q = c.requires.3 v l in (rw (q.0, q.1) (sym (loop_none _ _)), omega arith))

pub loop-w-preserved : goal.loop-w-preserved
loop-w-preserved c =
    (omega arith, omega arith, omega arith, λ v l. let r = c.nearer_row.ensures v l in let had = c.loop-w.invariant.3 v l in (loop_turn _ _ _ had.0 r.0, omega arith))

pub returns : goal.returns
unfolding best
returns c = let inv = c.loop-w.invariant in λ v l. (loop_end _ _ _ _ (inv.3 v l).0 inv.0 c.loop-w-test.false, (inv.3 v l).1)
