-- `pass_eights` meets its contract: after g turns the first 8 g queues have given up what is noted. Assumes nothing.
use mathlib.Core.Path.{refl, sym}
use native.Mathlib.Omega.{arith}
use Rattle.hop_laws.proofs.Words.{loop_none}
use Rattle.hop_runs.proofs.Places.{behind}
use Rattle.hop_runs.proofs.pass_eights.Goals as goal

pub loop-g-init : goal.loop-g-init
loop-g-init c = (omega arith, refl, sym (loop_none _ _))

pub loop-g-preserved : goal.loop-g-preserved
loop-g-preserved c = (omega arith, omega arith, behind _ 8 _ _ _ (omega arith) c.loop-g.invariant.2 c.pass_eight.ensures)
