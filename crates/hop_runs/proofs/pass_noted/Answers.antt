-- `pass_noted` meets its contract: the queues in eights, and those behind the last eight. Assumes nothing.
use native.Mathlib.Omega.{arith}
use Rattle.hop_runs.proofs.Places.{behind}
use Rattle.hop_runs.proofs.pass_noted.Goals as goal

pub returns : goal.returns
returns c =
    behind _ _ _ _ _ (omega arith) c.pass_eights.ensures c.pass_some.ensures
