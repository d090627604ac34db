-- `unless` meets its contract: the refusal's number is the first where it applies, and none where it does not. Assumes nothing.
use mathlib.Core.Path.{refl}
use Rattle.hop_judge.proofs.Judging.{goes, stops}
use Rattle.hop_judge.proofs.unless.Goals as goal

pub returns-then-applies : goal.returns-then-applies
returns-then-applies c = rw c.if-applies.true (stops refl)

pub returns : goal.returns
returns c = rw c.if-applies.false (goes refl)
