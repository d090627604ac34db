-- `judge_ends` meets its contract: where both are nodes, it refuses them if they are one. Assumes nothing.
use mathlib.Core.Path.{refl}
use native.Mathlib.Omega.{arith}
use Rattle.hop_judge.proofs.Judging.{handed_on, refused_already, judged_next}
use Rattle.hop_judge.proofs.judge_ends.Goals as goal

pub returns : goal.returns
returns c = judged_next _ _ c.judge_pair.ensures _ (omega arith) c.in_ok-n.was (λ claim. refl) c.unless.ensures

pub returns-in_err-n : goal.returns-in_err-n
returns-in_err-n c = refused_already _ _ c.judge_pair.ensures _ c.in_err-n.was (handed_on _ c.from_residual.ensures.1)
