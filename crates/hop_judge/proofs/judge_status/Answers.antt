-- `judge_status` meets its contract: where the node passes, it refuses an output of less than 14 bytes. Assumes nothing.
use mathlib.Core.Path.{refl}
use native.Mathlib.Omega.{arith}
use Rattle.hop_rule.specs.Calls.{refusals}
use Rattle.hop_judge.proofs.Judging.{handed_on, refused_already, judged_next}
use Rattle.hop_judge.proofs.judge_status.Goals as goal

pub returns : goal.returns
unfolding refusals
returns c = judged_next _ _ c.judge_node.ensures _ (omega arith) c.in_ok-n.was (λ claim. refl) c.unless.ensures

pub returns-in_err-n : goal.returns-in_err-n
unfolding refusals
returns-in_err-n c = refused_already _ _ c.judge_node.ensures _ c.in_err-n.was (handed_on _ c.from_residual.ensures.1)
