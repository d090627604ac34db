-- `check` meets its contract: its answer is the state's own refusal, and no byte changes. Assumes nothing.
use Rattle.hop_rule.specs.Calls.{refusals, check, done}
use Rattle.hop_judge.proofs.Judging.{handed_on, call_refused, call_done}
use Rattle.hop_core.proofs.check.Goals as goal

pub returns-in_err-judge_state : goal.returns-in_err-judge_state
unfolding refusals
returns-in_err-judge_state c = rw (handed_on _ c.from_residual.ensures.1) (call_refused _ _ _ _ c.judge_state.ensures c.in_err-judge_state.was)

pub returns : goal.returns
unfolding refusals done
returns c = call_done check _ _ _ c.judge_state.ensures c.in_ok-judge_state.was
