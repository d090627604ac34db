-- `notice` meets its contract: it is refused by its number, or the step's bytes are the outcome's. Assumes nothing.
use Rattle.hop_rule.specs.Calls.{refusals}
use Rattle.hop_judge.proofs.Judging.{handed_on, call_refused}
use Rattle.hop_judge.proofs.Known.{ends_ready}
use Rattle.hop_core.proofs.Events.{notice_done}
use Rattle.hop_core.proofs.notice.Goals as goal

pub notice-requires : goal.notice-requires
unfolding refusals
notice-requires c = ends_ready _ _ _ _ c.judge_notice.ensures c.in_ok-n.was

pub returns-in_err-n : goal.returns-in_err-n
returns-in_err-n c = rw (handed_on _ c.from_residual.ensures.1) (call_refused _ _ _ _ c.judge_notice.ensures c.in_err-n.was)

pub returns : goal.returns
returns c =
    notice_done _ _ _ c.in_ok-n.was c.judge_notice.ensures c.notice.ensures
