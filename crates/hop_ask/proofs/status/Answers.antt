-- `status` meets its contract: it is refused by its number, or writes the five numbers that it counts. Assumes nothing.
use Rattle.hop_judge.proofs.Judging.{handed_on, call_refused}
use Rattle.hop_ask.proofs.Asked.{counted, status_counts, status_ready, status_asked}
use Rattle.hop_ask.proofs.status.Goals as goal

pub invariant_of-state : goal.invariant_of-state
invariant_of-state c = record { room = (status_counts _ _ _ c.judge_status.ensures c.in_ok-n.was).0 }

pub waiting_for-waiting_for-requires : goal.waiting_for-waiting_for-requires
waiting_for-waiting_for-requires c = (status_counts _ _ _ c.judge_status.ensures c.in_ok-n.was).1

pub waiting_from-waiting_from-requires : goal.waiting_from-waiting_from-requires
waiting_from-waiting_from-requires c = (status_counts _ _ _ c.judge_status.ensures c.in_ok-n.was).1

pub reached-reached-requires : goal.reached-reached-requires
reached-reached-requires c = (status_counts _ _ _ c.judge_status.ensures c.in_ok-n.was).1

pub write_status-requires : goal.write_status-requires
write_status-requires c =
    status_ready _ _ _ c.judge_status.ensures c.in_ok-n.was (counted c.waiting_for-waiting_for.ensures.0 c.waiting_from-waiting_from.ensures.0 c.reached-reached.ensures.0 c.queued-total.ensures.0)

pub returns-in_err-n : goal.returns-in_err-n
returns-in_err-n c = rw (handed_on _ c.from_residual.ensures.1) (call_refused _ _ _ _ c.judge_status.ensures c.in_err-n.was)

pub returns : goal.returns
returns c =
    status_asked _ _ _ c.judge_status.ensures c.in_ok-n.was (counted c.waiting_for-waiting_for.ensures.0 c.waiting_from-waiting_from.ensures.0 c.reached-reached.ensures.0 c.queued-total.ensures.0) c.write_status.ensures
