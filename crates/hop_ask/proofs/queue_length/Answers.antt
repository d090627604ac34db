-- `queue_length` meets its contract: it is refused by its number, or answers the length byte that it reads. Assumes nothing.
use Rattle.hop_rule.specs.Calls.{refusals}
use Rattle.hop_judge.proofs.Judging.{handed_on, call_refused}
use Rattle.hop_judge.proofs.Known.{room_known, cell_below}
use Rattle.hop_ask.proofs.queue_length.Goals as goal

pub invariant_of-get2 : goal.invariant_of-get2
invariant_of-get2 c = record { room = room_known _ _ c.judge_ends.ensures c.in_ok-n.was }

pub get2-requires : goal.get2-requires
get2-requires c = cell_below _ _ _ _ c.judge_ends.ensures c.in_ok-n.was

pub returns-in_err-n : goal.returns-in_err-n
unfolding refusals
returns-in_err-n c = rw (handed_on _ c.from_residual.ensures.1) (call_refused _ _ _ _ c.judge_ends.ensures c.in_err-n.was)
