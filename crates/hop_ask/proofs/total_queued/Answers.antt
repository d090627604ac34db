-- `total_queued` meets its contract: it is refused by its number, or answers what it counts. Assumes nothing.
use mathlib.Core.List.{[]}
use Rattle.hop_rule.specs.Calls.{refusals}
use Rattle.hop_judge.proofs.Judging.{handed_on, call_refused}
use Rattle.hop_judge.proofs.Known.{room_known}
use Rattle.hop_ask.proofs.total_queued.Goals as goal

pub invariant_of-queued : goal.invariant_of-queued
invariant_of-queued c = record { room = room_known _ [] c.judge_state.ensures c.in_ok-n.was }

pub returns-in_err-n : goal.returns-in_err-n
unfolding refusals
returns-in_err-n c = rw (handed_on _ c.from_residual.ensures.1) (call_refused _ _ _ _ c.judge_state.ensures c.in_err-n.was)
