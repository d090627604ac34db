-- `judge_deliver` meets its contract: where both ends are up, the queue's length byte decides, and 0 is refused. Assumes nothing.
use mathlib.Core.Path.{ap, ◌∙◌}
use native.Mathlib.Omega.{arith}
use lib.Dec.{eqb}
use Rattle.hop_rule.specs.Calls.{refusals}
use Rattle.hop_cells.proofs.Read.{length_read}
use Rattle.hop_judge.proofs.Judging.{handed_on, refused_already, judged_next}
use Rattle.hop_judge.proofs.Known.{room_known, cell_below}
use Rattle.hop_judge.proofs.judge_deliver.Goals as goal

pub invariant_of-state : goal.invariant_of-state
invariant_of-state c = record { room = room_known _ _ c.judge_sending.ensures c.in_ok-n.was }

pub get2-requires : goal.get2-requires
get2-requires c = cell_below _ _ _ _ c.judge_sending.ensures c.in_ok-n.was

pub returns : goal.returns
unfolding refusals
returns c =
    judged_next _ _ c.judge_sending.ensures _ (omega arith) c.in_ok-n.was (λ claim. ap (λ x. eqb x 0) (c.get2.ensures.0 ∙ length_read _ claim _ _)) c.unless.ensures

pub returns-in_err-n : goal.returns-in_err-n
unfolding refusals
returns-in_err-n c = refused_already _ _ c.judge_sending.ensures _ c.in_err-n.was (handed_on _ c.from_residual.ensures.1)
