-- `judge_up` meets its contract: where not both ends are up, bytes that differ are refused. Assumes nothing.
use mathlib.Core.Path.{◌∙◌}
use native.Mathlib.Omega.{arith}
use Rattle.hop_rule.specs.Calls.{refusals}
use Rattle.hop_judge.proofs.Judging.{handed_on, refused_already, judged_next}
use Rattle.hop_judge.proofs.Known.{room_known, ends_below}
use Rattle.hop_judge.proofs.Read.{differ_read}
use Rattle.hop_judge.proofs.judge_up.Goals as goal

pub invariant_of-state : goal.invariant_of-state
invariant_of-state c = record { room = room_known _ _ c.judge_apart.ensures c.in_ok-n.was }

pub differ-requires : goal.differ-requires
differ-requires c = ends_below _ _ _ _ c.judge_apart.ensures c.in_ok-n.was

pub returns : goal.returns
unfolding refusals
returns c =
    judged_next _ _ c.judge_apart.ensures _ (omega arith) c.in_ok-n.was (λ claim. c.differ.ensures ∙ differ_read _ claim _ _) c.unless.ensures

pub returns-in_err-n : goal.returns-in_err-n
unfolding refusals
returns-in_err-n c = refused_already _ _ c.judge_apart.ensures _ c.in_err-n.was (handed_on _ c.from_residual.ensures.1)
