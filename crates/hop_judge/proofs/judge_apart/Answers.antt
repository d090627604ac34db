-- `judge_apart` meets its contract: where the ends pass, two bytes of 1 are refused. Assumes nothing.
use mathlib.Core.Path.{◌∙◌}
use native.Mathlib.Omega.{arith}
use Rattle.hop_judge.proofs.Judging.{handed_on, refused_already, judged_next}
use Rattle.hop_judge.proofs.Known.{room_known, ends_below}
use Rattle.hop_judge.proofs.Read.{both_read}
use Rattle.hop_judge.proofs.judge_apart.Goals as goal

pub invariant_of-state : goal.invariant_of-state
invariant_of-state c = record { room = room_known _ _ c.judge_ends.ensures c.in_ok-n.was }

pub both_up-requires : goal.both_up-requires
both_up-requires c = ends_below _ _ _ _ c.judge_ends.ensures c.in_ok-n.was

pub returns : goal.returns
returns c =
    judged_next _ _ c.judge_ends.ensures _ (omega arith) c.in_ok-n.was (λ claim. c.both_up.ensures ∙ both_read _ claim _ _) c.unless.ensures

pub returns-in_err-n : goal.returns-in_err-n
returns-in_err-n c = refused_already _ _ c.judge_ends.ensures _ c.in_err-n.was (handed_on _ c.from_residual.ensures.1)
