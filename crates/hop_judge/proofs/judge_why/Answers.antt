-- `judge_why` meets its contract: at rest, a state with a link that has just one end up is refused. Assumes nothing.
use mathlib.Core.Path.{ap, ◌∙◌}
use mathlib.Core.Bool.{not}
use native.Mathlib.Omega.{arith}
use Rattle.hop_judge.proofs.Judging.{handed_on, refused_already, judged_next}
use Rattle.hop_judge.proofs.Known.{room_known}
use Rattle.hop_judge.proofs.Read.{agree_read}
use Rattle.hop_judge.proofs.judge_why.Goals as goal

pub invariant_of-state : goal.invariant_of-state
invariant_of-state c = record { room = room_known _ _ c.judge_asked.ensures c.in_ok-n.was }

pub returns : goal.returns
returns c =
    judged_next _ _ c.judge_asked.ensures _ (omega arith) c.in_ok-n.was (λ claim. ap not (c.agree.ensures ∙ agree_read _ claim)) c.unless.ensures

pub returns-in_err-n : goal.returns-in_err-n
returns-in_err-n c = refused_already _ _ c.judge_asked.ensures _ c.in_err-n.was (handed_on _ c.from_residual.ensures.1)
