-- `judge_asked` meets its contract: where the state and the two numbers pass, an entry that waits anywhere is refused. Assumes nothing.
use mathlib.Core.Path.{ap}
use mathlib.Core.Bool.{not}
use native.Mathlib.Omega.{arith}
use lib.Dec.{eqb}
use Rattle.hop_counts.proofs.Read.{queued_read}
use Rattle.hop_judge.proofs.Judging.{handed_on, refused_already, judged_next}
use Rattle.hop_judge.proofs.Known.{room_known}
use Rattle.hop_judge.proofs.judge_asked.Goals as goal

pub invariant_of-state : goal.invariant_of-state
invariant_of-state c = record { room = room_known _ _ c.judge_pair.ensures c.in_ok-n.was }

pub returns : goal.returns
returns c =
    judged_next _ _ c.judge_pair.ensures _ (omega arith) c.in_ok-n.was (λ claim. ap (λ x. not (eqb x 0)) (queued_read _ claim)) c.unless_waiting.ensures

pub returns-in_err-n : goal.returns-in_err-n
returns-in_err-n c = refused_already _ _ c.judge_pair.ensures _ c.in_err-n.was (handed_on _ c.from_residual.ensures.1)
