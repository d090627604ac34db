-- `judge_worth` meets its contract: last, a list that cannot hold the numbers of all lines is refused. Assumes nothing.
use mathlib.Core.Path.{ap}
use mathlib.Core.List.{[], ◌∷◌}
use native.Mathlib.Omega.{arith}
use lib.Dec.{ltb}
use lib.ListN.{length}
use Rattle.hop_rule.specs.Stored.{size, nodes}
use Rattle.hop_rule.specs.Calls.{not_at_rest, short}
use Rattle.hop_rule.specs.Worth.{worth_refusals}
use Rattle.hop_judge.proofs.Judging.{handed_on, refused_already, judged_next}
use Rattle.hop_judge.proofs.Known.{room_known}
use Rattle.hop_judge.proofs.Read.{tried_read}
use Rattle.hop_judge.proofs.judge_worth.Goals as goal

pub invariant_of-state : goal.invariant_of-state
invariant_of-state c =
    let x = c.args in
    let more = not_at_rest x.s.now ∷ short x.trial.now (size (nodes x.s.now)) ∷ [] in
    record { room = room_known x.s.now more c.judge_trial.ensures c.in_ok-n.was }

pub returns : goal.returns
unfolding worth_refusals
returns c =
    let x = c.args in
    judged_next _ _ c.judge_trial.ensures _ (omega arith) c.in_ok-n.was (λ claim. ap (ltb (length x.list.now)) (tried_read x.s.now claim _ c.tried.ensures.0)) c.unless.ensures

pub returns-in_err-n : goal.returns-in_err-n
unfolding worth_refusals
returns-in_err-n c = refused_already _ _ c.judge_trial.ensures _ c.in_err-n.was (handed_on _ c.from_residual.ensures.1)
