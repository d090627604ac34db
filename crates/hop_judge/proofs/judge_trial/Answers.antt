-- `judge_trial` meets its contract: at rest, a trial buffer with no room for the state's form is refused. Assumes nothing.
use mathlib.Core.Path.{ap, ◌∙◌}
use mathlib.Core.List.{[], ◌∷◌}
use native.Mathlib.Omega.{arith}
use lib.Dec.{ltb}
use lib.ListN.{length}
use Rattle.hop_rule.specs.Stored.{size}
use Rattle.hop_rule.specs.Calls.{not_at_rest}
use Rattle.hop_judge.proofs.Judging.{handed_on, refused_already, judged_next}
use Rattle.hop_judge.proofs.Known.{room_known}
use Rattle.hop_judge.proofs.judge_trial.Goals as goal

pub size-requires : goal.size-requires
size-requires c =
    let s = c.args.s.now in
    (room_known s (not_at_rest s ∷ []) c.judge_rest.ensures c.in_ok-n.was).most

pub returns : goal.returns
returns c =
    let x = c.args in
    judged_next _ _ c.judge_rest.ensures _ (omega arith) c.in_ok-n.was (λ claim. ap (ltb (length x.trial.now)) (c.size.ensures ∙ ap size claim)) c.unless.ensures

pub returns-in_err-n : goal.returns-in_err-n
returns-in_err-n c = refused_already _ _ c.judge_rest.ensures _ c.in_err-n.was (handed_on _ c.from_residual.ensures.1)
