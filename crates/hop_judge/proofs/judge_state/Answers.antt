-- `judge_state` meets its contract: a buffer that is not empty is judged as for making a state of as many nodes as it claims, and then by the check. Assumes nothing.
use mathlib.Core.Logic.{◌≢◌}
use lib.ListN.{length}
use mathlib.Core.Path.{ap, ◌∙◌}
use mathlib.Core.Bool.{not}
use native.Mathlib.Omega.{arith}
use Rattle.hop_rule.specs.Sound.{is_sound_as}
use Rattle.hop_judge.proofs.Judging.{handed_on, gone, refused_already, judged_next, claimed}
use Rattle.hop_judge.proofs.Known.{room_made}
use Rattle.hop_judge.proofs.judge_state.Goals as goal

pub invariant_of-state : goal.invariant_of-state
invariant_of-state c =
    let same = (gone _ _ c.judge_make.ensures c.in_ok-n.was).1 in
    record { room = rw same (room_made _ _ c.judge_make.ensures c.in_ok-n.was) }

pub returns : goal.returns
returns c =
    let some : length c.args.s.now ≢ 0 = omega arith in
    let judged = claimed _ some c.nodes.ensures c.judge_make.ensures in
    judged_next _ _ judged _ (omega arith) c.in_ok-n.was (λ claim. ap not (c.is_sound.ensures ∙ ap (λ m. is_sound_as m c.args.s.now) claim)) c.unless.ensures

pub returns-in_err-n : goal.returns-in_err-n
returns-in_err-n c =
    let some : length c.args.s.now ≢ 0 = omega arith in
    refused_already _ _ (claimed _ some c.nodes.ensures c.judge_make.ensures) _ c.in_err-n.was (handed_on _ c.from_residual.ensures.1)
