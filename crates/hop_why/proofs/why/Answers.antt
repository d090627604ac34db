-- `why` meets its contract: it is refused by its number, or hands over the path where there is a route and the set where there is none. Assumes nothing.
use mathlib.Core.Path.{◌∙◌}
use Rattle.hop_judge.proofs.Judging.{handed_on}
use Rattle.hop_why.proofs.Called.{why_stopped, ready, path_inside, path_given, set_given}
use Rattle.hop_why.proofs.why.Goals as goal

pub invariant_of-state : goal.invariant_of-state
invariant_of-state c = record { room = (ready _ _ _ c.judge_why.ensures c.in_ok-n.was).0 }

pub route-requires : goal.route-requires
route-requires c = let (room, lu, lv) = ready _ _ _ c.judge_why.ensures c.in_ok-n.was in (lu, lv)

pub show_path-requires : goal.show_path-requires
show_path-requires c =
    let judged = c.judge_why.ensures in
    let (room, lu, lv) = ready _ _ _ judged c.in_ok-n.was in
    (lv, c.if-hops-n.true, path_inside _ _ _ judged c.in_ok-n.was (c.from-hops.ensures ∙ c.route.ensures.distance) c.if-hops-n.true)

pub show_set-requires : goal.show_set-requires
show_set-requires c =
    let (room, lu, lv) = ready _ _ _ c.judge_why.ensures c.in_ok-n.was in
    lu

pub returns-in_err-n : goal.returns-in_err-n
returns-in_err-n c = rw (handed_on _ c.from_residual.ensures.1) (why_stopped _ _ _ _ c.judge_why.ensures c.in_err-n.was)

pub returns-then-hops-n : goal.returns-then-hops-n
returns-then-hops-n c = c.show_path.ensures ∙ path_given _ _ _ _ c.judge_why.ensures c.in_ok-n.was (c.from-hops.ensures ∙ c.route.ensures.distance) c.if-hops-n.true

pub returns-else-hops-n : goal.returns-else-hops-n
returns-else-hops-n c = c.show_set.ensures ∙ set_given _ _ _ _ c.judge_why.ensures c.in_ok-n.was (c.from-hops.ensures ∙ c.route.ensures.distance) c.if-hops-n.false
