-- `judge_node` meets its contract: where the state passes, it refuses a number that is not below the node count. Assumes nothing.
use mathlib.Core.Path.{ap}
use native.Mathlib.Omega.{arith}
use lib.Dec.{leb}
use Rattle.hop_judge.proofs.Judging.{handed_on, refused_already, judged_next}
use Rattle.hop_judge.proofs.judge_node.Goals as goal

pub returns : goal.returns
returns c =
    let test = ap (λ n. leb n c.args.a) in
    judged_next _ _ c.judge_state.ensures _ (omega arith) c.in_ok-n.was test c.unless.ensures

pub returns-in_err-n : goal.returns-in_err-n
returns-in_err-n c = refused_already _ _ c.judge_state.ensures _ c.in_err-n.was (handed_on _ c.from_residual.ensures.1)
