-- `judge_pair` meets its contract: where the first node passes, the second is judged as the first was. Assumes nothing.
use mathlib.Core.Path.{ap}
use native.Mathlib.Omega.{arith}
use lib.Dec.{leb}
use Rattle.hop_judge.proofs.Judging.{handed_on, refused_already, judged_next}
use Rattle.hop_judge.proofs.judge_pair.Goals as goal

pub returns : goal.returns
returns c =
    let test = ap (λ n. leb n c.args.b) in
    judged_next _ _ c.judge_node.ensures _ (omega arith) c.in_ok-n.was test c.unless.ensures

pub returns-in_err-n : goal.returns-in_err-n
returns-in_err-n c = refused_already _ _ c.judge_node.ensures _ c.in_err-n.was (handed_on _ c.from_residual.ensures.1)
