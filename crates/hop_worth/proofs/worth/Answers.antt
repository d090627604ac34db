-- `worth` meets its contract: it is refused by its number, or the copy is made and all lines are written. Assumes nothing.
use Rattle.hop_judge.proofs.Judging.{handed_on}
use Rattle.hop_worth.proofs.Called.{worth_stopped, known, count_most, copy_fits, copy_made, worth_made}
use Rattle.hop_worth.proofs.worth.Goals as goal

pub size-requires : goal.size-requires
size-requires c =
    count_most _ _ _ c.judge_worth.ensures c.in_ok-n.was

pub copy-requires : goal.copy-requires
copy-requires c =
    copy_fits _ _ _ c.judge_worth.ensures c.in_ok-n.was c.size.ensures

pub all_lines-lines-requires : goal.all_lines-lines-requires
all_lines-lines-requires c =
    let judged = c.judge_worth.ensures in
    (copy_made _ _ _ judged c.in_ok-n.was c.size.ensures c.copy.ensures, (known _ _ _ judged c.in_ok-n.was).holds)

pub returns-in_err-n : goal.returns-in_err-n
returns-in_err-n c = rw (handed_on _ c.from_residual.ensures.1) (worth_stopped _ _ _ c.judge_worth.ensures c.in_err-n.was)

pub returns : goal.returns
returns c =
    let (count, most, put, still) = c.all_lines-lines.ensures in
    worth_made _ _ _ c.judge_worth.ensures c.in_ok-n.was c.size.ensures c.copy.ensures count put still
