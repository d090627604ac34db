-- `make` meets its contract: it is refused by its number, or there is room and the bytes made are the outcome's. Assumes nothing.
use Rattle.hop_judge.proofs.Judging.{handed_on, call_refused}
use Rattle.hop_judge.proofs.Known.{room_made}
use Rattle.hop_core.proofs.Events.{make_done}
use Rattle.hop_core.proofs.make.Goals as goal

pub make-requires : goal.make-requires
make-requires c = room_made _ _ c.judge_make.ensures c.in_ok-judge_make.was

pub returns-in_err-judge_make : goal.returns-in_err-judge_make
returns-in_err-judge_make c = rw (handed_on _ c.from_residual.ensures.1) (call_refused _ _ _ _ c.judge_make.ensures c.in_err-judge_make.was)

pub returns : goal.returns
returns c =
    make_done _ _ c.judge_make.ensures c.in_ok-judge_make.was c.make.ensures
