-- `run` meets its contract: it is refused by its number, or the passes made under the allowance are the outcome's. Assumes nothing.
use mathlib.Core.List.{[]}
use native.Mathlib.Omega.{arith}
use Rattle.hop_rule.specs.Calls.{refusals}
use Rattle.hop_judge.proofs.Judging.{handed_on, call_refused}
use Rattle.hop_judge.proofs.Known.{room_known}
use Rattle.hop_core.proofs.Events.{run_done}
use Rattle.hop_core.proofs.run.Goals as goal

pub run-ran-requires : goal.run-ran-requires
run-ran-requires c = (room_known _ [] c.judge_state.ensures c.in_ok-n.was, omega arith)

pub returns-in_err-n : goal.returns-in_err-n
unfolding refusals
returns-in_err-n c = rw (handed_on _ c.from_residual.ensures.1) (call_refused _ _ _ _ c.judge_state.ensures c.in_err-n.was)

pub returns : goal.returns
returns c =
    let allowed = c.from.ensures in
    let (did, left) = c.run-ran.ensures in
    run_done _ c.judge_state.ensures c.in_ok-n.was _ (rw allowed at did) (rw allowed at left)
