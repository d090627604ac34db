-- `trial` meets its contract: what it counts is the line's, and the front that it copies makes the copy whole again. Assumes nothing.
use native.Mathlib.Omega.{arith}
use Rattle.hop_trial.proofs.Carried.{front_fits, trial_done}
use Rattle.hop_trial.proofs.trial.Goals as goal

pub copy-requires : goal.copy-requires
copy-requires c =
    let p = c.requires in
    let (long, wide) = front_fits p.0 _ _ p.1 p.2 _ c.start.ensures in
    (long, omega (arith, wide))

pub returns : goal.returns
returns c =
    let p = c.requires in
    trial_done p.0 _ _ p.1 p.2 _
    c.turn.ensures
    c.run-ran.ensures
    c.lost-lost_pairs.ensures.0
    c.lost-gained_pairs.ensures.0
    c.change-hops.ensures
    c.start.ensures
    c.copy.ensures
    (omega arith)
