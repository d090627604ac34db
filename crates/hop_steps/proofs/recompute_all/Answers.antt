-- `recompute_all` meets its contract: after v turns the destinations below v are recomputed, by what was found for all of them before. Assumes nothing.
use Prim.Native.Nat.{◌-◌}
use native.Mathlib.Omega.{arith}
use lib.ListN.{get_or-replicate}
use Rattle.hop_laws.proofs.Words.{loop_turn}
use Rattle.hop_steps.proofs.Kept.{renewed}
use Rattle.hop_steps.proofs.recompute_all.Goals as goal

pub find_all-requires : goal.find_all-requires
find_all-requires c = let pre = c.requires in (pre.1, pre.0.most, pre.0.most, λ v l. (rw (get_or-replicate 40 v (c.args.n - 1) 0 (omega arith)) (omega arith), get_or-replicate 40 v 255 0 (omega arith)))

pub loop-v-preserved : goal.loop-v-preserved
loop-v-preserved c =
    let less = c.loop-v-test.true in
    let inv = c.loop-v.invariant in
    let turn = renewed _ _ c.requires.1 _ _ _ _ less inv.2 (c.find_all.ensures _ less).0 c.renew.ensures in
    (omega arith, omega arith, loop_turn _ _ _ inv.2 turn)
