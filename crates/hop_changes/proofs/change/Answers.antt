-- `change` meets its contract: after i turns the running sum is the difference of the two sums over the places below i. Assumes nothing.
use mathlib.Core.Path.{ap, ◌∙◌}
use Prim.Native.Nat.{◌<◌}
use native.Mathlib.Nat.{le_antisymm}
use native.Mathlib.Omega.{arith}
use Rattle.hop_changes.proofs.Sums.{change_to, change_none, change_all, change_fits, change_turn}
use Rattle.hop_changes.proofs.change.Goals as goal

pub loop-i-init : goal.loop-i-init
loop-i-init c = (omega arith, change_none _ _ _)

pub overflow_add-sum : goal.overflow_add-sum
overflow_add-sum c =
    let few : c.loop-i.i < 1600 = omega (arith, c.loop-i-test.true, c.square-i-end.ensures) in
    change_fits c.args.n c.args.before.now c.args.after.now c.requires.0.most c.loop-i.i few c.loop-i.sum-bits c.change_at-sum.result c.loop-i.invariant.1 c.change_at-sum.ensures

pub loop-i-preserved : goal.loop-i-preserved
loop-i-preserved c =
    let few : c.loop-i.i < 1600 = omega (arith, c.loop-i-test.true, c.square-i-end.ensures) in (
      omega (arith, c.loop-i-test.true, c.square-i-end.ensures.0),
      change_turn c.args.n c.args.before.now c.args.after.now c.requires.0.most c.loop-i.i few c.loop-i.sum-bits c.change_at-sum.result c.loop-i.invariant.1 c.change_at-sum.ensures,
    )

pub returns : goal.returns
returns c =
    c.loop-i.invariant.1
    ∙ ap (change_to c.args.n c.args.before.now c.args.after.now) (le_antisymm c.loop-i.invariant.0 (omega (arith, c.loop-i-test.false, c.square-i-end.ensures.0)))
    ∙ change_all _ _ _
