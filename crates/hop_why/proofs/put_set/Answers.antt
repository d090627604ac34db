-- `put_set` meets its contract: before x, the numbers below x that are in the set stand in the list. Assumes nothing.
use mathlib.Core.Path.{◌≡◌, sym, ap, ◌∙◌}
use native.Mathlib.Nat.{le_antisymm}
use native.Mathlib.Omega.{arith}
use lib.Seq.{sets}
use Rattle.hop_rule.specs.Words.{those}
use Rattle.hop_seen.specs.Seen.{has}
use Rattle.hop_why.proofs.Sets.{filled_none, filled_with, filled_without, filled_few, filled_room}
use Rattle.hop_why.proofs.put_set.Goals as goal
use Rattle.hop_why.proofs.put_set.Goals.{then-has, else-has}

pub loop-x-init : goal.loop-x-init
loop-x-init c = (omega arith, filled_none _)

pub bounds-list-k : goal.bounds-list-k
bounds-list-k c = filled_room _ c.loop-x.invariant.1 c.requires.1 c.loop-x-test.true (sym c.has.ensures ∙ c.if-has.true)

pub overflow_add-k : goal.overflow_add-k
overflow_add-k c =
    let inv = c.loop-x.invariant in
    let few = c.requires.0 in
    record { fits = omega (arith, inv.0, filled_few _ inv.1) }

pub loop-x-preserved : goal.loop-x-preserved
loop-x-preserved c =
    let test = c.has.ensures in
    let before = c.loop-x.invariant.1 in (
      omega arith,
      elim c.if-has.branch [
        | then-has w ↦ rw (w.list-is, w.k-is) (filled_with _ before (sym test ∙ w.if-has.true))
        | else-has w ↦ rw (w.list-is, w.k-is) (filled_without _ before (sym test ∙ w.if-has.false))
      ],
    )

pub returns : goal.returns
returns c =
    let x = c.args in
    let inv = c.loop-x.invariant in
    let end : c.loop-x.x ≡ x.n = le_antisymm inv.0 c.loop-x-test.false in
    inv.1.put ∙ ap (λ m. sets x.list.now 0 (those m (has x.set))) end
