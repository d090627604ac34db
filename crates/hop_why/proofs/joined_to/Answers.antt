-- `joined_to` meets its contract: before x, those of the nodes below x that u has a route to are in the set and counted. Assumes nothing.
use mathlib.Core.Path.{◌≡◌, ◌∙◌}
use native.Mathlib.Nat.{le_antisymm}
use native.Mathlib.Omega.{arith}
use Rattle.hop_rule.specs.Stored.{read_as}
use Rattle.hop_rule.specs.Why.{joined_to}
use Rattle.hop_why.proofs.Paths.{route_so, route_not}
use Rattle.hop_why.proofs.Sets.{gathered_none, with_it, without, gathered_few, gathered_all}
use Rattle.hop_why.proofs.joined_to.Goals as goal
use Rattle.hop_why.proofs.joined_to.Goals.{then-from-s, else-from-s}

pub loop-x-init : goal.loop-x-init
loop-x-init c = (omega arith, gathered_none _)

pub overflow_add-count : goal.overflow_add-count
overflow_add-count c =
    record { fits = omega (arith, c.args.s.room.most, c.loop-x.invariant.0, gathered_few _ c.loop-x.invariant.1) }

pub loop-x-preserved : goal.loop-x-preserved
loop-x-preserved c =
    let x = c.args in
    let at-loop = c.loop-x in
    let found = at-loop.invariant.1 in
    let read = c.from.ensures ∙ c.route.ensures.distance in
    let so = route_so x.s.n (read_as x.s.n x.s.bytes.now) x.u at-loop.x read in
    let not = route_not x.s.n (read_as x.s.n x.s.bytes.now) x.u at-loop.x read in (
      omega arith,
      elim c.if-from-s.branch [
        | then-from-s w ↦ rw (w.set-is ∙ w.added-set.ensures, w.count-is) (with_it _ found (so w.if-from-s.true))
        | else-from-s w ↦ rw (w.set-is, w.count-is) (without _ found (not w.if-from-s.false))
      ],
    )

pub returns : goal.returns
unfolding joined_to read_as
returns c =
    let x = c.args in
    let inv = c.loop-x.invariant in
    let end : c.loop-x.x ≡ x.s.n = le_antisymm inv.0 c.loop-x-test.false in
    let found = rw end at inv.1 in
    (gathered_all _ found, found.counted)
