-- `told` meets its contract: after k turns the first k values are written. Assumes nothing.
use mathlib.Core.Path.{◌≡◌, ◌∙◌}
use mathlib.Core.Logic.{inl, inr}
use Prim.Native.Nat.{◌+◌}
use native.Mathlib.Omega.{arith}
use lib.ListN.{length, get_or-append}
use Rattle.std.proofs.lemmas.List.{length-append, length-drop}
use Rattle.hop_rows.proofs.Parts.{byte_of, given_none, given_next, given_all}
use Rattle.hop_rows.proofs.RowTests.{itself, tells_below}
use Rattle.hop_sound_rows.proofs.ToldRows.{told_none, told_more}
use Rattle.hop_sound_rows.proofs.told.Goals as goal

pub loop-v-init : goal.loop-v-init
loop-v-init c =
    let views = c.args.views.now in (
      0,
      given_none c.args.destinations.now c.args.values.now c.requires.1 (cc) (cc),
      rw c.copy_from_slice.ensures.after (told_none (simp (length-append, length-drop) (omega arith)) (λ v l. get_or-append views _ 0 v l ∙ byte_of views v)),
      (tells_below (itself _ 0) _ _).shows c.requires.2,
    )

pub bounds-heard-from : goal.bounds-heard-from
bounds-heard-from c =
    let inv = c.loop-v.invariant in
    let next = given_next inv.1 c.in-Some.ensures.steps in
    omega (arith, c.from.ensures, next.first, inv.3 inv.0 next.within, c.requires.0)

pub loop-v-preserved : goal.loop-v-preserved
loop-v-preserved c =
    let inv = c.loop-v.invariant in
    let next = given_next inv.1 c.in-Some.ensures.steps in
    let v = c.from.ensures ∙ next.first in
    (inv.0 + 1, next.given, told_more inv.2 v (omega (arith, v, inv.3 inv.0 next.within, c.requires.0)) next.second, inv.3)

pub returns : goal.returns
returns c =
    let inv = c.loop-v.invariant in
    let over : inv.0 ≡ length c.args.destinations.now = given_all inv.1 (elim c.in-None.ensures.steps [ inl z ↦ inl z.1.0 | inr z ↦ inr z.1.0 ]) in
    rw over at inv.2
