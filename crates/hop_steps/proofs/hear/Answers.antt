-- `hear` meets its contract: a write in the part that is lent is a write at its place in the whole. Assumes nothing.
use mathlib.Core.Path.{◌∙◌, ap}
use Prim.Native.Nat.{ℕ, ◌+◌, ◌*◌, ◌-◌, ◌≤◌}
use native.Mathlib.Omega.{arith}
use lib.ListN.{length, set}
use borrow.Rule.Slice.PartMut.{set_mid_at, mid_len}
use Rattle.hop_rule.specs.declared.Table.TheVariants.{Views}
use Rattle.hop_cells.specs.Cells.{put}
use Rattle.hop_cells.proofs.Places.{ends_inside, stretch_cell, stretch_most, cell2_lt}
use Rattle.hop_steps.proofs.hear.Goals as goal

pub overflow_add-from : goal.overflow_add-from
overflow_add-from c =
    let a = c.args in omega (arith, c.start.ensures, c.triple.ensures.0, ends_inside a.n Views, stretch_most a.n a.u c.requires.1)

pub overflow_add-to : goal.overflow_add-to
overflow_add-to c =
    let a = c.args in omega (arith, c.start.ensures, c.triple.ensures.0, ends_inside a.n Views, stretch_most a.n a.u c.requires.1)

pub slice_bounds-hear_in-end : goal.slice_bounds-hear_in-end
slice_bounds-hear_in-end c =
    let a = c.args in omega (arith, c.start.ensures, c.triple.ensures.0, ends_inside a.n Views, stretch_most a.n a.u c.requires.1)

pub returns : goal.returns
unfolding put
returns c =
    let a = c.args in
    let p = c.requires in
    let from = c.start.result + c.triple.result in
    let to = from + a.n * a.n in
    let fits : to ≤ length a.s.now = omega (arith, c.start.ensures, c.triple.ensures.0, ends_inside a.n Views, stretch_most a.n a.u p.1) in
    rw c.hear_in.ensures
    (set_mid_at from (to - from) (a.w * a.n + a.v) a.s.now a.d (rw (mid_len from to a.s.now fits) (omega (arith, cell2_lt p.2 p.3)))
    ∙ ap (λ (x : ℕ). set a.s.now x a.d) (omega (arith, c.start.ensures, c.triple.ensures.0, stretch_cell a.n a.u a.w a.v)))
