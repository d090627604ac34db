-- `note` meets its contract: the lengths are one stretch of the state, and it is copied. Assumes nothing.
use mathlib.Core.Path.{◌≡◌, ap, ◌∙◌}
use mathlib.Core.List.{◌++◌}
use Prim.Native.Nat.{ℕ, ◌+◌, ◌-◌, ◌<◌, ◌≤◌}
use native.Mathlib.Omega.{arith}
use lib.ListN.{length, get_or, drop, get_or-append}
use lib.Seq.{length-take-le, get_or-take, get_or-drop}
use Rattle.hop_rule.specs.declared.Table.TheVariants.{Lengths}
use Rattle.hop_cells.specs.Cells.{get}
use Rattle.hop_cells.proofs.Places.{size_most, ends_inside}
use Rattle.hop_runs.proofs.note.Goals as goal

pub overflow_add-from : goal.overflow_add-from
overflow_add-from c = omega (arith, c.start-from.ensures, c.square-k.ensures.0, ends_inside c.args.s.n Lengths, size_most c.args.s.room.most)

pub slice_bounds-copy_from_slice-end-3 : goal.slice_bounds-copy_from_slice-end-3
slice_bounds-copy_from_slice-end-3 c = omega (arith, c.start-from.ensures, c.square-k.ensures.0, ends_inside c.args.s.n Lengths, c.args.s.room.fits)

pub returns : goal.returns
unfolding get
returns c =
    let a = c.args in
    let k = c.square-k.result in
    let from = c.start-from.result in
    let many : from + k - from ≡ k = omega arith in
    let lent : k ≤ length a.noted.now = omega (arith, c.square-k.ensures.0, c.requires) in
    let long : length c.copy_from_slice.new.self ≡ k = c.copy_from_slice.ensures.len ∙ length-take-le k a.noted.now lent in
    let byte : (i : ℕ) → i < k → get_or (c.copy_from_slice.new.self ++ drop k a.noted.now) i 0 ≡ get_or a.s.bytes.now (from + i) 0 =
    λ i l. get_or-append c.copy_from_slice.new.self (drop k a.noted.now) 0 i (omega (arith, long))
    ∙ ap (λ y. get_or y i 0) c.copy_from_slice.ensures.after
    ∙ get_or-take (from + k - from) (drop from a.s.bytes.now) i 0 (omega (arith, many))
    ∙ get_or-drop from a.s.bytes.now i 0 in
    (c.queued.ensures.0, c.queued.ensures.1, λ i l. byte i (omega (arith, c.square-k.ensures.0)) ∙ ap (λ j. get_or a.s.bytes.now (j + i) 0) c.start-from.ensures)
