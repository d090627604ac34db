-- `fill_cells` meets its contract: the stretch lies inside the state, and a run of one number is written over it. Assumes nothing.
use mathlib.Core.Path.{◌≡◌, sym, ap, ◌∙◌}
use Prim.Native.Nat.{◌+◌, ◌-◌, ◌≤◌}
use native.Mathlib.Omega.{arith}
use lib.ListN.{length, replicate, length-replicate}
use lib.Seq.{paste}
use borrow.Rule.Slice.PartMut.{mid_len}
use Rattle.std.proofs.lemmas.Slice.{put_mid-paste}
use Rattle.hop_cells.proofs.Places.{size_most, ends_inside}
use Rattle.hop_cells.proofs.Fills.{filled}
use Rattle.hop_cells.proofs.fill_cells.Goals as goal

pub overflow_add-from : goal.overflow_add-from
overflow_add-from c = omega (arith, c.start.ensures, ends_inside c.args.n c.args.t, size_most c.requires.0.most)

pub overflow_add-from-2 : goal.overflow_add-from-2
overflow_add-from-2 c = omega (arith, c.start.ensures, ends_inside c.args.n c.args.t, size_most c.requires.0.most)

pub slice_bounds-fill-end : goal.slice_bounds-fill-end
slice_bounds-fill-end c = omega (arith, c.start.ensures, ends_inside c.args.n c.args.t, c.requires.0.fits)

pub returns : goal.returns
returns c =
    let a = c.args in
    let from = c.start.result + a.i in
    let to = from + a.k in
    let fits : to ≤ length a.s.now = omega (arith, c.start.ensures, ends_inside a.n a.t, c.requires.0.fits) in
    let long : to - from ≡ a.k = omega arith in
    let written = c.fill.ensures.after (λ y e. e) ∙ ap (λ k. replicate k a.x) (mid_len from to a.s.now fits ∙ long) in
    put_mid-paste from (to - from) a.s.now c.fill.new.self (replicate a.k a.x) a.k written (sym long) (sym (length-replicate a.k a.x))
    ∙ ap (λ at. paste a.s.now (at + a.i) (replicate a.k a.x) a.k) c.start.ensures
    ∙ sym (filled a.n a.t a.i a.x a.s.now a.k (omega (arith, c.start.ensures)))
