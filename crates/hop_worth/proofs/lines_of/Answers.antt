-- `lines_of` meets its contract: before b, the lines of a with the nodes below b stand behind the k, and the copy is as it was. Assumes nothing.
use mathlib.Core.Path.{refl, sym, ap, ◌∙◌}
use Prim.Native.Nat.{◌*◌}
use native.Mathlib.Omega.{arith}
use lib.ListN.{length}
use lib.Seq.{sets, length-sets}
use Rattle.hop_rule.specs.Stored.{read}
use Rattle.hop_rule.specs.Worth.{numbers}
use Rattle.hop_laws.specs.Lines.{lines_of}
use Rattle.hop_worth.specs.Writing.{line_of}
use Rattle.hop_worth.proofs.Filling.{lines_behind, none_yet, pair_more, pair_count, pairs_most, copied_still}
use Rattle.hop_worth.proofs.lines_of.Goals as goal

pub loop-b-init : goal.loop-b-init
unfolding numbers
loop-b-init c =
    let x = c.args in
    let p = c.requires in
    let none = none_yet (read x.s.now) x.a in
    (omega arith, omega (arith, p.1), omega (arith, ap length none), refl, refl, ap (λ l. sets x.list.now (7 * x.k) (numbers l)) (sym none))

pub line_of-i-requires : goal.line_of-i-requires
line_of-i-requires c =
    let x = c.args in
    let p = c.requires in
    let inv = c.loop-b.invariant in
    let l = c.loop-b-test.true in
    let most = pairs_most (read x.s.now) x.a c.loop-b.b x.n l in
    (copied_still inv.3 p.0, inv.0, l, omega (arith, inv.2, most, p.2), omega (arith, inv.2, inv.4, most, p.3))

pub loop-b-preserved : goal.loop-b-preserved
loop-b-preserved c =
    let x = c.args in
    let inv = c.loop-b.invariant in
    let l = c.loop-b-test.true in
    let (count, put, still) = c.line_of-i.ensures in
    let t = read x.s.now in
    let b = c.loop-b.b in (
      omega (arith, inv.0),
      omega (arith, l),
      pair_count t x.a b x.k inv.2 count,
      still ∙ inv.3,
      ap length put ∙ length-sets c.loop-b.list (7 * c.loop-b.i) (numbers (line_of t x.a b)) ∙ inv.4,
      lines_behind (lines_of t x.a b) (line_of t x.a b) x.k x.list.now inv.2 inv.5 put ∙ ap (λ ls. sets x.list.now (7 * x.k) (numbers ls)) (pair_more t x.a b),
    )
