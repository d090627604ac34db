-- `all_lines` meets its contract: before a, the lines of the nodes below a stand, and the copy is as it was. Assumes nothing.
use mathlib.Core.Path.{refl, sym, ap, ◌∙◌}
use Prim.Native.Nat.{◌+◌, ◌*◌}
use native.Mathlib.Nat.{le_antisymm}
use native.Mathlib.Omega.{arith}
use lib.ListN.{length}
use lib.Seq.{sets, length-sets}
use Rattle.hop_rule.specs.Words.{joined}
use Rattle.hop_rule.specs.Stored.{read}
use Rattle.hop_rule.specs.Worth.{numbers}
use Rattle.hop_laws.specs.Lines.{lines_of, lines_below}
use Rattle.hop_laws.proofs.Worth.{lines_are}
use Rattle.hop_worth.proofs.Filling.{lines_behind, node_more, node_count, copied_still, count_claimed, lines_few, node_room}
use Rattle.hop_worth.proofs.all_lines.Goals as goal

pub loop-a-init : goal.loop-a-init
unfolding joined numbers
loop-a-init c = (omega arith, refl, refl, refl, refl)

pub lines_of-k-requires : goal.lines_of-k-requires
lines_of-k-requires c =
    let inv = c.loop-a.invariant in
    let p = c.requires in
    let l = c.loop-a-test.true in
    let (few, fits) = node_room p.0 inv.1 l p.1 in
    (copied_still inv.2 p.0, l, few, omega (arith, fits, inv.3))

pub loop-a-preserved : goal.loop-a-preserved
loop-a-preserved c =
    let x = c.args in
    let p = c.requires in
    let inv = c.loop-a.invariant in
    let l = c.loop-a-test.true in
    let (count, put, still) = c.lines_of-k.ensures in
    let t = read x.s.now in
    let all = count_claimed p.0 in
    let whole = ap (λ m. sets c.loop-a.list (7 * c.loop-a.k) (numbers (lines_of t c.loop-a.a m))) all in (
      omega (arith, l),
      count ∙ ap (λ m. c.loop-a.k + length (lines_of t c.loop-a.a m)) all ∙ node_count t c.loop-a.a inv.1,
      still ∙ inv.2,
      ap length put ∙ length-sets c.loop-a.list (7 * c.loop-a.k) (numbers (lines_of t c.loop-a.a x.n)) ∙ inv.3,
      lines_behind (lines_below t c.loop-a.a) (lines_of t c.loop-a.a t.n) 0 x.list.now (omega (arith, inv.1)) inv.4 (put ∙ whole) ∙ ap (λ ls. sets x.list.now 0 (numbers ls)) (node_more t c.loop-a.a),
    )

pub returns : goal.returns
returns c =
    let x = c.args in
    let h = c.requires.0 in
    let t = read x.s.now in
    let inv = c.loop-a.invariant in
    let all = le_antisymm inv.0 c.loop-a-test.false ∙ count_claimed h in
    let count = inv.1 ∙ ap (λ m. length (lines_below t m)) all ∙ ap length (sym (lines_are t)) in (
      count,
      omega (arith, count, lines_few h),
      inv.4 ∙ ap (λ m. sets x.list.now 0 (numbers (lines_below t m))) all ∙ ap (λ ls. sets x.list.now 0 (numbers ls)) (sym (lines_are t)),
      inv.2,
    )
