-- `line_of` meets its contract: whether the two bytes of the link agree tells whether the pair is tried. Assumes nothing.
use mathlib.Core.Path.{refl}
use native.Mathlib.Omega.{arith}
use Rattle.hop_rule.specs.Stored.{read}
use Rattle.hop_worth.proofs.Filling.{one_given, line_given, none_given, small_found, tried_so, tried_not}
use Rattle.hop_worth.proofs.line_of.Goals as goal

pub returns-then-get2 : goal.returns-then-get2
returns-then-get2 c =
    let x = c.args in
    let p = c.requires in
    let t = read x.s.now in
    let (count, put) = none_given t x.a x.b x.i x.list.now (tried_not p.0 x.a x.b p.1 c.get2.ensures.0 c.get2-2.ensures.0 c.if-get2.true) in
    (count, put, refl)

pub trial-f-requires : goal.trial-f-requires
trial-f-requires c =
    let x = c.args in
    let p = c.requires in
    (p.0, tried_so p.0 x.a x.b p.1 c.get2.ensures.0 c.get2-2.ensures.0 c.if-get2.false, p.2)

pub put_line-requires : goal.put_line-requires
put_line-requires c =
    let x = c.args in
    let p = c.requires in
    let t = read x.s.now in
    let so = tried_so p.0 x.a x.b p.1 c.get2.ensures.0 c.get2-2.ensures.0 c.if-get2.false in
    let few = p.0.fine.most in (
      omega (arith, one_given t x.a x.b so, p.4),
      omega (arith, p.1, p.2, p.0.claim, few),
      omega (arith, p.2, p.0.claim, few),
      small_found x.a x.b p.0 so p.2 c.trial-f.ensures.0,
    )

pub returns : goal.returns
returns c =
    let x = c.args in
    let p = c.requires in
    let t = read x.s.now in
    let so = tried_so p.0 x.a x.b p.1 c.get2.ensures.0 c.get2-2.ensures.0 c.if-get2.false in
    let (found, still) = c.trial-f.ensures in
    let (count, put) = line_given t x.a x.b x.i x.list.now so found c.put_line.ensures in
    (count, put, still)
