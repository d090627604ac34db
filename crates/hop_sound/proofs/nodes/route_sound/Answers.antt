-- `nodes::route_sound` meets its contract: each way out is a case of the test. Assumes nothing.
use borrow.Author.Tests.{lt-ltb, le-ltb, eq-eqb, ne_eqb}
use Rattle.hop_sound.specs.Check.{route_sound}
use Rattle.hop_sound.proofs.nodes.route_sound.Goals as goal

pub returns-then-d-eq0 : goal.returns-then-d-eq0
unfolding route_sound
returns-then-d-eq0 c = simp (← c.get2-d.ensures.0, ← c.get2-h.ensures.0, eq-eqb _ _ c.if-u-v.true, eq-eqb _ _ c.if-d-eq0.true)

pub returns-then-u-v : goal.returns-then-u-v
unfolding route_sound
returns-then-u-v c = simp (← c.get2-d.ensures.0, ← c.get2-h.ensures.0, eq-eqb _ _ c.if-u-v.true, ne_eqb _ _ c.if-d-eq0.false)

pub returns-then-d-s : goal.returns-then-d-s
unfolding route_sound
returns-then-d-s c = simp (← c.get2-d.ensures.0, ← c.get2-h.ensures.0, ne_eqb _ _ c.if-u-v.false, eq-eqb _ _ c.if-d-s.true)

pub returns-then-s-d : goal.returns-then-s-d
unfolding route_sound
returns-then-s-d c = simp (← c.get2-d.ensures.0, ← c.get2-h.ensures.0, ne_eqb _ _ c.if-u-v.false, ne_eqb _ _ c.if-d-s.false, le-ltb _ _ c.if-s-d.true)

pub returns-then-s-h : goal.returns-then-s-h
unfolding route_sound
returns-then-s-h c = simp (← c.get2-d.ensures.0, ← c.get2-h.ensures.0, ne_eqb _ _ c.if-u-v.false, ne_eqb _ _ c.if-d-s.false, lt-ltb _ _ c.if-s-d.false, le-ltb _ _ c.if-s-h.true)

pub returns-then-get2-ne1 : goal.returns-then-get2-ne1
unfolding route_sound
returns-then-get2-ne1 c = simp (← c.get2-d.ensures.0, ← c.get2-h.ensures.0, ne_eqb _ _ c.if-u-v.false, ne_eqb _ _ c.if-d-s.false, lt-ltb _ _ c.if-s-d.false, lt-ltb _ _ c.if-s-h.false, ← c.get2.ensures.0, ne_eqb _ _ c.if-get2-ne1.true)

pub returns : goal.returns
unfolding route_sound
returns c = simp (← c.get2-d.ensures.0, ← c.get2-h.ensures.0, ne_eqb _ _ c.if-u-v.false, ne_eqb _ _ c.if-d-s.false, lt-ltb _ _ c.if-s-d.false, lt-ltb _ _ c.if-s-h.false, ← c.get2.ensures.0, eq-eqb _ _ c.if-get2-ne1.false, ← c.get3.ensures.0)
