-- `nodes::past_sound` meets its contract: each way out is a case of the test. Assumes nothing.
use native.Mathlib.Omega.{arith}
use borrow.Author.Tests.{le-leb, lt-leb}
use Rattle.hop_rows.proofs.Parts.{row_rest}
use Rattle.hop_rows.proofs.Slices.{both_here}
use Rattle.hop_sound.specs.Check.{past_sound}
use Rattle.hop_sound.proofs.nodes.past_sound.Goals as goal

pub returns-then-s-m : goal.returns-then-s-m
unfolding past_sound
returns-then-s-m c = simp (← c.get2-m.ensures.0, lt-leb _ _ c.if-s-m.true)

pub both_are-requires : goal.both_are-requires
both_are-requires c = let destinations = row_rest c.row3.ensures c.if-s-m.false in let values = row_rest c.row3-2.ensures c.if-s-m.false in omega (arith, destinations.long, values.long)

pub returns : goal.returns
unfolding past_sound
returns c =
    let places = both_here (row_rest c.row3.ensures c.if-s-m.false) (row_rest c.row3-2.ensures c.if-s-m.false) 0 in
    simp (← c.get2-m.ensures.0, le-leb _ _ c.if-s-m.false, c.both_are.ensures, places)
