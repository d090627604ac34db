-- `nodes::sent_sound` meets its contract: each way out is a case of the test. Assumes nothing.
use native.Mathlib.Omega.{arith}
use Rattle.hop_rows.proofs.Slices.{are_here, both_here}
use Rattle.hop_sound.specs.Check.{sent_sound}
use Rattle.hop_sound.proofs.nodes.sent_sound.Goals as goal

pub returns-then-not-all_are : goal.returns-then-not-all_are
unfolding sent_sound
returns-then-not-all_are c =
    simp (← are_here c.row2.ensures 0, ← c.all_are.ensures, c.if-not-all_are.true, ← c.pasts_sound.ensures)

pub both_are-requires : goal.both_are-requires
both_are-requires c = omega (arith, c.block.ensures.long, c.block-2.ensures.long)

pub returns : goal.returns
unfolding sent_sound
returns c =
    let places = both_here c.block.ensures c.block-2.ensures 0 in
    simp (← are_here c.row2.ensures 0, ← c.all_are.ensures, c.if-not-all_are.false, c.both_are.ensures, places)
