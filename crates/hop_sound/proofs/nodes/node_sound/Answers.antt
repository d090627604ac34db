-- `nodes::node_sound` meets its contract: each way out is a case of the test. Assumes nothing.
use Rattle.hop_sound.specs.Check.{node_sound}
use Rattle.hop_sound.proofs.nodes.node_sound.Goals as goal

pub returns-then-not-views_sound : goal.returns-then-not-views_sound
unfolding node_sound
returns-then-not-views_sound c = simp (← c.views_sound.ensures, c.if-not-views_sound.true)

pub returns-then-not-pairs_sound : goal.returns-then-not-pairs_sound
unfolding node_sound
returns-then-not-pairs_sound c =
    simp (← c.views_sound.ensures, c.if-not-views_sound.false, ← c.pairs_sound.ensures, c.if-not-pairs_sound.true)

pub returns-then-not-routes_sound : goal.returns-then-not-routes_sound
unfolding node_sound
returns-then-not-routes_sound c =
    simp (← c.views_sound.ensures, c.if-not-views_sound.false, ← c.pairs_sound.ensures, c.if-not-pairs_sound.false, ← c.routes_sound.ensures, c.if-not-routes_sound.true)

pub returns : goal.returns
unfolding node_sound
returns c =
    simp (← c.views_sound.ensures, c.if-not-views_sound.false, ← c.pairs_sound.ensures, c.if-not-pairs_sound.false, ← c.routes_sound.ensures, c.if-not-routes_sound.false, ← c.sent_sound.ensures)
