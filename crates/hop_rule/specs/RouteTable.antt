-- 02, R-4: what asking for a route gives, done and refused. Uses Calls, and the site of R-3's table: the line 0-1-2 with node 3 apart, at rest, and with its links just up.
use Rattle.std.specs.Prelude.{◌≡◌, refl, List, [], ◌∷◌, ◌++◌, ℕ, replicate, take}
use Rattle.hop_rule.specs.Words.{loop, sum, listed, joined, every, first}
use Rattle.hop_rule.specs.Rule.{least, distance_of, downstream_of, send, recompute, hear, deliver, link_up, pass, total, passes, fresh}
use Rattle.hop_rule.specs.Stored.{size, grid, cube, destination_at, value_at, block, stored, start, nodes, flat, deep, read_as}
use Rattle.hop_rule.specs.Sound.{waits, differ, each, pairs, triples, is_sound, is_sound_as}
use Rattle.hop_rule.specs.Calls.{route, judge, refusals, done, outcome}
use Rattle.hop_rule.specs.WorthTable.{linked, rested}
use Rattle.hop_rule.specs.WhyTable.{line, resting, busy}

-- Its number with its other answers.
unfoldable pub answered : ℕ → ℕ → List ℕ → List ℕ
answered u v s = let o = outcome (route u v) s [] in o.number ∷ o.answers

-- Two hops by way of 1; the node itself; no route, from either side. While entries wait, what the node has heard so far.
pub answers_hold :
    (answered 0 2 (resting ++ 7 ∷ []) ∷ answered 2 2 resting ∷ answered 0 3 resting ∷ answered 3 0 resting ∷ answered 0 1 busy ∷ answered 1 1 busy ∷ [])
    ≡ (0 ∷ 2 ∷ 1 ∷ []) ∷ (0 ∷ 0 ∷ 2 ∷ []) ∷ (0 ∷ 4 ∷ 255 ∷ []) ∷ (0 ∷ 4 ∷ 255 ∷ []) ∷ (0 ∷ 4 ∷ 255 ∷ []) ∷ (0 ∷ 0 ∷ 1 ∷ []) ∷ []
unfolding answered resting busy line rested linked outcome done refusals judge is_sound_as is_sound triples pairs each differ waits read_as deep flat nodes start stored block value_at destination_at cube grid size fresh passes total pass link_up deliver hear recompute send downstream_of distance_of least first every joined listed sum loop
answers_hold = refl

-- An empty buffer 2, a node count 1, a short state 2, an unsound one 3, and only then either number 4. None has another answer.
pub refusals_hold :
    (answered 4 4 [] ∷ answered 4 4 (0 ∷ []) ∷ answered 4 4 (41 ∷ []) ∷ answered 4 4 (take 40 busy) ∷ answered 4 4 (1 ∷ replicate 7 1) ∷ answered 4 0 busy ∷ answered 0 4 busy ∷ [])
    ≡ (2 ∷ []) ∷ (1 ∷ []) ∷ (1 ∷ []) ∷ (2 ∷ []) ∷ (3 ∷ []) ∷ (4 ∷ []) ∷ (4 ∷ []) ∷ []
unfolding answered busy linked outcome done refusals judge is_sound_as is_sound triples pairs each differ waits read_as deep flat nodes start stored block value_at destination_at cube grid size fresh total link_up send downstream_of distance_of least first every joined listed sum loop
refusals_hold = refl
