-- 01, 'Sound means all of these': that each clause is needed. Each state here is made to break one clause, and is refused with 3. Uses Calls.
-- (That a queue's length is at most n has no case: it follows from the clauses on what waits there.)
use Rattle.std.specs.Prelude.{◌≡◌, refl, List, [], ◌∷◌, map, ℕ, ◌+◌, length, set, replicate}
use Rattle.hop_rule.specs.declared.Table.{Table}
use Rattle.hop_rule.specs.declared.Table.TheVariants.{Links, Distances, Downstreams, Views, Lengths, Destinations, Values}
use Rattle.hop_rule.specs.Words.{loop, sum, listed, joined, every, first}
use Rattle.hop_rule.specs.Rule.{least, distance_of, downstream_of, link_up, fresh}
use Rattle.hop_rule.specs.Stored.{size, grid, cube, destination_at, value_at, block, stored, start, nodes, flat, deep, read_as}
use Rattle.hop_rule.specs.Sound.{waits, differ, each, pairs, triples, is_sound, is_sound_as}
use Rattle.hop_rule.specs.Calls.{check, judge, refusals, done, outcome}

-- A byte of a block is overwritten.
pub data Stray : Type 0 where
  stray : Table → ℕ → ℕ → Stray

unfoldable pub damaged : List Stray → List ℕ → List ℕ
damaged [] s = s
damaged (stray t i x ∷ more) s = damaged more (set s (start 2 t + i) x)

-- Two nodes, fresh; the same with the link 0, 1 just come up; and where 1 alone has noticed that it is lost, while 0 goes by a view of 0 that it has from 1.
unfoldable pub apart : List ℕ
apart = stored (fresh 2)

unfoldable pub linked : List ℕ
linked = stored (link_up (fresh 2) 0 1)

unfoldable pub halved : List ℕ
halved = damaged (stray Links 1 1 ∷ stray Views 3 0 ∷ stray Distances 1 1 ∷ stray Downstreams 1 1 ∷ []) apart

unfoldable pub damages : List (List ℕ)
damages =
    -- link bytes are 0 or 1
    damaged (stray Links 1 2 ∷ stray Links 2 2 ∷ []) apart
    -- 0 on the diagonal: 0 is linked to itself, and all of its destinations wait
    ∷ damaged (stray Links 0 1 ∷ stray Lengths 0 2 ∷ stray Destinations 1 1 ∷ stray Values 1 2 ∷ []) apart
    -- each distance is what recompute gives: a neighbour that is not there, and the downstream that would go with it
    ∷ damaged (stray Distances 1 1 ∷ stray Downstreams 1 2 ∷ []) apart
    -- and each downstream
    ∷ damaged (stray Downstreams 1 1 ∷ []) apart
    -- views are at most n, also at the one end that is up
    ∷ damaged (stray Views 3 3 ∷ []) linked
    ∷ damaged (stray Views 2 3 ∷ []) halved
    -- at an end that is down views are n, whether the other is up or not
    ∷ damaged (stray Views 3 1 ∷ []) apart
    ∷ damaged (stray Views 4 1 ∷ []) halved
    -- and on a link with an end that is down both queues are empty
    ∷ damaged (stray Lengths 1 1 ∷ []) apart
    ∷ damaged (stray Lengths 1 1 ∷ []) halved
    ∷ damaged (stray Lengths 2 1 ∷ stray Values 4 2 ∷ []) halved
    -- in a queue of a link with both ends up the destinations differ
    ∷ damaged (stray Destinations 3 0 ∷ stray Values 3 0 ∷ []) linked
    -- and are below n
    ∷ damaged (stray Destinations 3 2 ∷ []) linked
    -- each value equals the sender's present distance
    ∷ damaged (stray Values 3 1 ∷ []) linked
    -- a destination that does not wait there has the receiver's view equal to the sender's distance
    ∷ damaged (stray Lengths 1 1 ∷ stray Destinations 2 1 ∷ stray Values 2 2 ∷ stray Destinations 3 0 ∷ stray Values 3 0 ∷ []) linked
    -- queue places past the length are 0 in both blocks
    ∷ damaged (stray Destinations 2 1 ∷ []) apart
    ∷ damaged (stray Values 2 1 ∷ []) apart
    ∷ []

unfoldable pub number : List ℕ → ℕ
number s = (outcome check s []).number

-- The undamaged states are accepted, and each damaged one is refused with 3.
pub damage_refused : map number (apart ∷ linked ∷ halved ∷ damages) ≡ 0 ∷ 0 ∷ 0 ∷ replicate (length damages) 3
unfolding number damages damaged apart linked halved outcome done refusals judge is_sound_as is_sound triples pairs each differ waits read_as deep flat nodes start stored block value_at destination_at cube grid size fresh link_up downstream_of distance_of least first every joined listed sum loop
damage_refused = refl
