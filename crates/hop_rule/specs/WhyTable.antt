-- 02, R-3: the reasons of two small sites, as one table with a single statement over it; and what the call gives, done and refused. Uses Why, and the sites of R-1's table.
use Rattle.std.specs.Prelude.{◌≡◌, refl, List, [], ◌∷◌, ◌++◌, map, ℕ, replicate, take}
use Rattle.hop_rule.specs.Words.{loop, sum, listed, joined, every, first}
use Rattle.hop_rule.specs.State.{State}
use Rattle.hop_rule.specs.Rule.{least, distance_of, downstream_of, send, recompute, hear, deliver, link_up, pass, total, passes, fresh}
use Rattle.hop_rule.specs.Stored.{size, grid, cube, destination_at, value_at, block, stored, start, nodes, flat, deep, read_as}
use Rattle.hop_rule.specs.Sound.{waits, differ, each, pairs, triples, is_sound, is_sound_as}
use Rattle.hop_rule.specs.Notice.{ends_agree}
use Rattle.hop_rule.specs.Records.{written}
use Rattle.hop_rule.specs.Calls.{judge}
use Rattle.hop_rule.specs.Why.{along, joined_to, Reason, path, set, reason, kind, shown, why_refusals, Explained, why_done, why}
use Rattle.hop_rule.specs.WorthTable.{linked, rested}

-- ---- reasons

-- A site at rest, a node and a destination, and the reason.
pub data Question : Type 0 where
  asked : State → ℕ → ℕ → Reason → Question

unfoldable pub observed : Question → Reason
observed (asked s u v gives) = reason s u v

unfoldable pub expected : Question → Reason
expected (asked s u v gives) = gives

-- The line 0-1-2 with node 3 apart, and 01's square.
unfoldable pub line : State
line = rested 4 ((0, 1) ∷ (1, 2) ∷ [])

unfoldable pub square : State
square = rested 4 ((0, 1) ∷ (0, 2) ∷ (1, 3) ∷ (2, 3) ∷ [])

unfoldable pub questions : List Question
questions =
    -- A path each way, one node if they are the same; the set from either side.
    asked line 0 2 (path (0 ∷ 1 ∷ 2 ∷ []))
    ∷ asked line 2 0 (path (2 ∷ 1 ∷ 0 ∷ []))
    ∷ asked line 1 1 (path (1 ∷ []))
    ∷ asked line 3 3 (path (3 ∷ []))
    ∷ asked line 2 3 (set (0 ∷ 1 ∷ 2 ∷ []))
    ∷ asked line 3 0 (set (3 ∷ []))
    -- Of two shortest paths the one along the downstreams.
    ∷ asked square 0 3 (path (0 ∷ 1 ∷ 3 ∷ []))
    ∷ asked square 3 0 (path (3 ∷ 1 ∷ 0 ∷ []))
    ∷ []

pub questions_hold : map observed questions ≡ map expected questions
unfolding observed expected questions line square rested linked reason along joined_to fresh passes total pass link_up deliver hear recompute send downstream_of distance_of least first joined listed sum loop
questions_hold = refl

-- ---- the call

-- The line with node 3 apart at rest, and with its links just up; a list of so many nines.
unfoldable pub resting : List ℕ
resting = stored line

unfoldable pub busy : List ℕ
busy = stored (linked ((0, 1) ∷ (1, 2) ∷ []) (fresh 4))

unfoldable pub called : ℕ → ℕ → List ℕ → ℕ → Explained
called u v s room = why u v s (replicate room 9)

-- Its number.
unfoldable pub number : ℕ → ℕ → List ℕ → ℕ → ℕ
number u v s room = (called u v s room).number

-- A path and a set with room to spare, and one byte that just fits: what stands behind them stays.
pub call_holds :
    (called 0 2 (resting ++ 7 ∷ []) 5 ≡ record { number = 0; answers = 1 ∷ 3 ∷ []; list = 0 ∷ 1 ∷ 2 ∷ 9 ∷ 9 ∷ [] })
    × (called 2 3 resting 4 ≡ record { number = 0; answers = 2 ∷ 3 ∷ []; list = 0 ∷ 1 ∷ 2 ∷ 9 ∷ [] })
    × (called 3 3 resting 1 ≡ record { number = 0; answers = 1 ∷ 1 ∷ []; list = 3 ∷ [] })
unfolding called resting line rested linked why why_done why_refusals kind shown reason along joined_to judge ends_agree written is_sound_as is_sound triples pairs each differ waits read_as deep flat nodes start stored block value_at destination_at cube grid size fresh passes total pass link_up deliver hear recompute send downstream_of distance_of least first every joined listed sum loop
call_holds = (refl, refl, refl)

-- An empty buffer 2, a node count 1, a short state 2, an unsound one 3, either number 4: entries wait in the last, and 12 comes after. It comes before a list that does not fit 2, a path or a set; and a refusal leaves the list.
pub refusals_hold :
    (number 4 0 [] 0 ∷ number 4 0 (0 ∷ []) 0 ∷ number 4 0 (take 40 busy) 0 ∷ number 4 0 (1 ∷ replicate 7 1) 0 ∷ number 4 0 busy 0 ∷ number 0 4 busy 0 ∷ number 0 2 busy 0 ∷ number 0 2 resting 2 ∷ number 0 2 resting 3 ∷ number 2 3 resting 2 ∷ number 2 3 resting 3 ∷ []
    ≡ 2 ∷ 1 ∷ 2 ∷ 3 ∷ 4 ∷ 4 ∷ 12 ∷ 2 ∷ 0 ∷ 2 ∷ 0 ∷ [])
    × (called 0 2 busy 3 ≡ record { number = 12; answers = []; list = 9 ∷ 9 ∷ 9 ∷ [] })
    × (called 0 2 resting 2 ≡ record { number = 2; answers = []; list = 9 ∷ 9 ∷ [] })
unfolding number called resting busy line rested linked why why_done why_refusals kind shown reason along joined_to judge ends_agree written is_sound_as is_sound triples pairs each differ waits read_as deep flat nodes start stored block value_at destination_at cube grid size fresh passes total pass link_up deliver hear recompute send downstream_of distance_of least first every joined listed sum loop
refusals_hold = (refl, refl, refl)
