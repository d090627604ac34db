-- 02, R-5, worked: one end notices, and then the other. A table with a single statement over it, in the words of Numbers; and what R-1 and R-3 make of such a link. Uses Numbers, Worth, Why.
use Rattle.std.specs.Prelude.{◌≡◌, refl, List, [], ◌∷◌, map, pos, replicate}
use Rattle.hop_rule.specs.Words.{loop, sum, listed, joined, every, first}
use Rattle.hop_rule.specs.State.{State}
use Rattle.hop_rule.specs.Rule as rule
use Rattle.hop_rule.specs.Rule.{least, distance_of, downstream_of, send, recompute, hear, link_up, recompute_all, total, passes, made, delivered, fresh}
use Rattle.hop_rule.specs.Stored.{size, grid, cube, destination_at, value_at, block, stored, start, nodes, flat, deep, read_as}
use Rattle.hop_rule.specs.Sound.{waits, differ, each, pairs, triples, is_sound, is_sound_as}
use Rattle.hop_rule.specs.Notice as ends
use Rattle.hop_rule.specs.Notice.{lose, missing, link_down, ends_agree}
use Rattle.hop_rule.specs.Calls.{make, up, down, notice, deliver, run, route, queue_length, total_queued, judge, refusals, done, outcome}
use Rattle.hop_rule.specs.Worth.{turned, trial_passes, trial, lost, hops, change, line, lines, numbers, worth_refusals, worth, worth_done}
use Rattle.hop_rule.specs.Why.{along, joined_to, reason, shown, why_refusals}
use Rattle.hop_rule.specs.Numbers.{answers, bytes, queue, entries, look, after, sees, Case, case, seen, given, observed, expected}
use Rattle.hop_rule.specs.WorthTable.{linked, rested}

unfoldable pub table : List Case
table =
    -- n = 2, at rest, and 1 notices first: nothing waits
    case 41 (make 2 ∷ up 0 1 ∷ run 255 ∷ notice 1 0 ∷ [])
    (sees (total_queued ∷ []) answers (0 ∷ 0 ∷ [])
    -- 1 has no route any more; 0 stays up, and goes by what it last heard
    ∷ sees (route 1 0 ∷ []) answers (0 ∷ 2 ∷ 255 ∷ [])
    ∷ sees (route 0 1 ∷ []) answers (0 ∷ 1 ∷ 1 ∷ [])
    -- link up is 13, whichever end is named first, and after 4 and 5; delivery is 7 in both directions, and a notice that is already given is
    ∷ sees (up 0 1 ∷ []) answers (13 ∷ [])
    ∷ sees (up 1 0 ∷ []) answers (13 ∷ [])
    ∷ sees (up 1 2 ∷ []) answers (4 ∷ [])
    ∷ sees (up 1 1 ∷ []) answers (5 ∷ [])
    ∷ sees (deliver 0 1 ∷ []) answers (7 ∷ [])
    ∷ sees (deliver 1 0 ∷ []) answers (7 ∷ [])
    ∷ sees (queue_length 0 1 ∷ []) answers (0 ∷ 0 ∷ [])
    ∷ sees (notice 1 0 ∷ []) answers (7 ∷ [])
    ∷ sees (notice 2 0 ∷ []) answers (4 ∷ [])
    ∷ sees (notice 0 2 ∷ []) answers (4 ∷ [])
    ∷ sees (notice 0 0 ∷ []) answers (5 ∷ [])
    -- the other end's own notice leaves the fresh state, and so does link down, which gives the notice that is missing
    ∷ sees (notice 0 1 ∷ []) bytes (stored (fresh 2))
    ∷ sees (down 0 1 ∷ []) bytes (stored (fresh 2))
    ∷ sees (down 1 0 ∷ []) bytes (stored (fresh 2))
    -- then both are 7, and link up is done again
    ∷ sees (down 0 1 ∷ down 0 1 ∷ []) answers (7 ∷ [])
    ∷ sees (down 0 1 ∷ notice 0 1 ∷ []) answers (7 ∷ [])
    ∷ sees (down 0 1 ∷ up 0 1 ∷ []) answers (0 ∷ [])
    ∷ [])
    -- n = 2, all wait, and 0, the lower-numbered end, notices first: both queues are emptied, and all is refused and given as before
    ∷ case 41 (make 2 ∷ up 0 1 ∷ notice 0 1 ∷ [])
    (sees [] (queue 0 1) []
    ∷ sees [] (queue 1 0) []
    ∷ sees (up 1 0 ∷ []) answers (13 ∷ [])
    ∷ sees (deliver 0 1 ∷ []) answers (7 ∷ [])
    ∷ sees (deliver 1 0 ∷ []) answers (7 ∷ [])
    ∷ sees (notice 0 1 ∷ []) answers (7 ∷ [])
    ∷ sees (notice 1 0 ∷ []) bytes (stored (fresh 2))
    ∷ sees (down 0 1 ∷ []) bytes (stored (fresh 2))
    ∷ [])
    -- a link that was never up: a notice is 7
    ∷ case 41 (make 2 ∷ []) (sees (notice 0 1 ∷ []) answers (7 ∷ []) ∷ [])
    -- the line 0-1-2, n = 3, at rest, and 1 notices that 2 is lost: 1 waits and rest after 2 deliveries, as in P9, while 2 goes on as if nothing had happened
    ∷ case 118 (make 3 ∷ up 0 1 ∷ up 1 2 ∷ run 255 ∷ notice 1 2 ∷ [])
    (sees (total_queued ∷ []) answers (0 ∷ 1 ∷ [])
    ∷ sees (run 255 ∷ []) answers (0 ∷ 2 ∷ 2 ∷ [])
    ∷ sees (run 255 ∷ route 2 0 ∷ []) answers (0 ∷ 2 ∷ 1 ∷ [])
    -- 0-2 comes up, and 2 hears 0's own distance: it recomputes with the old views too, tells 0, and what it sends towards 1 is dropped
    ∷ sees (up 0 2 ∷ deliver 0 2 ∷ []) (queue 2 0) (0 ∷ 1 ∷ 1 ∷ 1 ∷ 2 ∷ 0 ∷ [])
    ∷ sees (up 0 2 ∷ deliver 0 2 ∷ []) (queue 2 1) []
    -- at rest 2 still reaches 1 over the link that is lost, until its own notice
    ∷ sees (up 0 2 ∷ run 255 ∷ route 2 1 ∷ []) answers (0 ∷ 1 ∷ 1 ∷ [])
    ∷ sees (up 0 2 ∷ run 255 ∷ notice 2 1 ∷ route 2 1 ∷ []) answers (0 ∷ 2 ∷ 0 ∷ [])
    ∷ [])
    ∷ []

-- The one statement: in every case what is seen is what R-5 gives.
pub table_holds : map observed table ≡ map expected table
unfolding seen given observed expected table after look entries outcome done refusals judge is_sound_as is_sound triples pairs each differ waits read_as deep flat nodes start stored block value_at destination_at cube grid size fresh delivered made passes total rule.pass link_down missing ends.notice lose recompute_all link_up rule.deliver hear recompute send downstream_of distance_of least first every joined listed sum loop
table_holds = refl

-- The line 0-1-2-3 at rest, and 1 notices that 2 is lost: it recomputes every destination in ascending order, so that 0 is told of 2 first and then of 3.
pub order_holds : entries ((ends.notice (rested 4 ((0, 1) ∷ (1, 2) ∷ (2, 3) ∷ [])) 1 2).queue 1 0) ≡ 2 ∷ 3 ∷ 3 ∷ 4 ∷ []
unfolding entries rested linked fresh passes total rule.pass ends.notice lose recompute_all link_up rule.deliver hear recompute send downstream_of distance_of least first joined listed sum loop
order_holds = refl

-- ---- R-1 and R-3

-- Three nodes, 0-1 linked and at rest; 1 notices that it is lost, and 0 does not. 2 is apart.
unfoldable pub halved : State
halved = ends.notice (rested 3 ((0, 1) ∷ [])) 1 0

-- R-1 leaves the pair out: two lines, and fourteen numbers are enough. The routes are what the tables say: 0 counts on its lost link, so that with 1-2 up it still has one to 1, and none to 2.
pub worth_holds :
    (numbers (lines halved)
    ≡ pos 0 ∷ pos 2 ∷ pos 2 ∷ pos 7 ∷ pos 0 ∷ pos 3 ∷ pos 0
    ∷ pos 1 ∷ pos 2 ∷ pos 2 ∷ pos 7 ∷ pos 0 ∷ pos 2 ∷ pos 0 ∷ [])
    × (map (λ room. (worth (stored halved) (replicate 118 7) (replicate room (pos 5))).number) (13 ∷ 14 ∷ []) ≡ 2 ∷ 0 ∷ [])
unfolding halved rested linked worth worth_done worth_refusals judge is_sound_as is_sound triples pairs each differ waits read_as deep flat nodes start stored block value_at destination_at cube grid size numbers lines line change hops lost trial trial_passes turned fresh delivered made passes total rule.pass link_down missing ends.notice lose recompute_all link_up rule.deliver hear recompute send downstream_of distance_of least first every joined listed sum loop
worth_holds = (refl, refl)

-- R-3 answers 13 wherever in the state the link is, also for a node and itself; after 4 and 12, before a list that does not fit.
pub why_holds :
    map judge
    (why_refusals 2 2 (stored halved) []
    ∷ why_refusals 0 2 (stored halved) (9 ∷ 9 ∷ 9 ∷ [])
    ∷ why_refusals 3 0 (stored halved) []
    ∷ why_refusals 0 2 (stored (link_up halved 1 2)) []
    ∷ why_refusals 2 2 (stored (ends.notice halved 0 1)) []
    ∷ why_refusals 2 2 (stored (ends.notice halved 0 1)) (9 ∷ [])
    ∷ [])
    ≡ 13 ∷ 13 ∷ 4 ∷ 12 ∷ 2 ∷ 0 ∷ []
unfolding halved rested linked why_refusals shown reason along joined_to judge ends_agree is_sound_as is_sound triples pairs each differ waits read_as deep flat nodes start stored block value_at destination_at cube grid size fresh passes total rule.pass ends.notice lose recompute_all link_up rule.deliver hear recompute send downstream_of distance_of least first every joined listed sum loop
why_holds = refl
