-- 01, 'Numbers to hold it to': P1 to P10 as one table, with a single statement over it. Uses Calls.
use Rattle.std.specs.Prelude.{◌≡◌, refl, List, [], ◌∷◌, map, ℕ, replicate}
use Rattle.hop_rule.specs.Words.{loop, sum, listed, joined, every, first}
use Rattle.hop_rule.specs.State.{Entry}
use Rattle.hop_rule.specs.Rule as rule
use Rattle.hop_rule.specs.Rule.{least, distance_of, downstream_of, send, recompute, hear, link_up, recompute_all, total, waiting_for, waiting_from, reached, passes, made, delivered, fresh}
use Rattle.hop_rule.specs.Stored.{size, grid, cube, destination_at, value_at, block, stored, start, nodes, flat, deep, read_as, read}
use Rattle.hop_rule.specs.Sound.{waits, differ, each, pairs, triples, is_sound, is_sound_as}
use Rattle.hop_rule.specs.Notice.{lose, notice, missing, link_down}
use Rattle.hop_rule.specs.Records.{words, record_of, status_record, written}
use Rattle.hop_rule.specs.Calls.{Call, make, up, down, deliver, pass, run, route, queue_length, total_queued, status, judge, refusals, Outcome, answered, done, outcome}

-- What is looked at after the last call: its number with its other answers, the bytes, the output, or the entries of a queue.
pub data Look : Type 0 where
  answers : Look
  bytes : Look
  output : Look
  queue : ℕ → ℕ → Look

unfoldable pub entries : List Entry → List ℕ
entries [] = []
entries (e ∷ q) = e.destination ∷ e.value ∷ entries q

unfoldable pub look : Look → Outcome → List ℕ
look answers o = o.number ∷ o.answers
look bytes o = o.bytes
look output o = o.output
look (queue w u) o = entries ((read o.bytes).queue w u)

-- Calls one after another, each on the bytes that the one before it left.
unfoldable pub after : List Call → Outcome → Outcome
after [] o = o
after (c ∷ cs) o = after cs (outcome c o.bytes o.output)

-- A case: what is done on a buffer of so many zeros, with an output of 14 zeros; and what is then seen, each after further calls.
pub data Sight : Type 0 where
  sees : List Call → Look → List ℕ → Sight

pub data Case : Type 0 where
  case : ℕ → List Call → List Sight → Case

unfoldable pub seen : Outcome → Sight → List ℕ
seen o (sees calls at gives) = look at (after calls o)

unfoldable pub given : Sight → List ℕ
given (sees calls at gives) = gives

unfoldable pub observed : Case → List (List ℕ)
observed (case room calls sights) = let o = after calls (answered [] (replicate room 0) (replicate 14 0)) in map (seen o) sights

unfoldable pub expected : Case → List (List ℕ)
expected (case room calls sights) = map given sights

unfoldable pub table : List Case
table =
    -- P1 fresh n = 1
    case 8 (make 1 ∷ []) (sees [] bytes (1 ∷ 0 ∷ 0 ∷ 0 ∷ 1 ∷ 0 ∷ 0 ∷ 0 ∷ []) ∷ [])
    -- P2 n = 0 and n = 41 refused with 1; n = 2 in 40 bytes with 2
    ∷ case 40 []
    (sees (make 0 ∷ []) answers (1 ∷ [])
    ∷ sees (make 41 ∷ []) answers (1 ∷ [])
    ∷ sees (make 2 ∷ []) answers (2 ∷ [])
    ∷ [])
    -- n = 2, up 0 1
    ∷ case 41 (make 2 ∷ up 0 1 ∷ [])
    -- P3 the queues hold all destinations, those of value n too
    (sees [] (queue 0 1) (0 ∷ 0 ∷ 1 ∷ 2 ∷ [])
    ∷ sees [] (queue 1 0) (0 ∷ 2 ∷ 1 ∷ 0 ∷ [])
    -- P4 deliver 0 → 1: distance of 1 to 0 is 1, by way of 0; queue 1 → 0 is (0,1),(1,0); 3 wait in all
    ∷ sees (deliver 0 1 ∷ route 1 0 ∷ []) answers (0 ∷ 1 ∷ 0 ∷ [])
    ∷ sees (deliver 0 1 ∷ []) (queue 1 0) (0 ∷ 1 ∷ 1 ∷ 0 ∷ [])
    ∷ sees (deliver 0 1 ∷ total_queued ∷ []) answers (0 ∷ 3 ∷ [])
    -- P5 run with allowance 255: 2 passes, 5 deliveries. Allowance 0: 0 and 0
    ∷ sees (run 255 ∷ []) answers (0 ∷ 2 ∷ 5 ∷ [])
    ∷ sees (run 0 ∷ []) answers (0 ∷ 0 ∷ 0 ∷ [])
    -- P6 from rest, down 0 1: the fresh state, byte for byte
    ∷ sees (run 255 ∷ down 0 1 ∷ []) bytes (stored (fresh 2))
    -- P7 up 0 1 twice: 0, then 6. Up 1 1: 5. Up 2 2 with n = 2: 4
    ∷ sees [] answers (0 ∷ [])
    ∷ sees (up 0 1 ∷ []) answers (6 ∷ [])
    ∷ sees (up 1 1 ∷ []) answers (5 ∷ [])
    ∷ sees (up 2 2 ∷ []) answers (4 ∷ [])
    -- P8 status of node 1
    ∷ sees (status 1 ∷ []) output (12 ∷ 0 ∷ 1 ∷ 0 ∷ 1 ∷ 0 ∷ 2 ∷ 0 ∷ 2 ∷ 0 ∷ 0 ∷ 0 ∷ 4 ∷ 0 ∷ [])
    -- Our own: a pass delivers the 4 that waited, and then 1 waits; a queue's length; what is refused between two nodes
    ∷ sees (pass ∷ []) answers (0 ∷ 4 ∷ [])
    ∷ sees (pass ∷ total_queued ∷ []) answers (0 ∷ 1 ∷ [])
    ∷ sees (deliver 0 1 ∷ queue_length 0 1 ∷ []) answers (0 ∷ 1 ∷ [])
    ∷ sees (queue_length 1 1 ∷ []) answers (5 ∷ [])
    ∷ sees (down 0 1 ∷ queue_length 0 1 ∷ []) answers (0 ∷ 0 ∷ [])
    ∷ sees (down 0 1 ∷ deliver 0 1 ∷ []) answers (7 ∷ [])
    ∷ sees (run 255 ∷ deliver 0 1 ∷ []) answers (8 ∷ [])
    -- Our own: the same as P8 after P4, where what waits for node 1 and what waits from it differ, and it reaches the other
    ∷ sees (deliver 0 1 ∷ status 1 ∷ []) output (12 ∷ 0 ∷ 1 ∷ 0 ∷ 1 ∷ 0 ∷ 1 ∷ 0 ∷ 2 ∷ 0 ∷ 1 ∷ 0 ∷ 3 ∷ 0 ∷ [])
    ∷ [])
    -- P9 line 0-1-2, n = 3, at rest, down 1 2: 1 waits; rest after 2 deliveries; 0 has distance 3 to 2, and no downstream
    ∷ case 118 (make 3 ∷ up 0 1 ∷ up 1 2 ∷ run 255 ∷ down 1 2 ∷ [])
    (sees (total_queued ∷ []) answers (0 ∷ 1 ∷ [])
    ∷ sees (run 255 ∷ []) answers (0 ∷ 2 ∷ 2 ∷ [])
    ∷ sees (run 255 ∷ route 0 2 ∷ []) answers (0 ∷ 3 ∷ 255 ∷ [])
    ∷ [])
    -- P10 the same line with n = 4: 1's distance to 2 becomes 3 by way of 0, whose way is still 1, a passing loop; rest after 3 deliveries and 3 passes
    ∷ case 257 (make 4 ∷ up 0 1 ∷ up 1 2 ∷ run 255 ∷ [])
    (sees (down 1 2 ∷ route 1 2 ∷ []) answers (0 ∷ 3 ∷ 0 ∷ [])
    ∷ sees (down 1 2 ∷ route 0 2 ∷ []) answers (0 ∷ 2 ∷ 1 ∷ [])
    ∷ sees (down 1 2 ∷ run 255 ∷ []) answers (0 ∷ 3 ∷ 3 ∷ [])
    -- Our own: before it 1 has 2 at 1 hop by way of 2. The hops of one state with the direction of the other, 1 and 0, are true of neither
    ∷ sees (route 1 2 ∷ []) answers (0 ∷ 1 ∷ 2 ∷ [])
    ∷ [])
    -- Our own: a square whose lower-numbered side is closed last. 0 turns from 2 to 1 for destination 3, at equal distance, and sends nothing for it
    ∷ case 257 (make 4 ∷ up 0 2 ∷ up 2 3 ∷ up 0 1 ∷ run 255 ∷ up 1 3 ∷ run 255 ∷ [])
    (sees [] answers (0 ∷ 2 ∷ 11 ∷ [])
    ∷ sees (route 0 3 ∷ []) answers (0 ∷ 2 ∷ 1 ∷ [])
    ∷ [])
    ∷ []

-- The one statement: in every case what is seen is what 01 gives.
pub table_holds : map observed table ≡ map expected table
unfolding seen given observed expected table after look entries outcome done refusals judge written status_record record_of words is_sound_as is_sound triples pairs each differ waits read_as deep flat nodes start stored block value_at destination_at cube grid size fresh delivered made passes reached waiting_from waiting_for total rule.pass link_down missing notice lose recompute_all link_up rule.deliver hear recompute send downstream_of distance_of least first every joined listed sum loop
table_holds = refl
