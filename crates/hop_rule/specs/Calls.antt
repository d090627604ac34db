-- 01, 'Refusal numbers', and every public call: its refusals in the order in which they are judged, and what it gives where none applies.
-- A call has a buffer s, which holds the state, and an output out, [] where it writes none. Uses Rule, Notice, Route, Stored, Sound and Records.
use Rattle.std.specs.Prelude.{Bool, not, ◌||◌, List, [], ◌∷◌, ◌++◌, ℕ, eqb, ltb, leb, length, get_or, drop, if◌then◌else◌}
use Rattle.hop_rule.specs.declared.Event.{Event}
use Rattle.hop_rule.specs.State.{State}
use Rattle.hop_rule.specs.Rule as rule
use Rattle.hop_rule.specs.Notice as ends
use Rattle.hop_rule.specs.Route as question
use Rattle.hop_rule.specs.Stored.{size, stored, nodes, read}
use Rattle.hop_rule.specs.Sound.{is_sound_bytes}
use Rattle.hop_rule.specs.Records.{event_record, status_record, written}

-- The public calls with their arguments. Reading an event is `read_event` of Records.
pub data Call : Type 0 where
  make : ℕ → Call
  check : Call
  up : ℕ → ℕ → Call
  down : ℕ → ℕ → Call
  -- noticing end, other end
  notice : ℕ → ℕ → Call
  deliver : ℕ → ℕ → Call
  pass : Call
  run : ℕ → Call
  route : ℕ → ℕ → Call
  queue_length : ℕ → ℕ → Call
  total_queued : Call
  status : ℕ → Call
  write_event : Event → Call

-- A refusal: its number, and whether it applies.
pub record Refusal : Type 0 where
  pub number : ℕ
  pub applies : Bool

-- The number of the first refusal that applies, or 0: done.
unfoldable pub judge : List Refusal → ℕ
judge [] = 0
judge (r ∷ rs) = if r.applies then r.number else judge rs

-- The table of refusal numbers.
abbrev pub empty : List ℕ → Refusal
empty s = record { number = 2; applies = eqb (length s) 0 }

abbrev pub bad_count : ℕ → Refusal
bad_count n = record { number = 1; applies = eqb n 0 || ltb 40 n }

abbrev pub short : {A : Type 0} → List A → ℕ → Refusal
short s needed = record { number = 2; applies = ltb (length s) needed }

abbrev pub not_sound : List ℕ → Refusal
not_sound s = record { number = 3; applies = not (is_sound_bytes s) }

abbrev pub no_node : List ℕ → ℕ → Refusal
no_node s a = record { number = 4; applies = leb (nodes s) a }

abbrev pub one_node : ℕ → ℕ → Refusal
one_node a b = record { number = 5; applies = eqb a b }

-- Link up: both ends are up; 02, R-5, judged in the same place: one still is.
abbrev pub is_up : List ℕ → ℕ → ℕ → Refusal
is_up s a b = record { number = 6; applies = rule.sends (read s) a b }

abbrev pub still_up : List ℕ → ℕ → ℕ → Refusal
still_up s a b = record { number = 13; applies = ends.one_ended (read s) a b }

-- Link down: both ends are down. A notice: the noticing end is, as its notice is already given or the link was never up. Delivery: either end is.
abbrev pub is_down : List ℕ → ℕ → ℕ → Refusal
is_down s a b = record { number = 7; applies = not (rule.up (read s) a b || rule.up (read s) b a) }

abbrev pub end_down : List ℕ → ℕ → ℕ → Refusal
end_down s a b = record { number = 7; applies = not (rule.up (read s) a b) }

abbrev pub not_sending : List ℕ → ℕ → ℕ → Refusal
not_sending s w u = record { number = 7; applies = not (rule.sends (read s) w u) }

abbrev pub nothing_waits : List ℕ → ℕ → ℕ → Refusal
nothing_waits s w u = record { number = 8; applies = eqb (length ((read s).queue w u)) 0 }

-- 02, R-1: the state is not at rest.
abbrev pub not_at_rest : List ℕ → Refusal
not_at_rest s = record { number = 12; applies = not (rule.at_rest (read s)) }

-- 02, R-5, for R-3: a link of the state has just one end up.
abbrev pub some_one_ended : List ℕ → Refusal
some_one_ended s = record { number = 13; applies = not (ends.ends_agree (read s)) }

-- Order for calls on a state: empty buffer 2, then 1, short buffer 2, 3, 4, 5, 6, 7 or by 02 13, 8, by 02 then 12 and R-3's 13, last an output that is too short 2. Making a state: 1, then 2.
abbrev pub on_state : List ℕ → List Refusal → List Refusal
on_state s more = empty s ∷ bad_count (nodes s) ∷ short s (size (nodes s)) ∷ not_sound s ∷ more

unfoldable pub refusals : Call → List ℕ → List ℕ → List Refusal
refusals (make n) s out = bad_count n ∷ short s (size n) ∷ []
refusals check s out = on_state s []
refusals (up a b) s out = on_state s (no_node s a ∷ no_node s b ∷ one_node a b ∷ is_up s a b ∷ still_up s a b ∷ [])
refusals (down a b) s out = on_state s (no_node s a ∷ no_node s b ∷ one_node a b ∷ is_down s a b ∷ [])
refusals (notice a b) s out = on_state s (no_node s a ∷ no_node s b ∷ one_node a b ∷ end_down s a b ∷ [])
refusals (deliver w u) s out = on_state s (no_node s w ∷ no_node s u ∷ one_node w u ∷ not_sending s w u ∷ nothing_waits s w u ∷ [])
refusals pass s out = on_state s []
refusals (run k) s out = on_state s []
refusals (route u v) s out = on_state s (no_node s u ∷ no_node s v ∷ [])
refusals (queue_length w u) s out = on_state s (no_node s w ∷ no_node s u ∷ one_node w u ∷ [])
refusals total_queued s out = on_state s []
refusals (status u) s out = on_state s (no_node s u ∷ short out 14 ∷ [])
refusals (write_event e) s out = short out (length (event_record e)) ∷ []

-- What a call gives: its number, its other answers in order (none where it is refused, and none for a call that answers its number only), and the bytes of the buffer and of the output as it leaves them.
pub record Outcome : Type 0 where
  pub number : ℕ
  pub answers : List ℕ
  pub bytes : List ℕ
  pub output : List ℕ

-- A refusal returns its number and no other answer, and no byte changes.
abbrev pub refused : ℕ → List ℕ → List ℕ → Outcome
refused c s out = record { number = c; answers = []; bytes = s; output = out }

-- Zero in every other answer: where a caller is handed a place for each answer, this stands in place i.
abbrev pub answer_at : ℕ → Outcome → ℕ
answer_at i o = get_or o.answers i 0

-- An answer changes no byte.
abbrev pub answered : List ℕ → List ℕ → List ℕ → Outcome
answered xs s out = record { number = 0; answers = xs; bytes = s; output = out }

-- The new state is stored over the old, and the bytes after it stay.
abbrev pub restored : State → List ℕ → List ℕ
restored t s = stored t ++ drop (size t.n) s

abbrev pub changed : State → List ℕ → List ℕ → List ℕ → Outcome
changed t xs s out = record { number = 0; answers = xs; bytes = restored t s; output = out }

-- A record is written to the output, and the bytes after it stay; the answer is how many were written.
abbrev pub recorded : List ℕ → List ℕ → List ℕ → Outcome
recorded r s out = record { number = 0; answers = length r ∷ []; bytes = s; output = written r out }

unfoldable pub done : Call → List ℕ → List ℕ → Outcome
done (make n) s out = changed (rule.fresh n) [] s out
done check s out = answered [] s out
done (up a b) s out = changed (rule.link_up (read s) a b) [] s out
done (down a b) s out = changed (ends.link_down (read s) a b) [] s out
done (notice a b) s out = changed (ends.notice (read s) a b) [] s out
done (deliver w u) s out = changed (rule.deliver (read s) w u) [] s out
done pass s out = changed (rule.pass (read s)) (rule.total (read s) ∷ []) s out
done (run k) s out = let m = rule.made (read s) k in changed (rule.passes (read s) m) (m ∷ rule.delivered (read s) m ∷ []) s out
done (route u v) s out = let way = question.route (read s) u v in answered (way.distance ∷ way.downstream ∷ []) s out
done (queue_length w u) s out = answered (length ((read s).queue w u) ∷ []) s out
done total_queued s out = answered (rule.total (read s) ∷ []) s out
done (status u) s out = recorded (status_record (read s) u) s out
done (write_event e) s out = recorded (event_record e) s out

-- Every public call: refused by the first refusal that applies, or else done.
unfoldable pub outcome : Call → List ℕ → List ℕ → Outcome
outcome c s out =
    let r = judge (refusals c s out) in
    let d = done c s out in
    if eqb r 0 then d else refused r s out
