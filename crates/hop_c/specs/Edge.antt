-- What C callers get of a call's outcome: its number and its answers in a struct, a place for each. Told, Answered, Ran, Wrote, Worth, Why and Read are the contracts.
use Rattle.std.specs.Prelude.{◌≡◌, List, [], ℕ, ℤ, get_or, if◌then◌else◌}
use Rattle.hop_rule.specs.Stored.{size}
use Rattle.hop_rule.specs.Records.{Reading, number_of, answers_of, read_event, place_after}
use Rattle.hop_rule.specs.Calls.{Call, Outcome, bad_count, answer_at, outcome}
use Rattle.hop_rule.specs.Worth.{Valued}
use Rattle.hop_rule.specs.Why.{Explained}
use Rattle.hop_c.specs.declared.HopAnswer.{HopAnswer}
use Rattle.hop_c.specs.declared.HopRan.{HopRan}
use Rattle.hop_c.specs.declared.HopWay.{HopWay}
use Rattle.hop_c.specs.declared.HopEvent.{HopEvent}
use Rattle.hop_c.specs.declared.HopReason.{HopReason}

-- The bytes of a state of n nodes, 0 unless n is 1 to 40.
unfoldable pub size_of : ℕ → ℕ
size_of n = if (bad_count n).applies then 0 else size n

-- An outcome as a C caller gets it: the number, and a place for each other answer, 0 where the call is refused.
abbrev pub answer : Outcome → HopAnswer
answer o = record { code = o.number; value = answer_at 0 o }

abbrev pub ran : Outcome → HopRan
ran o = record { code = o.number; passes = answer_at 0 o; deliveries = answer_at 1 o }

abbrev pub way : Outcome → HopWay
way o = record { code = o.number; distance = answer_at 0 o; downstream = answer_at 1 o }

-- The contract of a call that answers its number alone: with the bytes t that it leaves it makes the outcome.
abbrev pub Told : Call → List ℕ → ℕ → List ℕ → Type 0
Told c s number t = record { number = number; answers = []; bytes = t; output = [] } ≡ outcome c s []

-- The contracts, for an outcome o: the struct is the outcome's, and so are the bytes that the call leaves, of the state or of the output.
abbrev pub Answered : Outcome → HopAnswer → List ℕ → Type 0
Answered o a t = (a ≡ answer o) × (t ≡ o.bytes)

abbrev pub Ran : Outcome → HopRan → List ℕ → Type 0
Ran o a t = (a ≡ ran o) × (t ≡ o.bytes)

abbrev pub Wrote : Outcome → HopAnswer → List ℕ → Type 0
Wrote o a left = (a ≡ answer o) × (left ≡ o.output)

-- The same for the result of R-1's call: the struct, the trial buffer and the list.
abbrev pub worth_answer : Valued → HopAnswer
worth_answer v = record { code = v.number; value = get_or v.answers 0 0 }

abbrev pub Worth : Valued → HopAnswer → List ℕ → List ℤ → Type 0
Worth v a trial list = (a ≡ worth_answer v) × (trial ≡ v.trial) × (list ≡ v.list)

-- And for that of R-3's: the struct and the list.
abbrev pub why_reason : Explained → HopReason
why_reason e = record { code = e.number; kind = get_or e.answers 0 0; count = get_or e.answers 1 0 }

abbrev pub Why : Explained → HopReason → List ℕ → Type 0
Why e a list = (a ≡ why_reason e) × (list ≡ e.list)

-- What was read, as a C caller gets it: the number, the kind and its two numbers; what there is not is 0, so kind 0 is the plain end or a refusal.
abbrev pub event : ℕ → List ℕ → HopEvent
event c xs = record { code = c; kind = get_or xs 0 0; first = get_or xs 1 0; second = get_or xs 2 0 }

abbrev pub reading : Reading → HopEvent
reading r = event (number_of r) (answers_of r)

-- The contract of reading at a place of s: the event, and the place that is left.
abbrev pub Read : List ℕ → ℕ → HopEvent → ℕ → Type 0
Read s place e next = (e ≡ reading (read_event s place)) × (next ≡ place_after (read_event s place) place)
