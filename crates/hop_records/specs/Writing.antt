-- 01, 'Records': an event in plain numbers, and what writing a record gives, the bytes written or a refusal, in the words of 'Refusal numbers'. Uses hop_rule's Refused, Records and Calls.
use Rattle.std.specs.Prelude.{◌≡◌, Result, Ok, Err, List, [], ◌∷◌, ℕ, ltb, length, get_or, if◌then◌else◌}
use Rattle.hop_rule.specs.declared.Event.{Event}
use Rattle.hop_rule.specs.declared.Refused.{Refused}
use Rattle.hop_rule.specs.Refused.{code}
use Rattle.hop_rule.specs.Records.{kind_of, body_of, known, event_of}
use Rattle.hop_rule.specs.Calls.{write_event, Outcome, refused, recorded, outcome}
use Rattle.hop_records.specs.declared.Numbers.{Numbers}

-- The bytes written; none at a refusal.
abbrev pub answers : Result ℕ Refused → List ℕ
answers (Ok k) = k ∷ []
answers (Err r) = []

-- The outcome of a call that writes to an output alone, with the output's bytes as the call leaves them.
abbrev pub wrote : Result ℕ Refused → List ℕ → Outcome
wrote w out = record { number = code w; answers = answers w; bytes = []; output = out }

-- The contract of a writer: the answer and the bytes left in the output make the outcome.
abbrev pub Writes : Outcome → Result ℕ Refused → List ℕ → Type 0
Writes o w left = wrote w left ≡ o

-- A record is written where there is room for it, and refused with 2 where there is none.
unfoldable pub tried : List ℕ → List ℕ → Outcome
tried r out = if ltb (length out) (length r) then refused 2 [] out else recorded r [] out

-- An event's kind and its two numbers; a number that the kind does not have is 0.
abbrev pub numbers_of : Event → Numbers
numbers_of e = record { kind = kind_of e; first = get_or (body_of e) 0 0; second = get_or (body_of e) 1 0 }

-- Writing the event that a kind and two numbers say. An unknown kind is 10.
unfoldable pub wrote_event : ℕ → ℕ → ℕ → List ℕ → Outcome
wrote_event kind first second out = if known kind then outcome (write_event (event_of kind first second)) [] out else refused 10 [] out
