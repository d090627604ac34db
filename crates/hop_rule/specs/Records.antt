-- 01, 'Records': events and the status record as bytes, written and read. Uses State, Rule and Words.
use Rattle.std.specs.Prelude.{Bool, ◌||◌, not, Option, Some, None, Result, Ok, Err, List, [], ◌∷◌, ◌++◌, ℕ, ◌+◌, ◌*◌, ◌/◌, ◌%◌, eqb, ltb, length, get_or, drop, if◌then◌else◌}
use Rattle.hop_rule.specs.declared.Event.{Event}
use Rattle.hop_rule.specs.declared.Event.TheVariants.{Make, Up, Down, Deliver, Pass, Notice}
use Rattle.hop_rule.specs.declared.Refused.{Refused}
use Rattle.hop_rule.specs.declared.Refused.TheVariants.{CutShort, UnknownKind, WrongLength}
use Rattle.hop_rule.specs.Refused.{code}
use Rattle.hop_rule.specs.State.{State}
use Rattle.hop_rule.specs.Rule.{total, waiting_for, waiting_from, reached}

-- Little-endian 16-bit numbers.
unfoldable pub words : List ℕ → List ℕ
words [] = []
words (x ∷ xs) = (x % 256) ∷ (x / 256) ∷ words xs

unfoldable pub word_at : List ℕ → ℕ → ℕ
word_at s p = get_or s p 0 + 256 * get_or s (p + 1) 0

-- A record: length (of all that follows it), kind, body.
unfoldable pub record_of : ℕ → List ℕ → List ℕ
record_of kind body = words ((2 + 2 * length body) ∷ kind ∷ body)

-- Events: 15 make, 16 up, 17 down, 18 deliver from first to second, 19 pass; by 02, R-5, 20 notice by the first end that its link to the second is lost.
unfoldable pub kind_of : Event → ℕ
kind_of (Make n) = 15
kind_of (Up a b) = 16
kind_of (Down a b) = 17
kind_of (Deliver w u) = 18
kind_of Pass = 19
kind_of (Notice a b) = 20

unfoldable pub body_of : Event → List ℕ
body_of (Make n) = n ∷ []
body_of (Up a b) = a ∷ b ∷ []
body_of (Down a b) = a ∷ b ∷ []
body_of (Deliver w u) = w ∷ u ∷ []
body_of Pass = []
body_of (Notice a b) = a ∷ b ∷ []

unfoldable pub event_record : Event → List ℕ
event_record e = record_of (kind_of e) (body_of e)

-- Status record, kind 1, length 12: node, entries waiting for it, entries waiting from it, destinations reached, total queued.
unfoldable pub status_record : State → ℕ → List ℕ
status_record s u = record_of 1 (u ∷ waiting_for s u ∷ waiting_from s u ∷ reached s u ∷ total s ∷ [])

-- Writing puts the record first and changes none of the bytes after it.
unfoldable pub written : {A : Type 0} → List A → List A → List A
written r out = r ++ drop (length r) out

-- Reading knows the six event kinds only; each has its length.
unfoldable pub known : ℕ → Bool
known kind = eqb kind 15 || (eqb kind 16 || (eqb kind 17 || (eqb kind 18 || (eqb kind 19 || eqb kind 20))))

unfoldable pub length_of : ℕ → ℕ
length_of kind = if eqb kind 15 then 4 else if eqb kind 19 then 2 else 6

-- The event of a known kind with its numbers. One that the kind does not have is not looked at.
unfoldable pub event_of : ℕ → ℕ → ℕ → Event
event_of kind first second =
    if eqb kind 15 then Make first
    else if eqb kind 16 then Up first second
    else if eqb kind 17 then Down first second
    else if eqb kind 18 then Deliver first second
    else if eqb kind 19 then Pass
    else Notice first second

-- The event of a known kind whose body begins at p.
abbrev pub event_at : ℕ → List ℕ → ℕ → Event
event_at kind s p = event_of kind (word_at s p) (word_at s (p + 2))

-- What reading at a place finds: an event and the place after its record, or none at the plain end, or a refusal.
abbrev pub Reading : Type 0
Reading = Result (Option (Event × ℕ)) Refused

-- Reading at place p. Order: a place past the end 9; no bytes left is the plain end; fewer than 4 bytes 9, then 10, 11, body cut 9.
unfoldable pub read_event : List ℕ → ℕ → Reading
read_event s p =
    if ltb (length s) p then Err CutShort
    else if eqb (length s) p then Ok None
    else if ltb (length s) (p + 4) then Err CutShort
    else if not (known (word_at s (p + 2))) then Err UnknownKind
    else if not (eqb (word_at s p) (length_of (word_at s (p + 2)))) then Err WrongLength
    else if ltb (length s) (p + 2 + word_at s p) then Err CutShort
    else Ok (Some (event_at (word_at s (p + 2)) s (p + 4), p + 2 + word_at s p))

-- What reading answers, as 01's numbers: the number of the refusal, 0 for an event and for the plain end;
abbrev pub number_of : Reading → ℕ
number_of = code

-- the event's kind and its kind's numbers, none at the end and at a refusal;
unfoldable pub answers_of : Reading → List ℕ
answers_of (Ok (Some (e, next))) = kind_of e ∷ body_of e
answers_of (Ok None) = []
answers_of (Err r) = []

-- and the place to read at next: past the record that was found; a refusal or the end leaves it as it was.
unfoldable pub place_after : Reading → ℕ → ℕ
place_after (Ok (Some (e, next))) at = next
place_after (Ok None) at = at
place_after (Err r) at = at
