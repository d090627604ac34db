-- 01, 'Records' and 'The program': the worked input read record by record, and each answer that reading can give, as one table. Uses Records.
use Rattle.std.specs.Prelude.{◌≡◌, refl, Some, None, Ok, Err, List, [], ◌∷◌, ◌++◌, map, ℕ}
use Rattle.hop_rule.specs.declared.Event.TheVariants.{Make, Up, Down, Deliver, Pass, Notice}
use Rattle.hop_rule.specs.declared.Refused.TheVariants.{CutShort, UnknownKind, WrongLength}
use Rattle.hop_rule.specs.Records.{words, word_at, record_of, kind_of, body_of, event_record, known, length_of, event_of, Reading, read_event}

-- Bytes, a place, and what is read there.
pub data Sample : Type 0 where
  at : List ℕ → ℕ → Reading → Sample

unfoldable pub observed : Sample → Reading
observed (at s p r) = read_event s p

unfoldable pub expected : Sample → Reading
expected (at s p r) = r

-- The program's worked input, as its records are written.
unfoldable pub script : List ℕ
script = event_record (Make 2) ++ event_record (Up 0 1) ++ event_record Pass ++ event_record Pass

pub script_is : script ≡ 4 ∷ 0 ∷ 15 ∷ 0 ∷ 2 ∷ 0 ∷ 6 ∷ 0 ∷ 16 ∷ 0 ∷ 0 ∷ 0 ∷ 1 ∷ 0 ∷ 2 ∷ 0 ∷ 19 ∷ 0 ∷ 2 ∷ 0 ∷ 19 ∷ 0 ∷ []
unfolding script event_record record_of words kind_of body_of
script_is = refl

unfoldable pub samples : List Sample
samples =
    at script 0 (Ok (Some (Make 2, 6)))
    ∷ at script 6 (Ok (Some (Up 0 1, 14)))
    ∷ at script 14 (Ok (Some (Pass, 18)))
    ∷ at script 18 (Ok (Some (Pass, 22)))
    -- no bytes left is the plain end; a place past the end is 9
    ∷ at script 22 (Ok None)
    ∷ at script 23 (Err CutShort)
    -- body numbers run to 65,535
    ∷ at (6 ∷ 0 ∷ 17 ∷ 0 ∷ 255 ∷ 255 ∷ 0 ∷ 1 ∷ []) 0 (Ok (Some (Down 65535 256, 8)))
    ∷ at (6 ∷ 0 ∷ 18 ∷ 0 ∷ 1 ∷ 0 ∷ 2 ∷ 0 ∷ 7 ∷ []) 0 (Ok (Some (Deliver 1 2, 8)))
    -- R-5's kind 20, noticing end first
    ∷ at (event_record (Notice 3 1)) 0 (Ok (Some (Notice 3 1, 8)))
    ∷ at (6 ∷ 0 ∷ 20 ∷ 0 ∷ 1 ∷ 0 ∷ 2 ∷ 0 ∷ []) 0 (Ok (Some (Notice 1 2, 8)))
    -- fewer than 4 bytes 9; then an unknown kind 10, a status record too; a wrong length 11, cut or not; a cut body 9
    ∷ at (4 ∷ 0 ∷ 15 ∷ []) 0 (Err CutShort)
    ∷ at (12 ∷ 0 ∷ 1 ∷ 0 ∷ []) 0 (Err UnknownKind)
    ∷ at (6 ∷ 0 ∷ 21 ∷ 0 ∷ 1 ∷ 0 ∷ 2 ∷ 0 ∷ []) 0 (Err UnknownKind)
    ∷ at (6 ∷ 0 ∷ 15 ∷ 0 ∷ []) 0 (Err WrongLength)
    ∷ at (2 ∷ 0 ∷ 15 ∷ 0 ∷ 2 ∷ 0 ∷ []) 0 (Err WrongLength)
    ∷ at (2 ∷ 0 ∷ 20 ∷ 0 ∷ []) 0 (Err WrongLength)
    ∷ at (4 ∷ 0 ∷ 15 ∷ 0 ∷ 2 ∷ []) 0 (Err CutShort)
    ∷ at (6 ∷ 0 ∷ 20 ∷ 0 ∷ 1 ∷ 0 ∷ 2 ∷ []) 0 (Err CutShort)
    ∷ []

-- The one statement: each sample is read as it says.
pub samples_hold : map observed samples ≡ map expected samples
unfolding observed expected samples script event_record record_of words kind_of body_of read_event event_of length_of known word_at
samples_hold = refl
