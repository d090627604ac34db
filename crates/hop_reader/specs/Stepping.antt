-- 01, 'Records': records read one after another. What is read at a place, and the place to read at next. Uses hop_rule's Records.
use Rattle.std.specs.Prelude.{◌≡◌, List, ℕ}
use Rattle.hop_rule.specs.Records.{Reading, read_event, place_after}
use Rattle.hop_reader.specs.declared.Step.{Step}

-- The contracts of a reader, by what it keeps: what it refers to, and its place. Made at a place it keeps both; reading the bytes that it refers to leaves what it refers to, and moves the place.
abbrev pub MadeAt : {S : Type 0} → S → ℕ → S → ℕ → Type 0
MadeAt src at kept place = (kept ≡ src) × (place ≡ at)

abbrev pub ReadsNext : {S : Type 0} → List ℕ → S → ℕ → Reading → S → ℕ → Type 0
ReadsNext bytes src at reading kept place = (reading ≡ read_event bytes at) × (kept ≡ src) × (place ≡ place_after reading at)

-- One record through a reader.
abbrev pub step_at : List ℕ → ℕ → Step
step_at s at = record { reading = read_event s at; next = place_after (read_event s at) at }
