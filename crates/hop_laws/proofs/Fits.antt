-- Every number of a record fits in two bytes: an event's because they are asked to, a status record's because the state is sound. Assumes nothing.
use mathlib.Core.List.{List, [], ◌∷◌}
use Prim.Native.Nat.{ℕ, zero, suc, ◌+◌, ◌*◌, ◌≤◌, ◌<◌}
use native.Mathlib.Omega.{arith}
use lib.ListN.{length, get_or}
use Rattle.hop_rule.specs.declared.Event.{Event}
use Rattle.hop_rule.specs.declared.Event.TheVariants.{Make, Up, Down, Deliver, Pass, Notice}
use Rattle.hop_rule.specs.State.{State}
use Rattle.hop_rule.specs.Sound.{Sound}
use Rattle.hop_rule.specs.Records.{words, record_of, body_of, event_record, status_record}
use Rattle.hop_laws.proofs.Records.{kind_small}
use Rattle.hop_laws.proofs.Ceiling.{total_fits, waiting_for_fits, waiting_from_fits, reached_fits}

-- Every number of a list fits in two bytes.
abbrev Fit : List ℕ → Type 0
Fit [] = Unit {0}
Fit (x ∷ xs) = (x < 65536) × Fit xs

fit : (xs : List ℕ) → ((i : ℕ) → get_or xs i 0 < 65536) → Fit xs
fit [] h = tt
fit (x ∷ xs) h = (h 0, fit xs (λ i. h (suc i)))

-- Such numbers are written as bytes.
words_bytes : (xs : List ℕ) → Fit xs → (i : ℕ) → get_or (words xs) i 0 < 256
unfolding words
words_bytes [] h i = omega arith
words_bytes (x ∷ xs) h zero = omega arith
words_bytes (x ∷ xs) h (suc zero) = omega arith
words_bytes (x ∷ xs) h (suc (suc i)) = words_bytes xs h.1 i

pub event_bytes : (e : Event) → ((i : ℕ) → get_or (body_of e) i 0 < 65536) → (i : ℕ) → get_or (event_record e) i 0 < 256
unfolding event_record record_of body_of
event_bytes e h = words_bytes _ (head, (omega (arith, kind_small e), fit (body_of e) h))
  where
    head : 2 + 2 * length (body_of e) < 65536
    head = elim e as (λ e. 2 + 2 * length (body_of e) < 65536) [ Make n ↦ omega arith | Up a b ↦ omega arith | Down a b ↦ omega arith | Deliver w u ↦ omega arith | Pass ↦ omega arith | Notice a b ↦ omega arith ]

-- The fields of a status record are never reduced: soundness makes them fit.
pub status_bytes : (s : State) → Sound s → s.n ≤ 40 → (u : ℕ) → u < s.n → (i : ℕ) → get_or (status_record s u) i 0 < 256
unfolding status_record record_of
status_bytes s o l u k = words_bytes _ (omega (arith, waiting_for_fits s o l u k, waiting_from_fits s o l u k, reached_fits s o l u k, total_fits s o l))
