-- Words that are stored from the start of an output are the record written; and what a function that tries to write one gives. Assumes nothing.
use mathlib.Core.Path.{◌≡◌, refl, ◌∙◌}
use mathlib.Core.Bool.{Bool, true, false, cond}
use mathlib.Core.List.{List, [], ◌∷◌, ◌++◌}
use Prim.Native.Nat.{ℕ, suc, ◌+◌, ◌*◌, ◌≤◌}
use native.Mathlib.Nat.{zero-add}
use native.Mathlib.Omega.{arith}
use lib.Dec.{eqb, ltb}
use lib.ListN.{length, set}
use lib.Seq.{sets, sets-eq}
use Rattle.hop_rule.specs.declared.Event.{Event}
use Rattle.hop_rule.specs.Records.{words, record_of, event_record, written}
use Rattle.hop_rule.specs.Calls.{write_event, Outcome, judge, refusals, refused, recorded, done, outcome}
use Rattle.hop_laws.proofs.Records.{length_words}
use Rattle.hop_records.specs.Writing.{tried}

words_append : (xs ys : List ℕ) → words (xs ++ ys) ≡ words xs ++ words ys
unfolding words
words_append [] ys = refl
words_append (x ∷ xs) ys = rw (words_append xs ys)

sets_append : (vs ws l : List ℕ) (i j : ℕ) → j ≡ i + length vs → sets (sets l i vs) j ws ≡ sets l i (vs ++ ws)
sets_append [] ws l i j e = let z : j ≡ i = omega arith in rw z
sets_append (a ∷ vs) ws l i j e = sets_append vs ws (set l i a) (suc i) j (omega arith)

-- One word more, behind those that are stored.
pub word_more : (xs out : List ℕ) (x at : ℕ) → at ≡ 2 * length xs → sets (sets out 0 (words xs)) at (words (x ∷ [])) ≡ sets out 0 (words (xs ++ x ∷ []))
word_more xs out x at e = sets_append (words xs) (words (x ∷ [])) out 0 at (omega (arith, length_words xs)) ∙ rw (words_append xs (x ∷ []))

module _ (kind : ℕ) (body : List ℕ) where
  pub length_record : length (record_of kind body) ≡ 4 + 2 * length body
  unfolding record_of
  length_record = omega (arith, length_words ((2 + 2 * length body) ∷ kind ∷ body))

  pub stored_record : (out : List ℕ) (n : ℕ) → n ≡ length body → 4 + 2 * n ≤ length out → sets out 0 (words ((2 + 2 * n) ∷ kind ∷ body)) ≡ written (record_of kind body) out
  unfolding written record_of
  stored_record out n e h =
      let long = length_words ((2 + 2 * length body) ∷ kind ∷ body) in
      rw (e, sets-eq (words ((2 + 2 * length body) ∷ kind ∷ body)) out 0 (omega arith), zero-add)

-- To try an event's record is to write the event.
pub tried_outcome : (e : Event) (out : List ℕ) → tried (event_record e) out ≡ outcome (write_event e) [] out
unfolding tried outcome refusals judge done
tried_outcome e out = go (ltb (length out) (length (event_record e))) (recorded (event_record e) [] out)
  where
    go : (short : Bool) (d : Outcome) → cond short (refused 2 [] out) d ≡ cond (eqb (cond short 2 0) 0) d (refused (cond short 2 0) [] out)
    go true d = refl
    go false d = refl
