-- How the code's tests meet the list of refusals: what the first of them refuse is refused; where none of them applies, the next decides. So an answer tells the call's outcome. Assumes nothing.
use Rattle.std.specs.Prelude.{Result, Ok, Err, if◌then◌else◌}
use mathlib.Core.Path.{◌≡◌, refl, sym, ap, ◌∙◌}
use mathlib.Core.Logic.{◌≢◌}
use mathlib.Core.Bool.{Bool, true, false}
use mathlib.Core.List.{List, [], ◌∷◌, ◌++◌}
use Prim.Native.Nat.{ℕ}
use native.Mathlib.Omega.{arith}
use lib.ListN.{length}
use borrow.Author.Tests.{eq-eqb, ne_eqb}
use Rattle.std.specs.Result.{IsErrAnd}
use Rattle.std.proofs.lemmas.Result.{err_from_is_err_and}
use Rattle.hop_rule.specs.declared.Refused.{Refused}
use Rattle.hop_rule.specs.declared.Refused.TheVariants.{Short}
use Rattle.hop_rule.specs.Refused.{number, code}
use Rattle.hop_rule.specs.Stored.{size, nodes}
use Rattle.hop_rule.specs.Calls.{Call, make, Refusal, judge, empty, bad_count, short, on_state, refusals, refused, done, outcome}
use Rattle.hop_laws.proofs.Calls.{judge_applies, judge_next, judge_first, judge_passed, Numbered, outcome_done, outcome_refused}
use Rattle.hop_laws.proofs.Refused.{number_some, number_fixes}
use Rattle.hop_judge.specs.Verdict.{Judges}

-- What `?` hands on is the refusal that it met.
pub handed_on : {A : Type 0} (i : Result A Refused) {r : Refused} → IsErrAnd i (λ t. t ≡ r) → i ≡ Err r
handed_on i h = let (t, is, same) = err_from_is_err_and i h in rw same at is

-- Which case an answer is tells the number.
pub gone : (c m : ℕ) {j : Result ℕ Refused} → Judges c m j → {n : ℕ} → j ≡ Ok n → (c ≡ 0) × (n ≡ m)
gone c m h {n} g = (sym h.number ∙ ap code g, h.count n g)

pub stopped : (c m : ℕ) {j : Result ℕ Refused} → Judges c m j → {r : Refused} → j ≡ Err r → (number r ≡ c) × (c ≢ 0)
stopped c m h {r} f = let same : number r ≡ c = sym (ap code f) ∙ h.number in (same, λ z. number_some r (same ∙ z))

-- And the number tells the case.
pub goes : {c m : ℕ} → c ≡ 0 → Judges c m (Ok m)
goes z = record { number = sym z; count = λ k g. cc }

pub stops : {c m : ℕ} {r : Refused} → number r ≡ c → Judges c m (Err r)
stops same = record { number = same; count = λ k g. let never : ◌≡◌ {A = ℕ} 0 1 = cc in absurd (omega arith) }

-- No call is judged in two ways.
pub judged_once : (c m : ℕ) (i j : Result ℕ Refused) → Judges c m i → Judges c m j → i ≡ j
judged_once c m (Ok n) (Ok k) p q = ap Ok (p.count n refl ∙ sym (q.count k refl))
judged_once c m (Ok n) (Err r) p q = absurd (number_some r (q.number ∙ sym p.number))
judged_once c m (Err r) (Ok n) p q = absurd (number_some r (p.number ∙ sym q.number))
judged_once c m (Err r) (Err t) p q = ap Err (number_fixes r t (p.number ∙ sym q.number))

-- An answer to one number is an answer to an equal one.
judges_as : {c d m n : ℕ} {j : Result ℕ Refused} → c ≡ d → m ≡ n → Judges c m j → Judges d n j
judges_as p q h = record { number = h.number ∙ p; count = λ k g. h.count k g ∙ q }

module _ (r : Refusal) (more : List Refusal) (m : ℕ) where
  pub first_refuses : r.applies ≡ true → {e : Refused} → number e ≡ r.number → Judges (judge (r ∷ more)) m (Err e)
  first_refuses t h = stops (h ∙ sym (judge_applies r more t))

  pub first_passes : r.applies ≡ false → {j : Result ℕ Refused} → Judges (judge more) m j → Judges (judge (r ∷ more)) m j
  first_passes t h = judges_as (sym (judge_next r more t)) refl h

-- After the first of them.
module _ (rs : List Refusal) (m : ℕ) {j : Result ℕ Refused} (h : Judges (judge rs) m j) where
  pub refused_already : (more : List Refusal) → {r : Refused} → j ≡ Err r → {i : Result ℕ Refused} → i ≡ Err r → Judges (judge (rs ++ more)) m i
  refused_already more f back = let (same, some) = stopped _ _ h f in rw back (stops (same ∙ sym (judge_first rs more some)))

  -- The code's test b is the refusal's, by the count that it goes on with.
  pub judged_next : (r : Refusal) → Numbered rs → {n : ℕ} → j ≡ Ok n → {b : Bool} → (n ≡ m → b ≡ r.applies) → {i : Result ℕ Refused} → Judges (if b then r.number else 0) n i → Judges (judge (rs ++ (r ∷ []))) m i
  unfolding judge
  judged_next r positive g same next =
      let (none, claim) = gone _ _ h g in
      judges_as (ap (λ b. if b then r.number else 0) (same claim) ∙ sym (judge_passed rs (r ∷ []) positive none)) claim next

-- An empty buffer is refused before anything else.
pub empty_refused : (s : List ℕ) → length s ≡ 0 → Judges (judge (on_state s [])) (nodes s) (Err Short)
empty_refused s e = first_refuses (empty s) _ (nodes s) (eq-eqb _ _ e) refl

-- A buffer that is not empty is judged by the count that its first byte claims.
pub claimed : (s : List ℕ) → length s ≢ 0 → {n : ℕ} → n ≡ nodes s → {j : Result ℕ Refused} → Judges (judge (refusals (make n) s [])) n j → Judges (judge (empty s ∷ bad_count (nodes s) ∷ short s (size (nodes s)) ∷ [])) (nodes s) j
unfolding refusals
claimed s some claim h = first_passes (empty s) _ (nodes s) (ne_eqb _ _ some) (judges_as (ap (λ m. judge (refusals (make m) s [])) claim) claim h)

-- A call is refused with the number of the answer, or done where it goes on.
module _ (c : Call) (s out : List ℕ) (m : ℕ) {j : Result ℕ Refused} (h : Judges (judge (refusals c s out)) m j) where
  pub call_refused : {r : Refused} → j ≡ Err r → refused (number r) s out ≡ outcome c s out
  call_refused f = let (same, some) = stopped _ _ h f in ap (λ i. refused i s out) same ∙ sym (outcome_refused c s out some)

  pub call_done : {n : ℕ} → j ≡ Ok n → done c s out ≡ outcome c s out
  call_done g = sym (outcome_done c s out (gone _ _ h g).0)
