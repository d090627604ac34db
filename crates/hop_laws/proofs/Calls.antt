-- What a call's number says: which refusals did not apply, and so what is known where it is done. Assumes nothing.
use Rattle.std.specs.Prelude.{if◌then◌else◌}
use mathlib.Core.Path.{◌≡◌, refl, sym, ap, ◌∙◌}
use mathlib.Core.Logic.{◌≢◌, ◌⊎◌, inl, inr}
use mathlib.Core.Bool.{Bool, true, false}
use mathlib.Core.List.{List, [], ◌∷◌, ◌++◌}
use Prim.Native.Nat.{ℕ, ◌≤◌, ◌<◌}
use native.Mathlib.Decide.{ℕ_discrete}
use native.Mathlib.Omega.{arith}
use lib.Dec.{eqb}
use lib.ListN.{length}
use borrow.Author.Tests.{eqb-false, ltb-false, not-false}
use Rattle.hop_rule.specs.Stored.{size, nodes}
use Rattle.hop_rule.specs.Sound.{is_sound_bytes}
use Rattle.hop_rule.specs.Calls.{Call, make, check, up, down, notice, deliver, pass, run, route, queue_length, total_queued, status, write_event, Refusal, judge, empty, bad_count, short, not_sound, on_state, refusals, Outcome, answer_at, refused, done, outcome}
use Rattle.hop_laws.specs.Fine.{Fine}
use Rattle.hop_laws.proofs.Tests.{Tells, tells_false, tells_not_so, tells_eq, tells_lt, tells_or, choose_so, choose_else}
use Rattle.hop_laws.proofs.Sound.{sound_bytes_tells}

judge_nothing : judge [] ≡ 0
unfolding judge
judge_nothing = refl

-- A refusal that applies is the answer; one that does not leaves it to the others.
module _ (r : Refusal) (rs : List Refusal) where
  pub judge_applies : r.applies ≡ true → judge (r ∷ rs) ≡ r.number
  unfolding judge
  judge_applies e = rw e

  pub judge_next : r.applies ≡ false → judge (r ∷ rs) ≡ judge rs
  unfolding judge
  judge_next e = rw e

  pub judge_none : 0 < r.number → judge (r ∷ rs) ≡ 0 → (r.applies ≡ false) × (judge rs ≡ 0)
  judge_none l z = go r.applies refl
    where
      go : (b : Bool) → r.applies ≡ b → (r.applies ≡ false) × (judge rs ≡ 0)
      go true e = absurd (omega (arith, judge_applies e))
      go false e = (e, sym (judge_next e) ∙ z)

-- The others matter only where the first does not apply.
pub judge_rest : (r : Refusal) (rs qs : List Refusal) → (r.applies ≡ false → judge rs ≡ judge qs) → judge (r ∷ rs) ≡ judge (r ∷ qs)
judge_rest r rs qs h = go r.applies refl
  where
    go : (b : Bool) → r.applies ≡ b → judge (r ∷ rs) ≡ judge (r ∷ qs)
    go true e = judge_applies r rs e ∙ sym (judge_applies r qs e)
    go false e = judge_next r rs e ∙ h e ∙ sym (judge_next r qs e)

-- What is refused by the first of them is refused.
pub judge_first : (rs more : List Refusal) → judge rs ≢ 0 → judge (rs ++ more) ≡ judge rs
judge_first [] more f = absurd (f judge_nothing)
judge_first (r ∷ rs) more f = go r.applies refl (judge_first rs more)
  where
    go : (b : Bool) → r.applies ≡ b → (judge rs ≢ 0 → judge (rs ++ more) ≡ judge rs) → judge (r ∷ (rs ++ more)) ≡ judge (r ∷ rs)
    go true e h = judge_applies r (rs ++ more) e ∙ sym (judge_applies r rs e)
    go false e h = judge_next r (rs ++ more) e ∙ h (λ z. f (judge_next r rs e ∙ z)) ∙ sym (judge_next r rs e)

-- A refusal's number is not 0: that is 'done'.
abbrev pub Numbered : List Refusal → Type 0
Numbered [] = Unit {0}
Numbered (r ∷ rs) = (0 < r.number) × Numbered rs

-- Where none of the first applies, the others decide.
pub judge_passed : (rs more : List Refusal) → Numbered rs → judge rs ≡ 0 → judge (rs ++ more) ≡ judge more
judge_passed [] more h z = refl
judge_passed (r ∷ rs) more h z = let (none, z₁) = judge_none r rs h.0 z in judge_next r (rs ++ more) none ∙ judge_passed rs more h.1 z₁

-- ---- done or refused

-- What is done has the number 0, so a call's number is what its refusals are judged to be.
pub judged_number : {A : Type 0} (rs : List Refusal) (number : A → ℕ) (done refused : A) → number done ≡ 0 → number refused ≡ judge rs → number (if eqb (judge rs) 0 then done else refused) ≡ judge rs
judged_number rs number done refused z r = go (ℕ_discrete (judge rs) 0)
  where
    go : Dec (judge rs ≡ 0) → number (if eqb (judge rs) 0 then done else refused) ≡ judge rs
    go (yes none) = ap number (choose_so (tells_eq (judge rs) 0) done refused none) ∙ z ∙ sym none
    go (no some) = ap number (choose_else (tells_eq (judge rs) 0) done refused some) ∙ r

module _ (c : Call) (s out : List ℕ) where
  pub outcome_done : judge (refusals c s out) ≡ 0 → outcome c s out ≡ done c s out
  unfolding outcome
  outcome_done z = choose_so (tells_eq (judge (refusals c s out)) 0) _ _ z

  pub outcome_refused : judge (refusals c s out) ≢ 0 → outcome c s out ≡ refused (judge (refusals c s out)) s out
  unfolding outcome
  outcome_refused f = choose_else (tells_eq (judge (refusals c s out)) 0) _ _ f

  pub outcome_number : (outcome c s out).number ≡ judge (refusals c s out)
  unfolding outcome done
  outcome_number = judged_number (refusals c s out) (λ (o : Outcome). o.number) _ _ done_number refl
    where
      done_number : (done c s out).number ≡ 0
      done_number = elim c as (λ c. (done c s out).number ≡ 0) [
        | make n ↦ refl
        | check ↦ refl
        | up a b ↦ refl
        | down a b ↦ refl
        | notice a b ↦ refl
        | deliver w u ↦ refl
        | pass ↦ refl
        | run k ↦ refl
        | route u v ↦ refl
        | queue_length w u ↦ refl
        | total_queued ↦ refl
        | status u ↦ refl
        | write_event e ↦ refl
      ]

  -- The number 0 is 'done', with the answers that the call then has.
  pub done_answers : (outcome c s out).number ≡ 0 → (outcome c s out).answers ≡ (done c s out).answers
  done_answers z = ap (λ o. o.answers) (outcome_done (sym outcome_number ∙ z))

  -- A refused call has no other answer, so one that has was done.
  pub answer_done : (i : ℕ) → 0 < answer_at i (outcome c s out) → judge (refusals c s out) ≡ 0
  answer_done i l = go (ℕ_discrete (judge (refusals c s out)) 0)
    where
      go : Dec (judge (refusals c s out) ≡ 0) → judge (refusals c s out) ≡ 0
      go (yes z) = z
      go (no f) = absurd (omega (arith, ap (answer_at i) (outcome_refused f)))

-- ---- the state's own refusals

-- A node count of 1 to 40.
pub tells_bad_count : (n : ℕ) → Tells (bad_count n).applies ((n ≡ 0) ⊎ (40 < n))
tells_bad_count n = tells_or (tells_eq n 0) (tells_lt 40 n)

pub good_count : (n : ℕ) → (bad_count n).applies ≡ false → (1 ≤ n) × (n ≤ 40)
good_count n e =
    let no-bad = tells_not_so (tells_bad_count n) e in
    let some : n ≢ 0 = λ z. no-bad (inl z) in
    let most : ¬ (40 < n) = λ l. no-bad (inr l) in
    (omega arith, omega arith)

pub count_good : (n : ℕ) → 1 ≤ n → n ≤ 40 → (bad_count n).applies ≡ false
count_good n l m = tells_false (tells_bad_count n) (λ x. elim x [ inl z ↦ omega arith | inr h ↦ omega arith ])

module _ (s : List ℕ) (more : List Refusal) where
  pub state_fine : judge (on_state s more) ≡ 0 → Fine s × (judge more ≡ 0)
  state_fine z =
      let (some, z₁) = judge_none (empty s) _ (omega arith) z in
      let (count, z₂) = judge_none (bad_count (nodes s)) _ (omega arith) z₁ in
      let (room, z₃) = judge_none (short s (size (nodes s))) _ (omega arith) z₂ in
      let (sound, z₄) = judge_none (not_sound s) _ (omega arith) z₃ in
      let some : length s ≢ 0 = eqb-false (length s) 0 some in
      let (least, most) = good_count (nodes s) count in (
        record {
          some = omega arith;
          least = least;
          most = most;
          room = ltb-false (length s) (size (nodes s)) room;
          sound = (sound_bytes_tells s).shows (not-false (is_sound_bytes s) sound);
        },
        z₄,
      )

  -- They come first: what they refuse is refused, and where they do not the others decide.
  pub state_refused : judge (on_state s []) ≢ 0 → judge (on_state s more) ≡ judge (on_state s [])
  state_refused f = judge_first (on_state s []) more f

  pub state_passed : judge (on_state s []) ≡ 0 → judge (on_state s more) ≡ judge more
  state_passed z = judge_passed (on_state s []) more (omega arith) z
