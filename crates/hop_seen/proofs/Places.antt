-- n numbers below n differ exactly if every number below n is among them: n numbers have no more than n values. Assumes nothing.
use mathlib.Core.Path.{◌≡◌, refl, sym, ◌∙◌}
use mathlib.Core.Bool.{cond}
use Prim.Native.Nat.{ℕ, suc, ◌-◌, ◌<◌}
use native.Mathlib.Decide.{ℕ_discrete, dec_lt}
use native.Mathlib.Omega.{arith}
use lib.Dec.{eqb, ltb}
use borrow.Author.Tests.{eq-eqb, ne_eqb}
use Rattle.hop_rule.specs.Words.{first}
use Rattle.hop_laws.proofs.Tests.{tells_lt, choose_so, choose_else}
use Rattle.hop_laws.proofs.Words.{first_is, first_none}
use Rattle.hop_laws.proofs.Queues.{cover_most}

module _ (a : ℕ → ℕ) (n : ℕ) where
  -- If they differ none is left out: the place of each is its own, and one that is left out would have a place behind them.
  pub none_left_out : ((i : ℕ) → i < n → a i < n) → ((i : ℕ) → i < n → (j : ℕ) → j < i → a j ≡ a i → ⊥) → (v : ℕ) → v < n → ((i : ℕ) → i < n → a i ≡ v → ⊥) → ⊥
  none_left_out low differ v l out = omega (arith, cover_most n (suc n) (λ x. first n (λ i. eqb (a i) x)) (λ j m. place j m (ℕ_discrete j n)))
    where
      place : (j : ℕ) → j < suc n → Dec (j ≡ n) → (x : ℕ) × (x < n) × (first n (λ i. eqb (a i) x) ≡ j)
      place j m (yes e) = (v, l, first_none n (λ i. eqb (a i) v) (λ i h. ne_eqb (a i) v (out i h)) ∙ sym e)
      place j m (no f) = (a j, low j (omega arith), first_is n (λ i. eqb (a i) (a j)) j (omega arith) (eq-eqb (a j) (a j) refl) (λ i h. ne_eqb (a i) (a j) (differ j (omega arith) i h)))

  -- If none is left out they differ: one that stands twice could go, and n − 1 numbers would have n values.
  pub none_twice : ((v : ℕ) → v < n → (i : ℕ) × (i < n) × (a i ≡ v)) → (p : ℕ) → p < n → (q : ℕ) → q < p → a q ≡ a p → ⊥
  none_twice found p l q h e = omega (arith, cover_most (n - 1) n (λ i. cond (ltb i p) (a i) (a (suc i))) (λ v m. without v (found v m)))
    where
      early : (i : ℕ) → i < p → cond (ltb i p) (a i) (a (suc i)) ≡ a i
      early i m = choose_so (tells_lt i p) (a i) (a (suc i)) m

      without : (v : ℕ) → (i : ℕ) × (i < n) × (a i ≡ v) → (i : ℕ) × (i < n - 1) × (cond (ltb i p) (a i) (a (suc i)) ≡ v)
      without v (i, m, z) = go (ℕ_discrete i p) (dec_lt i p)
        where
          go : Dec (i ≡ p) → Dec (i < p) → (i : ℕ) × (i < n - 1) × (cond (ltb i p) (a i) (a (suc i)) ≡ v)
          go (yes o) c = (q, omega arith, early q h ∙ rw (e, ← o) z)
          go (no f) (yes c) = (i, omega arith, early i c ∙ z)
          go (no f) (no c) =
              let o : suc (i - 1) ≡ i = omega arith in
              (i - 1, omega arith, choose_else (tells_lt (i - 1) p) (a (i - 1)) (a (suc (i - 1))) (λ k. omega arith) ∙ rw o z)
