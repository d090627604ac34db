-- A row tested through windows that overlap: together they cover it. Assumes nothing.
use mathlib.Core.Path.{◌≡◌, subst}
use mathlib.Core.Bool.{Bool, true, ◌&&◌}
use Prim.Native.Nat.{ℕ, ◌+◌, ◌-◌, ◌≤◌, ◌<◌}
use native.Mathlib.Decide.{dec_lt}
use native.Mathlib.Omega.{arith}
use Rattle.hop_rule.specs.Words.{every}
use Rattle.hop_laws.proofs.Tests.{Tells, tells_as, tells_same, tells_and, tells_every}

module _ (p : ℕ → Bool) where
  tells_itself : (i : ℕ) → Tells (p i) (p i ≡ true)
  tells_itself i = record { shows = λ e. e; if_so = λ e. e }

  -- What a window shows of a place in it.
  shown : (at i : ℕ) → at ≤ i → p (at + (i - at)) ≡ true → p i ≡ true
  shown at i l e = subst (λ (j : ℕ). p j ≡ true) (let z : at + (i - at) ≡ i = omega arith in z) e

  pub in_windows : (m n middle last : ℕ) → last + m ≡ n → middle ≤ m → middle ≤ last → last ≤ middle + m → every m (λ v. (p v && p (middle + v)) && p (last + v)) ≡ every n p
  in_windows m n middle last e l k o = tells_same
      (tells_as cover (λ h v i. ((h v (omega arith), h (middle + v) (omega arith)), h (last + v) (omega arith))) (tells_every m (λ v i. tells_and (tells_and (tells_itself v) (tells_itself (middle + v))) (tells_itself (last + v)))))
      (tells_every n (λ i j. tells_itself i))
    where
      cover : ((v : ℕ) → v < m → ((p v ≡ true) × (p (middle + v) ≡ true)) × (p (last + v) ≡ true)) → (i : ℕ) → i < n → p i ≡ true
      cover h i j = go (dec_lt i m) (dec_lt i (middle + m))
        where
          go : Dec (i < m) → Dec (i < middle + m) → p i ≡ true
          go (yes a) b = (h i a).0.0
          go (no a) (yes b) = shown middle i (omega arith) (h (i - middle) (omega arith)).0.1
          go (no a) (no b) = shown last i (omega arith) (h (i - last) (omega arith)).1
