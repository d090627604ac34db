-- Those numbers below k that pass a test, as R-3's set has them: they are just these, they ascend, and where one is left out there are fewer than k. Each number more is taken, behind all others, or left out. Assumes nothing.
use Rattle.std.specs.Prelude.{if◌then◌else◌}
use mathlib.Core.Path.{◌≡◌, refl, sym, ap, subst, ◌∙◌}
use mathlib.Core.Logic.{◌⊎◌, inl, inr}
use mathlib.Core.Bool.{Bool, true, false}
use mathlib.Core.List.{List, [], ◌∷◌, ◌++◌, append-nil}
use Prim.Native.Nat.{ℕ, zero, suc, ◌<◌}
use native.Mathlib.Nat.{le_refl}
use native.Mathlib.Decide.{ℕ_discrete}
use native.Mathlib.Omega.{arith}
use lib.ListN.{length, length-append}
use Rattle.hop_rule.specs.Words.{joined, those}
use Rattle.hop_laws.proofs.Tests.{Tells, true_not_false, tells_false, decides}
use Rattle.hop_laws.proofs.Words.{those_so, those_not, those_most}
use Rattle.hop_rest.specs.Why.{In, Ascends}

-- ---- one number more, at the end

in_before : (x k : ℕ) (l : List ℕ) → In x l → In x (l ++ k ∷ [])
in_before x k [] i = absurd i
in_before x k (y ∷ l) (inl e) = inl e
in_before x k (y ∷ l) (inr i) = inr (in_before x k l i)

in_last : (k : ℕ) (l : List ℕ) → In k (l ++ k ∷ [])
in_last k [] = inl refl
in_last k (y ∷ l) = inr (in_last k l)

in_either : (x k : ℕ) (l : List ℕ) → In x (l ++ k ∷ []) → (x ≡ k) ⊎ In x l
in_either x k [] i = i
in_either x k (y ∷ l) (inl e) = inr (inl e)
in_either x k (y ∷ l) (inr i) = elim (in_either x k l i) [ inl e ↦ inl e | inr j ↦ inr (inr j) ]

ascends_last : (k : ℕ) (l : List ℕ) → Ascends l → ((x : ℕ) → In x l → x < k) → Ascends (l ++ k ∷ [])
ascends_last k [] a h = ((λ x i. absurd i), tt)
ascends_last k (y ∷ l) a h =
    ((λ x i. elim (in_either x k l i) [ inl e ↦ subst (λ (z : ℕ). y < z) (sym e) (h y (inl refl)) | inr j ↦ a.0 x j ]), ascends_last k l a.1 (λ x i. h x (inr i)))

-- ---- those of which P holds

pub record Chosen (P : ℕ → Type 0) (k : ℕ) (l : List ℕ) : Type 0 where
  pub only : (x : ℕ) → In x l → (x < k) × P x
  pub all : (x : ℕ) → x < k → P x → In x l
  pub ascends : Ascends l

module _ {P : ℕ → Type 0} where
  taken : {k : ℕ} {l : List ℕ} → P k → Chosen P k l → Chosen P (suc k) (l ++ k ∷ [])
  taken {k} {l} p c = record {
    only = λ x i. own x (in_either x k l i);
    all = λ x b q. at x b q (ℕ_discrete x k);
    ascends = ascends_last k l c.ascends (λ x i. (c.only x i).0);
  }
    where
      own : (x : ℕ) → (x ≡ k) ⊎ In x l → (x < suc k) × P x
      own x (inl e) = (omega arith, subst P (sym e) p)
      own x (inr i) = let r = c.only x i in (omega (arith, r.0), r.1)

      at : (x : ℕ) → x < suc k → P x → Dec (x ≡ k) → In x (l ++ k ∷ [])
      at x b q (yes e) = subst (λ (z : ℕ). In z (l ++ k ∷ [])) (sym e) (in_last k l)
      at x b q (no f) = in_before x k l (c.all x (omega arith) q)

  left : {k : ℕ} {l : List ℕ} → (P k → ⊥) → Chosen P k l → Chosen P (suc k) l
  left {k} {l} f c = record {
    only = λ x i. let r = c.only x i in (omega (arith, r.0), r.1);
    all = λ x b q. let e : (x ≡ k) → ⊥ = λ e. f (subst P e q) in c.all x (omega arith) q;
    ascends = c.ascends;
  }

  pub chosen : (test : ℕ → Bool) (k : ℕ) → ((x : ℕ) → x < k → Tells (test x) (P x)) → Chosen P k (those k test)
  unfolding joined
  chosen test zero t = record { only = λ x i. absurd i; all = λ x b q. absurd (omega arith); ascends = tt }
  chosen test (suc k) t = go (decides last) (chosen test k (λ x b. t x (omega arith)))
    where
      last : Tells (test k) (P k)
      last = t k (le_refl _)

      go : {l : List ℕ} → Dec (P k) → Chosen P k l → Chosen P (suc k) (l ++ (if test k then k ∷ [] else []))
      go (yes p) c = rw (last.if_so p) (taken p c)
      go {l} (no f) c = rw (tells_false last f, append-nil l) (left f c)

-- Where one below k is left out there are fewer than k.
pub one_left_out : (test : ℕ → Bool) (k v : ℕ) → v < k → test v ≡ false → length (those k test) < k
one_left_out test zero v l f = absurd (omega arith)
one_left_out test (suc k) v l f = go (test k) refl (ℕ_discrete v k) (one_left_out test k v)
  where
    go : (b : Bool) → test k ≡ b → Dec (v ≡ k) → (v < k → test v ≡ false → length (those k test) < k) → length (those (suc k) test) < suc k
    go true e (yes same) h = absurd (true_not_false (sym e ∙ ap test (sym same) ∙ f))
    go true e (no other) h = omega (arith, ap length (those_so test k e), length-append (those k test) (k ∷ []), h (omega arith) f)
    go false e d h = omega (arith, ap length (those_not test k e), those_most test k)
