-- Numbers that are put into a list one behind the other. Assumes nothing.
use mathlib.Core.Path.{◌≡◌, sym, ap, ◌∙◌}
use mathlib.Core.List.{List, [], ◌∷◌, ◌++◌}
use Prim.Native.Nat.{ℕ, suc, ◌+◌, ◌≤◌}
use native.Mathlib.Omega.{arith}
use lib.ListN.{length, set, drop}
use lib.Seq.{sets, sets-eq}
use Rattle.hop_rule.specs.Records.{written}

module _ {A : Type 0} where
  pub sets_append : (xs ys l : List A) (i : ℕ) → sets l i (xs ++ ys) ≡ sets (sets l i xs) (i + length xs) ys
  sets_append [] ys l i = let e : i ≡ i + 0 = omega arith in ap (λ j. sets l j ys) e
  sets_append (x ∷ xs) ys l i = let e : suc i + length xs ≡ i + suc (length xs) = omega arith in sets_append xs ys (set l i x) (suc i) ∙ ap (λ j. sets (sets (set l i x) (suc i) xs) j ys) e

  -- One more.
  pub sets_more : (xs : List A) (x : A) (l : List A) (i : ℕ) {m n : List A} → m ≡ sets l i xs → n ≡ set m (i + length xs) x → n ≡ sets l i (xs ++ (x ∷ []))
  sets_more xs x l i e f = f ∙ ap (λ m. set m (i + length xs) x) e ∙ sym (sets_append xs (x ∷ []) l i)

  -- From the first place on it is what is written.
  pub sets_written : (xs l : List A) → length xs ≤ length l → sets l 0 xs ≡ written xs l
  unfolding written
  sets_written xs l h =
      let e : 0 + length xs ≡ length xs = omega arith in
      sets-eq xs l 0 (omega arith) ∙ ap (λ j. xs ++ drop j l) e
