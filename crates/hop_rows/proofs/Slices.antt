-- A test of a slice is the test of the buffer at the place that the slice was cut from; and what the library's tests of slices find out. Assumes nothing.
use mathlib.Core.Path.{◌≡◌, refl, sym, ap, ◌∙◌}
use mathlib.Core.Bool.{Bool, true, false, not, ◌&&◌, ◌||◌}
use mathlib.Core.List.{List, [], ◌∷◌}
use Prim.Native.Nat.{ℕ, ◌<◌}
use native.Mathlib.Omega.{arith}
use lib.Dec.{eqb, ltb}
use lib.ListN.{length, get_or}
use lib.Pointwise.{pointwise}
use Rattle.std.specs.List.{list_any}
use Rattle.hop_rule.specs.Words.{every}
use Rattle.hop_rows.specs.Rows.{IsRow, byte, all_are, both_are, all_below, none_is, same}
use Rattle.hop_rows.proofs.Every.{every_none, every_front, every_as}
use Rattle.hop_rows.proofs.Parts.{byte_of}

not_or : (b c : Bool) → not (b || c) ≡ not b && not c
not_or true c = refl
not_or false c = refl

-- The library looks from the front too.
pub equal_every : (a b : List ℕ) → length a ≡ length b → pointwise eqb a b ≡ every (length a) (λ i. eqb (get_or a i 0) (get_or b i 0))
equal_every [] [] e = sym (every_none _)
equal_every [] (y ∷ b) e = absurd (omega arith)
equal_every (x ∷ a) [] e = absurd (omega arith)
equal_every (x ∷ a) (y ∷ b) e = rw (equal_every a b (omega arith)) (sym (every_front (length a) _))

contains_every : (x : ℕ) (r : List ℕ) → not (list_any (λ y. eqb y x) r) ≡ every (length r) (λ i. not (eqb (get_or r i 0) x))
contains_every x [] = sym (every_none _)
contains_every x (y ∷ r) = not_or (eqb y x) _ ∙ rw (contains_every x r) (sym (every_front (length r) (λ i. not (eqb (get_or (y ∷ r) i 0) x))))

module _ {s : List ℕ} {at k : ℕ} {r : List ℕ} (h : IsRow s at k r) where
  -- The law: it holds of every test that goes byte by byte.
  pub every_here : (p : ℕ → ℕ → Bool) → every (length r) (λ i. p i (byte r 0 i)) ≡ every k (λ i. p i (byte s at i))
  every_here p = rw h.long (every_as k (λ i l. ap (p i) (h.bytes i l)))

  pub are_here : (x : ℕ) → all_are r 0 (length r) x ≡ all_are s at k x
  unfolding all_are
  are_here x = every_here (λ i b. eqb b x)

  pub below_here : (x : ℕ) → all_below r 0 (length r) x ≡ all_below s at k x
  unfolding all_below
  below_here x = every_here (λ i b. ltb b x)

  -- A byte that the slice reads.
  pub reads_here : (i : ℕ) → i < k → get_or r i 0 ≡ byte s at i
  reads_here i l = byte_of r i ∙ h.bytes i l

  pub none_here : (x : ℕ) → not (list_any (λ y. eqb y x) r) ≡ none_is s at k x
  unfolding none_is
  none_here x = contains_every x r ∙ rw h.long (every_as k (λ i l. ap (λ (b : ℕ). not (eqb b x)) (reads_here i l)))

module _ {s : List ℕ} {at to k : ℕ} {a b : List ℕ} (h : IsRow s at k a) (g : IsRow s to k b) where
  pub same_here : pointwise eqb a b ≡ same s at to k
  unfolding same
  same_here = equal_every a b (omega (arith, h.long, g.long)) ∙ rw h.long (every_as k (λ i l. rw (reads_here h i l, reads_here g i l)))

  pub both_here : (x : ℕ) → every (length a) (λ i. eqb (byte a 0 i) x && eqb (byte b 0 i) x) ≡ both_are s at to k x
  unfolding both_are
  both_here x = rw h.long (every_as k (λ i l. rw (h.bytes i l, g.bytes i l)))
