-- A row that values were written to, each at its destination: where a destination is not written the row is as it was, and where destinations differ each has its value. Assumes nothing.
use mathlib.Core.Path.{◌≡◌, refl, sym, ap, ◌∙◌}
use mathlib.Core.Logic.{◌≢◌}
use mathlib.Core.List.{List}
use Prim.Native.Nat.{ℕ, zero, suc, ◌+◌, ◌≤◌, ◌<◌}
use native.Mathlib.Nat.{le_refl}
use native.Mathlib.Numerals.{add-one}
use native.Mathlib.Decide.{ℕ_discrete}
use native.Mathlib.Omega.{arith}
use lib.Dec.{eqb}
use lib.Pointwise.{pointwise}
use lib.ListN.{length, get_or, take, set, length-set}
use lib.Seq.{get_or-set_same, get_or-set_other}
use Rattle.hop_laws.proofs.Tests.{tells_eq, choose_so, choose_else}
use Rattle.hop_rows.specs.Rows.{IsRow, byte}
use Rattle.hop_rule.specs.Words.{every}
use Rattle.hop_rows.proofs.Every.{every_as}
use Rattle.hop_rows.proofs.Parts.{byte_of}
use Rattle.hop_rows.proofs.Slices.{equal_every}
use Rattle.std.proofs.lemmas.List.{get_or-take, length-take-le}
use Rattle.hop_sound_rows.specs.SoundRows.{told, Told, all_told, rows_told}

-- Only what the rows hold matters.
pub told_as : (x x' a a' b b' : ℕ → ℕ) (k v : ℕ) → x v ≡ x' v → ((i : ℕ) → i < k → a i ≡ a' i) → ((i : ℕ) → i < k → b i ≡ b' i) → told x a b k v ≡ told x' a' b' k v
unfolding told
told_as x x' a a' b b' zero v ex ea eb = ex
told_as x x' a a' b b' (suc k) v ex ea eb = rw (ea k (le_refl _), eb k (le_refl _), told_as x x' a a' b b' k v ex (λ i l. ea i (omega arith)) (λ i l. eb i (omega arith)))

module _ (x a b : ℕ → ℕ) where
  told_last : (k v : ℕ) → a k ≡ v → told x a b (suc k) v ≡ b k
  unfolding told
  told_last k v e = choose_so (tells_eq (a k) v) (b k) (told x a b k v) e

  told_past : (k v : ℕ) → a k ≢ v → told x a b (suc k) v ≡ told x a b k v
  unfolding told
  told_past k v f = choose_else (tells_eq (a k) v) (b k) (told x a b k v) f

  -- What is written at a destination stays there,
  pub told_there : (k : ℕ) → ((p : ℕ) → p < k → (q : ℕ) → q < p → a q ≢ a p) → (p : ℕ) → p < k → told x a b k (a p) ≡ b p
  told_there zero differ p l = absurd (omega arith)
  told_there (suc k) differ p l = go (ℕ_discrete p k) (told_there k (λ p l. differ p (omega arith)) p)
    where
      go : Dec (p ≡ k) → (p < k → told x a b k (a p) ≡ b p) → told x a b (suc k) (a p) ≡ b p
      go (yes e) before = rw e (told_last k (a k) refl)
      go (no f) before = told_past k (a p) (λ e. differ k (le_refl _) p (omega arith) (sym e)) ∙ before (omega arith)

  -- and where nothing is written, the row stays.
  pub told_else : (k v : ℕ) → ((p : ℕ) → p < k → a p ≢ v) → told x a b k v ≡ x v
  unfolding told
  told_else zero v f = refl
  told_else (suc k) v f = told_past k v (f k (le_refl _)) ∙ told_else k v (λ p l. f p (omega arith))

  -- A row that is d where it is not written, with values of d, is d.
  pub told_is : (d : ℕ → ℕ) (k v : ℕ) → ((p : ℕ) → p < k → b p ≡ d (a p)) → (((p : ℕ) → p < k → a p ≢ v) → x v ≡ d v) → told x a b k v ≡ d v
  unfolding told
  told_is d zero v values heard = heard (λ p l. absurd (omega arith))
  told_is d (suc k) v values heard = go (ℕ_discrete (a k) v) (told_is d k v (λ p l. values p (omega arith)))
    where
      later : a k ≢ v → ((p : ℕ) → p < k → a p ≢ v) → (p : ℕ) → p < suc k → Dec (p ≡ k) → a p ≢ v
      later f g p l (yes e) = rw e f
      later f g p l (no h) = g p (omega arith)

      go : Dec (a k ≡ v) → ((((p : ℕ) → p < k → a p ≢ v) → x v ≡ d v) → told x a b k v ≡ d v) → told x a b (suc k) v ≡ d v
      go (yes e) before = told_last k v e ∙ values k (le_refl _) ∙ ap d e
      go (no f) before = told_past k v f ∙ before (λ g. heard (λ p l. later f g p l (ℕ_discrete p k)))

-- ---- the row, filled value by value

module _ {x a b : ℕ → ℕ} {n : ℕ} where
  pub told_none : {heard : List ℕ} → length heard ≡ 40 → ((v : ℕ) → v < n → get_or heard v 0 ≡ x v) → Told x a b n 0 heard
  unfolding told
  told_none e h = record { long = e; view = h }

  pub told_more : {k : ℕ} {heard : List ℕ} → Told x a b n k heard → {i y : ℕ} → i ≡ a k → i < 40 → y ≡ b k → Told x a b n (k + 1) (set heard i y)
  told_more {k} {heard} h {i} {y} e li f = record { long = length-set heard i _ ∙ h.long; view = λ v l. rw (add-one k) (go v l (ℕ_discrete i v)) }
    where
      go : (v : ℕ) → v < n → Dec (i ≡ v) → get_or (set heard i y) v 0 ≡ told x a b (suc k) v
      go v l (yes j) = rw (← j) (get_or-set_same heard i y 0 (omega (arith, h.long)) ∙ f ∙ sym (told_last _ _ _ k i (sym e)))
      go v l (no g) = get_or-set_other heard i v y 0 (λ j. g (sym j)) ∙ h.view v l ∙ sym (told_past _ _ _ k v (λ j. g (e ∙ j)))

-- Rows are told as the buffer is at their places.
pub told_here : {s : List ℕ} {n k views distances destinations values : ℕ} {x d a b : List ℕ} → IsRow s views n x → IsRow s distances n d → IsRow s destinations k a → IsRow s values k b → rows_told x d a b ≡ all_told s n views distances destinations values k
unfolding rows_told all_told
told_here {s} {n} {k} {views} {distances} {destinations} {values} {x} {d} {a} {b} hx hd ha hb =
    rw (hx.long, ha.long) (every_as n (λ v l. rw (hd.bytes v l, told_as (byte x 0) (byte s views) (byte a 0) (byte s destinations) (byte b 0) (byte s values) k v (hx.bytes v l) ha.bytes hb.bytes)))

-- The row of 40 bytes as the library compares it.
pub told_equal : {x a b : ℕ → ℕ} {n k : ℕ} {heard : List ℕ} (d : List ℕ) → Told x a b n k heard → n ≤ 40 → length d ≡ n → pointwise eqb (take n heard) d ≡ every n (λ v. eqb (told x a b k v) (byte d 0 v))
told_equal {n = n} {heard = heard} d h l e =
    let long : length (take n heard) ≡ n = length-take-le n heard (omega (arith, h.long)) in
    equal_every (take n heard) d (omega arith) ∙ rw long (every_as n (λ v m. rw (get_or-take n heard v 0 m, h.view v m, byte_of d v)))
