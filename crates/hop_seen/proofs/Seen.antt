-- A set of numbers has these and no others. So a byte differs from those before it exactly if their set does not have it, and n bytes are below n and differ exactly if their set is that of all numbers below n. Assumes nothing.
use mathlib.Core.Path.{◌≡◌, refl, sym, ap, subst, ◌∙◌}
use mathlib.Core.Logic.{◌⊎◌, inl, inr}
use mathlib.Core.Bool.{Bool, true, false, not, ◌&&◌, and_assoc}
use mathlib.Core.List.{List}
use Prim.Native.Nat.{ℕ, zero, suc, ◌+◌, ◌*◌, ◌%◌, ◌^◌, ◌≤◌, ◌<◌}
use native.Mathlib.Nat.{le_refl, mod-eq_of_lt}
use native.Mathlib.Decide.{ℕ_discrete}
use native.Mathlib.Omega.{arith}
use lib.Bits.{bit_and, and_mask}
use lib.Pow.{pow_pos, shl_exact}
use lib.Dec.{eqb, ltb, lit<}
use lib.ListN.{length}
use borrow.Author.Tests.{ltb-true}
use Rattle.hop_rule.specs.Words.{loop, every}
use Rattle.hop_laws.proofs.Tests.{Tells, tells_as, tells_not, tells_same, tells_eq, tells_lt, tells_never, tells_and, tells_or, tells_every, decides}
use Rattle.hop_laws.proofs.Words.{loop_none, loop_turn, loop_more, loop_keeps, loop_same}
use Rattle.hop_rows.specs.Rows.{IsRow, byte, none_is, all_below}
use Rattle.hop_rows.proofs.Every.{every_as}
use Rattle.hop_rows.proofs.Slices.{below_here}
use Rattle.hop_rows.proofs.RowTests.{Reads, itself, tells_none, tells_below}
use Rattle.hop_seen.specs.Seen.{has, added, seen, below, differing, all_valued, full, full_rows}
use Rattle.hop_seen.proofs.Bits.{has_none, has_added, added_low, below_has, below_only}
use Rattle.hop_seen.proofs.Places.{none_left_out, none_twice}

module _ {s : List ℕ} {at : ℕ} {f : ℕ → ℕ} (r : Reads s at f) where
  pub tells_differing : (k : ℕ) → Tells (differing s at k) ((i : ℕ) → i < k → (j : ℕ) → j < i → f j ≡ f i → ⊥)
  unfolding differing
  tells_differing k = tells_every k (λ i l. rw (r.reads i) (tells_none r i (f i)))

module _ (f : ℕ → ℕ) where
  pub seen_none : 0 ≡ seen f 0
  unfolding seen
  seen_none = sym (loop_none (λ i set. added set (f i)) 0)

  pub seen_more : (k : ℕ) {a b : ℕ} → a ≡ seen f k → b ≡ added a (f k) → b ≡ seen f (k + 1)
  unfolding seen
  seen_more k = loop_turn k (λ i set. added set (f i)) 0

  -- It has these and no others.
  pub tells_seen : (k v : ℕ) → Tells (has (seen f k) v) ((i : ℕ) × (i < k) × (f i ≡ v))
  unfolding seen
  tells_seen zero v = rw (loop_none (λ i set. added set (f i)) 0, has_none v) (tells_as (λ x. absurd x) (λ x. omega (arith, x.1)) tells_never)
  tells_seen (suc k) v =
      rw (loop_more k (λ i set. added set (f i)) 0, has_added (loop k (λ i set. added set (f i)) 0) (f k) v)
      (tells_as among apart (tells_or (tells_seen k v) (tells_eq (f k) v)))
    where
      among : ((i : ℕ) × (i < k) × (f i ≡ v)) ⊎ (f k ≡ v) → (i : ℕ) × (i < suc k) × (f i ≡ v)
      among (inl (i, l, e)) = (i, omega arith, e)
      among (inr e) = (k, le_refl _, e)

      apart : (i : ℕ) × (i < suc k) × (f i ≡ v) → ((i : ℕ) × (i < k) × (f i ≡ v)) ⊎ (f k ≡ v)
      apart (i, l, e) = go (ℕ_discrete i k)
        where
          go : Dec (i ≡ k) → ((i : ℕ) × (i < k) × (f i ≡ v)) ⊎ (f k ≡ v)
          go (yes o) = inr (subst (λ (j : ℕ). f j ≡ v) o e)
          go (no g) = inl (i, omega arith, e)

  -- The set decides: it is that of all numbers below n exactly if they are below n and differ.
  pub tells_all : (n : ℕ) → Tells (eqb (seen f n) (below n)) (((i : ℕ) → i < n → f i < n) × ((i : ℕ) → i < n → (j : ℕ) → j < i → f j ≡ f i → ⊥))
  unfolding seen
  tells_all n = tells_as (λ e. (low e, differ e)) (λ h. all h.0 h.1) (tells_eq (seen f n) (below n))
    where
      low : seen f n ≡ below n → (i : ℕ) → i < n → f i < n
      low e i l = ltb-true (f i) n (sym (below_has n (f i)) ∙ ap (λ (x : ℕ). has x (f i)) (sym e) ∙ (tells_seen n (f i)).if_so (i, l, refl))

      differ : seen f n ≡ below n → (i : ℕ) → i < n → (j : ℕ) → j < i → f j ≡ f i → ⊥
      differ e = none_twice f n (λ v l. (tells_seen n v).shows (ap (λ (x : ℕ). has x v) e ∙ below_has n v ∙ (tells_lt v n).if_so l))

      all : ((i : ℕ) → i < n → f i < n) → ((i : ℕ) → i < n → (j : ℕ) → j < i → f j ≡ f i → ⊥) → seen f n ≡ below n
      all h d = below_only (seen f n) n (loop_keeps (λ (x : ℕ). x < 2 ^ n) n (λ i set. added set (f i)) 0 (pow_pos n) (λ i x l m. added_low m (h i l))) (λ v l. go v l (decides (tells_seen n v)))
        where
          go : (v : ℕ) → v < n → Dec ((i : ℕ) × (i < n) × (f i ≡ v)) → has (seen f n) v ≡ true
          go v l (yes x) = (tells_seen n v).if_so x
          go v l (no g) = absurd (none_left_out f n h d v l (λ i m e. g (i, m, e)))

-- ---- a row

module _ (s : List ℕ) (at : ℕ) where
  -- What is below n is below a greater number.
  pub below_more : (k : ℕ) {n m : ℕ} → n ≤ m → all_below s at k n ≡ true → all_below s at k m ≡ true
  below_more k {n} {m} l h = (tells_below (itself s at) k m).if_so (λ i j. omega (arith, (tells_below (itself s at) k n).shows h i j))

  -- What the test of the next byte shows, of the set by another name for it.
  module _ (k v : ℕ) {set : ℕ} {b : Bool} (e : set ≡ seen (byte s at) k) (t : b ≡ has set v) where
    tells_before : Tells b ((i : ℕ) × (i < k) × (byte s at i ≡ v))
    tells_before = rw (t, e) (tells_seen (byte s at) k v)

    pub before_none : not b ≡ none_is s at k v
    before_none = tells_same (tells_as (λ f i l z. f (i, l, z)) (λ f z. f z.0 z.1 z.2) (tells_not tells_before)) (tells_none (itself s at) k v)

  -- n bytes below 64, of which the set holds no more than what they are modulo 64.
  full_decides : (n : ℕ) → n ≤ 64 → every n (λ i. ltb (byte s at i) 64) && eqb (seen (λ i. byte s at i % 64) n) (below n) ≡ all_below s at n n && differing s at n
  unfolding seen
  full_decides n l = tells_same
      (tells_as
      (λ h. (tells_all (byte s at) n).shows ((tells_eq (seen (byte s at) n) (below n)).if_so (sym (same h.0) ∙ h.1)))
      (λ h. (low h.0, same (low h.0) ∙ (tells_eq (seen (byte s at) n) (below n)).shows ((tells_all (byte s at) n).if_so h)))
      (tells_and (tells_every n (λ i m. tells_lt (byte s at i) 64)) (tells_eq (seen (λ i. byte s at i % 64) n) (below n))))
      (tells_and (tells_below (itself s at) n n) (tells_differing (itself s at) n))
    where
      low : ((i : ℕ) → i < n → byte s at i < n) → (i : ℕ) → i < n → byte s at i < 64
      low h i m = omega (arith, h i m)

      same : ((i : ℕ) → i < n → byte s at i < 64) → seen (λ i. byte s at i % 64) n ≡ seen (byte s at) n
      same h = loop_same n (λ i set. added set (byte s at i % 64)) (λ i set. added set (byte s at i)) 0 (λ i x m. ap (added x) (mod-eq_of_lt (h i m)))

-- What the walk has found at its end.
pub full_found : (distances destinations values : List ℕ) → length destinations ≤ 64 → (bits set faults : ℕ) → ltb bits 64 ≡ every (length destinations) (λ p. ltb (byte destinations 0 p) 64) → set ≡ seen (λ p. byte destinations 0 p % 64) (length destinations)
    → eqb faults 0 ≡ every (length destinations) (λ p. eqb (byte values 0 p) (byte distances 0 (byte destinations 0 p))) → (ltb bits 64 && eqb set (below (length destinations))) && eqb faults 0 ≡ full_rows distances destinations values
unfolding full_rows
full_found distances destinations values l bits set faults e f g = rw (e, f, g, full_decides destinations 0 (length destinations) l) (and_assoc (all_below destinations 0 (length destinations) (length destinations)) (differing destinations 0 (length destinations)) _)

-- ---- a slice is tested as the buffer is at its place

pub differing_here : {s : List ℕ} {at k : ℕ} {r : List ℕ} → IsRow s at k r → differing r 0 (length r) ≡ differing s at k
unfolding differing none_is
differing_here h = rw h.long (every_as _ (λ i l. every_as i (λ j m. rw (h.bytes i l, h.bytes j (omega arith)))))

-- What is judged last need only agree where the others pass.
agree : (x y : Bool) {z z' : Bool} → (x ≡ true → z ≡ z') → x && (y && z) ≡ x && (y && z')
agree true y e = rw (e refl) refl
agree false y e = refl

pub full_here : {s : List ℕ} {n m distances destinations values : ℕ} {d e v : List ℕ} → n ≤ m → IsRow s distances m d → IsRow s destinations n e → IsRow s values n v → full_rows d e v ≡ full s n distances destinations values
unfolding full_rows full all_valued
full_here {s} {n} {m} {distances} {destinations} {values} {d} {e} {v} most hd he hv =
    rw (below_here he (length e), differing_here he, he.long)
    (agree (all_below s destinations n n) (differing s destinations n) (λ below. every_as n (λ p l.
    rw (hv.bytes p l, he.bytes p l, hd.bytes (byte s destinations p) (omega (arith, (tells_below (itself s destinations) n n).shows below p l))))))

-- ---- as the machine finds it

pub one_shifted : (v : ℕ) → v < 64 → (1 * 2 ^ v) % 2 ^ 64 ≡ 2 ^ v
one_shifted v l = shl_exact {a = 1} 1 v 64 (lit< tt) (omega arith) ∙ omega arith

pub six_bits : (a : ℕ) → bit_and a 63 ≡ a % 64
six_bits a = and_mask a 6

pub low_bit : (a : ℕ) → bit_and a 1 ≡ a % 2
low_bit a = and_mask a 1
