-- Laws of a set in one number: the empty set has none; with w added, w is in it and the others are as before; the set of all numbers below n has these and no others, and no other set of such numbers has them all. Assumes nothing.
use mathlib.Core.Path.{◌≡◌, refl, sym, ap, ◌∙◌}
use mathlib.Core.Logic.{◌≢◌}
use mathlib.Core.Bool.{Bool, true, false, ◌||◌}
use Prim.Native.Nat.{ℕ, zero, suc, ◌+◌, ◌-◌, ◌/◌, ◌%◌, ◌^◌, ◌≤◌, ◌<◌}
use native.Mathlib.Nat.{le_refl, zero-div, mod-lt, mod-eq_of_lt, div_self, div-eq_of_lt, mul-div_cancel, mul-mod_left, pow-suc}
use native.Mathlib.Decide.{ℕ_discrete, dec_lt}
use native.Mathlib.Omega.{arith}
use lib.Bits.{bit_or, or_lt, or_shr, or_mod}
use lib.Pow.{pow_pos, pow_mono, pow-lt, pow-add, high, low, mod-pow-add, ones_lt, ones_split}
use lib.Dec.{eqb, ltb, lit<}
use borrow.Author.Tests.{eqb-true, eq-eqb, ne_eqb, lt-ltb, le-ltb}
use Rattle.hop_seen.specs.Seen.{has, added, below}

pub has_none : (v : ℕ) → has 0 v ≡ false
unfolding has
has_none v = rw (zero-div (2 ^ v))

-- ---- one number added

-- Bit v of 2 ^ w, where w is higher, and in general.
bit_higher : (v j : ℕ) → 2 ^ (suc j + v) / 2 ^ v % 2 ≡ 0
bit_higher v j =
    ap (λ (x : ℕ). x / 2 ^ v % 2) (pow-add 2 (suc j) v)
    ∙ ap (λ (x : ℕ). x % 2) (mul-div_cancel (2 ^ suc j) (pow_pos v) ∙ pow-suc 2 j)
    ∙ mul-mod_left (2 ^ j) 2

bit_of_one : (w v : ℕ) → eqb (2 ^ w / 2 ^ v % 2) 1 ≡ eqb w v
bit_of_one w v = go (ℕ_discrete w v) (dec_lt w v)
  where
    go : Dec (w ≡ v) → Dec (w < v) → eqb (2 ^ w / 2 ^ v % 2) 1 ≡ eqb w v
    go (yes e) c = rw (e, div_self (pow_pos v)) (sym (eq-eqb v v refl))
    go (no f) (yes l) = rw (div-eq_of_lt (pow-lt l)) (sym (ne_eqb w v f))
    go (no f) (no l) =
        let e : suc (w - suc v) + v ≡ w = omega arith in
        ap (λ (x : ℕ). eqb (2 ^ x / 2 ^ v % 2) 1) (sym e) ∙ ap (λ (x : ℕ). eqb x 1) (bit_higher v (w - suc v)) ∙ sym (ne_eqb w v f)

low_bit_or : (x y : ℕ) → x < 2 → y < 2 → eqb (bit_or x y) 1 ≡ (eqb x 1 || eqb y 1)
low_bit_or zero zero l m = refl
low_bit_or zero (suc zero) l m = refl
low_bit_or zero (suc (suc y)) l m = absurd (omega arith)
low_bit_or (suc zero) zero l m = refl
low_bit_or (suc zero) (suc zero) l m = refl
low_bit_or (suc zero) (suc (suc y)) l m = absurd (omega arith)
low_bit_or (suc (suc x)) y l m = absurd (omega arith)

or_true : (b : Bool) → (b || true) ≡ true
or_true true = refl
or_true false = refl

or_false : (b : Bool) → (b || false) ≡ b
or_false true = refl
or_false false = refl

-- With w added, v is in it if it was before, or is w.
pub has_added : (set w v : ℕ) → has (added set w) v ≡ (has set v || eqb w v)
unfolding has added
has_added set w v =
    ap (λ (x : ℕ). eqb (x % 2) 1) (or_shr set (2 ^ w) v)
    ∙ ap (λ (x : ℕ). eqb x 1) (or_mod (set / 2 ^ v) (2 ^ w / 2 ^ v) 1)
    ∙ low_bit_or (set / 2 ^ v % 2) (2 ^ w / 2 ^ v % 2) (mod-lt _ (lit< tt)) (mod-lt _ (lit< tt))
    ∙ ap (λ (b : Bool). eqb (set / 2 ^ v % 2) 1 || b) (bit_of_one w v)

-- The same in two halves: w is in it,
pub added_has : (set w : ℕ) → has (added set w) w ≡ true
added_has set w = has_added set w w ∙ rw (eq-eqb w w refl) (or_true (has set w))

-- and the others are as before.
pub added_else : (set w v : ℕ) → w ≢ v → has (added set w) v ≡ has set v
added_else set w v f = has_added set w v ∙ rw (ne_eqb w v f) (or_false (has set v))

-- A set of numbers below n stays one.
pub added_low : {n set v : ℕ} → set < 2 ^ n → v < n → added set v < 2 ^ n
unfolding added
added_low {n} {set} {v} l m = or_lt n set (2 ^ v) l (pow-lt m)

-- ---- all numbers below n

pub below_has : (n v : ℕ) → has (below n) v ≡ ltb v n
unfolding has below
below_has n v = go (dec_lt v n)
  where
    within : (j : ℕ) → j + 1 + v ≡ n → (2 ^ n - 1) / 2 ^ v % 2 ≡ 1
    within j e =
        ap (λ (x : ℕ). (2 ^ x - 1) / 2 ^ v % 2) (sym e)
        ∙ ap (λ (x : ℕ). x / 2 ^ v % 2) (ones_split (j + 1) v)
        ∙ ap (λ (x : ℕ). x % 2) (high (2 ^ (j + 1) - 1) v (ones_lt v) ∙ ones_split j 1)
        ∙ low (2 ^ j - 1) 1 (ones_lt 1)

    go : Dec (v < n) → eqb ((2 ^ n - 1) / 2 ^ v % 2) 1 ≡ ltb v n
    go (yes l) = eq-eqb _ 1 (within (n - suc v) (omega arith)) ∙ sym (lt-ltb v n l)
    go (no l) =
        let over : n ≤ v = omega arith in
        let less : 2 ^ n - 1 < 2 ^ v = omega (arith, ones_lt n, pow_mono over) in
        rw (div-eq_of_lt less, le-ltb v n over) refl

-- The lowest k bits of a set that has the numbers below k.
low_bits : (set k : ℕ) → ((v : ℕ) → v < k → has set v ≡ true) → set % 2 ^ k ≡ 2 ^ k - 1
unfolding has
low_bits set zero h = omega (arith, mod-lt set (pow_pos 0))
low_bits set (suc k) h =
    let bit : set / 2 ^ k % 2 ≡ 1 = eqb-true _ 1 (h k (le_refl _)) in
    let e : suc k ≡ 1 + k = omega arith in
    rw e (mod-pow-add set 1 k ∙ rw (bit, low_bits set k (λ v l. h v (omega arith))) (sym (ones_split 1 k)))

pub below_only : (set n : ℕ) → set < 2 ^ n → ((v : ℕ) → v < n → has set v ≡ true) → set ≡ below n
unfolding below
below_only set n l h = sym (mod-eq_of_lt l) ∙ low_bits set n h
