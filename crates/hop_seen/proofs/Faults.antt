-- How a loop finds out `every` by a byte that each turn adds bits to: no bit where two bytes are equal, and none of the high ones where a byte is low. Assumes nothing.
use mathlib.Core.Path.{◌≡◌, refl, ◌∙◌}
use mathlib.Core.Bool.{Bool, ◌&&◌}
use Prim.Native.Nat.{ℕ, ◌+◌, ◌^◌}
use native.Mathlib.Numerals.{add-one}
use native.Mathlib.Omega.{arith}
use lib.Bits.{bit_or, bit_xor, or_lt, and_le_l, and_le_r, or_add_and, xor_add_and, or_zero_l, xor_self}
use lib.Dec.{eqb, ltb}
use Rattle.hop_rule.specs.Words.{every}
use Rattle.hop_laws.proofs.Tests.{tells_as, tells_same, tells_eq, tells_lt, tells_and}

or_none : (a b : ℕ) → eqb (bit_or a b) 0 ≡ eqb a 0 && eqb b 0
or_none a b = tells_same (tells_as (λ e. (omega (arith, e, or_add_and a b, and_le_l a b, and_le_r a b), omega (arith, e, or_add_and a b, and_le_l a b, and_le_r a b))) (λ z. rw (z.0, z.1) (or_zero_l 0)) (tells_eq (bit_or a b) 0)) (tells_and (tells_eq a 0) (tells_eq b 0))

-- Three that are none are none together.
pub three_none : (a b c : ℕ) {x y z : Bool} → eqb a 0 ≡ x → eqb b 0 ≡ y → eqb c 0 ≡ z → eqb (bit_or (bit_or a b) c) 0 ≡ (x && y) && z
three_none a b c e f g = or_none (bit_or a b) c ∙ rw (or_none a b, e, f, g) refl

pub xor_none : (x y : ℕ) → eqb (bit_xor x y) 0 ≡ eqb x y
xor_none x y = tells_same (tells_as (λ e. omega (arith, e, xor_add_and x y, and_le_l x y, and_le_r x y)) (λ z. rw z (xor_self y)) (tells_eq (bit_xor x y) 0)) (tells_eq x y)

-- A byte of faults is 0 as long as every turn added none.
pub faults_more : (k : ℕ) (p : ℕ → Bool) (a x : ℕ) → eqb a 0 ≡ every k p → eqb x 0 ≡ p k → eqb (bit_or a x) 0 ≡ every (k + 1) p
unfolding every
faults_more k p a x e f = or_none a x ∙ rw (add-one k, e, f) refl

-- One of all bits is below 2 ^ j as long as all bytes were.
or_low : (j a b : ℕ) → ltb (bit_or a b) (2 ^ j) ≡ ltb a (2 ^ j) && ltb b (2 ^ j)
or_low j a b = tells_same
    (tells_as (λ l. (omega (arith, l, or_add_and a b, and_le_l a b, and_le_r a b), omega (arith, l, or_add_and a b, and_le_l a b, and_le_r a b))) (λ l. or_lt j a b l.0 l.1) (tells_lt (bit_or a b) (2 ^ j)))
    (tells_and (tells_lt a (2 ^ j)) (tells_lt b (2 ^ j)))

pub low_turn : (j k : ℕ) (f : ℕ → ℕ) (a : ℕ) → ltb a (2 ^ j) ≡ every k (λ i. ltb (f i) (2 ^ j)) → ltb (bit_or a (f k)) (2 ^ j) ≡ every (k + 1) (λ i. ltb (f i) (2 ^ j))
unfolding every
low_turn j k f a e = or_low j a (f k) ∙ rw (add-one k, e) refl
