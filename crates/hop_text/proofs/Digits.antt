-- The digits of a number: they are its text by the library, and read from the front they say it. Assumes nothing.
use mathlib.Core.Path.{◌≡◌, refl}
use mathlib.Core.List.{List, [], ◌∷◌, ◌++◌}
use Prim.Native.Nat.{ℕ, zero, suc, ◌+◌, ◌*◌, ◌-◌, ◌/◌, ◌%◌, ◌^◌, ◌<◌}
use native.Mathlib.Nat.{pow-suc}
use native.Mathlib.Decide.{dec_lt}
use native.Mathlib.Omega.{arith}
use borrow.Author.Tests.{lt-ltb, le-ltb}
use Rattle.std.proofs.Common.{rules}
use Rattle.std.specs.Fmt.{decimal}
use Rattle.std.proofs.lemmas.Fmt.{AppendsLastDigit, decimal_from_appends, length-decimal-le}
use Rattle.hop_text.specs.Text.{digits}

-- Of 20 digits, which hold every 64-bit number, the library's text is made.
digits_append : AppendsLastDigit digits
unfolding digits
digits_append = search rules

pub digits_decimal : (x : ℕ) → x < 2 ^ 64 → digits 20 x ≡ decimal x
digits_decimal x l = decimal_from_appends digits digits_append 20 x l (length-decimal-le 20 x (omega arith) (omega arith) l)

-- What digits say, where those in front of them said a.
abbrev pub says : ℕ → List ℕ → ℕ
says a [] = a
says a (c ∷ cs) = says (10 * a + (c - 48)) cs

says_last : (a : ℕ) (cs : List ℕ) (c : ℕ) → says a (cs ++ c ∷ []) ≡ 10 * says a cs + (c - 48)
says_last a [] c = refl
says_last a (b ∷ cs) c = says_last (10 * a + (b - 48)) cs c

pub digits_say : (k x : ℕ) → x < 10 ^ k → says 0 (digits k x) ≡ x
unfolding digits
digits_say zero x l = omega arith
digits_say (suc k) x l = go (dec_lt x 10) (digits_say k (x / 10) (omega (arith, pow-suc 10 k)))
  where
    go : Dec (x < 10) → says 0 (digits k (x / 10)) ≡ x / 10 → says 0 (digits (suc k) x) ≡ x
    go (yes h) m = rw (lt-ltb x 10 h) (omega arith)
    go (no h) m = rw (le-ltb x 10 (omega arith), says_last 0 (digits k (x / 10)) (48 + x % 10), m) (omega arith)

-- 20 digits hold every 64-bit number.
pub number_says : (x : ℕ) → x < 2 ^ 64 → says 0 (digits 20 x) ≡ x
number_says x l = digits_say 20 x (omega arith)
