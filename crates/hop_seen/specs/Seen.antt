-- A set of numbers in one number, bit v for v; and what is found out by it: whether the bytes of a row differ, and whether a full queue holds each destination with its distance. A buyer needs none of it.
use Rattle.std.specs.Prelude.{Bool, ◌&&◌, List, ℕ, ◌-◌, ◌/◌, ◌%◌, ◌^◌, eqb, length}
use Rattle.std.specs.Int.Bits.{bit_or}
use Rattle.hop_rule.specs.Words.{loop, every}
use Rattle.hop_rows.specs.Rows.{byte, all_below, none_is}

-- v is in the set.
unfoldable pub has : ℕ → ℕ → Bool
has set v = eqb (set / 2 ^ v % 2) 1

-- The set with v added.
unfoldable pub added : ℕ → ℕ → ℕ
added set v = bit_or set (2 ^ v)

-- Two sets that the laws speak of: that of f 0, f 1, .. f (k − 1),
unfoldable pub seen : (ℕ → ℕ) → ℕ → ℕ
seen f k = loop k (λ i set. added set (f i)) 0

-- and that of all numbers below n.
unfoldable pub below : ℕ → ℕ
below n = 2 ^ n - 1

-- No two bytes of a row are equal: each is compared with those before it.
unfoldable pub differing : List ℕ → ℕ → ℕ → Bool
differing s at k = every k (λ i. none_is s at i (byte s at i))

-- Each of n values is the distance of its destination.
unfoldable pub all_valued : List ℕ → ℕ → ℕ → ℕ → ℕ → Bool
all_valued s n distances destinations values = every n (λ p. eqb (byte s values p) (byte s distances (byte s destinations p)))

-- A full queue: destinations below n that differ, and each has its distance as its value.
unfoldable pub full : List ℕ → ℕ → ℕ → ℕ → ℕ → Bool
full s n distances destinations values = all_below s destinations n n && (differing s destinations n && all_valued s n distances destinations values)

-- The same of three rows, each by itself; what is read as a distance may stand anywhere behind the first.
unfoldable pub full_rows : List ℕ → List ℕ → List ℕ → Bool
full_rows distances destinations values =
    let n = length destinations in
    all_below destinations 0 n n && (differing destinations 0 n && every n (λ p. eqb (byte values 0 p) (byte distances 0 (byte destinations 0 p))))
