-- Rows of bytes: where they start, and what plain tests find out about them, for the check and for sending. A row starts at a place of the buffer and has k bytes. A buyer needs none of it.
use Rattle.std.specs.Prelude.{Bool, not, ◌&&◌, ◌≡◌, List, ℕ, ◌+◌, ◌*◌, ◌<◌, eqb, ltb, length, get_or}
use Rattle.hop_rule.specs.declared.Table.{Table}
use Rattle.hop_rule.specs.Words.{every}
use Rattle.hop_rule.specs.Stored.{start}

-- Where row i of a block starts. In a block of n³ the row of a and b is a * n + b.
abbrev pub row : ℕ → Table → ℕ → ℕ
row n t i = start n t + i * n

-- Byte i of a row.
abbrev pub byte : List ℕ → ℕ → ℕ → ℕ
byte s at i = get_or s (at + i) 0

-- r is the row of k bytes at a place of s.
pub record IsRow (s : List ℕ) (at k : ℕ) (r : List ℕ) : Type 0 where
  pub long : length r ≡ k
  pub bytes : (i : ℕ) → i < k → byte r 0 i ≡ byte s at i

-- Each byte is x.
unfoldable pub all_are : List ℕ → ℕ → ℕ → ℕ → Bool
all_are s at k x = every k (λ i. eqb (byte s at i) x)

-- Each byte of two rows is x.
unfoldable pub both_are : List ℕ → ℕ → ℕ → ℕ → ℕ → Bool
both_are s at to k x = every k (λ i. eqb (byte s at i) x && eqb (byte s to i) x)

-- Each is below x.
unfoldable pub all_below : List ℕ → ℕ → ℕ → ℕ → Bool
all_below s at k x = every k (λ i. ltb (byte s at i) x)

-- None is x.
unfoldable pub none_is : List ℕ → ℕ → ℕ → ℕ → Bool
none_is s at k x = every k (λ i. not (eqb (byte s at i) x))

-- Two rows are equal.
unfoldable pub same : List ℕ → ℕ → ℕ → ℕ → Bool
same s at to k = every k (λ i. eqb (byte s at i) (byte s to i))
