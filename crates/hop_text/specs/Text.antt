-- 01, 'The program': the lines that it prints, as bytes in ASCII. Uses nothing of the core but the word if_then_else_.
use Rattle.std.specs.Prelude.{List, [], ◌∷◌, ◌++◌, ℕ, zero, suc, ◌+◌, ◌/◌, ◌%◌, eqb, ltb, if◌then◌else◌}

-- The last k decimal digits of x, without zeros in front.
unfoldable pub digits : ℕ → ℕ → List ℕ
digits zero x = []
digits (suc k) x = let front = digits k (x / 10) in (if ltb x 10 then [] else front) ++ (48 + x % 10) ∷ []

-- A number and the byte that ends it, a blank (32) or a line feed (10). 20 digits hold every 64-bit number.
unfoldable pub number : ℕ → ℕ → List ℕ
number x ends = digits 20 x ++ ends ∷ []

-- `event kind code queued`
unfoldable pub header : List ℕ
header = 101 ∷ 118 ∷ 101 ∷ 110 ∷ 116 ∷ 32 ∷ 107 ∷ 105 ∷ 110 ∷ 100 ∷ 32 ∷ 99 ∷ 111 ∷ 100 ∷ 101 ∷ 32 ∷ 113 ∷ 117 ∷ 101 ∷ 117 ∷ 101 ∷ 100 ∷ 10 ∷ []

-- Event lines: ordinal, kind, refusal number, total queued.
unfoldable pub event_line : ℕ → ℕ → ℕ → ℕ → List ℕ
event_line ordinal kind code queued = number ordinal 32 ++ (number kind 32 ++ (number code 32 ++ number queued 10))

-- A downstream, `-` for none, and the line feed.
unfoldable pub downstream_end : ℕ → List ℕ
downstream_end w = if eqb w 255 then 45 ∷ 10 ∷ [] else number w 10

-- `d` lines: node, destination, distance, downstream.
unfoldable pub route_line : ℕ → ℕ → ℕ → ℕ → List ℕ
route_line u v distance downstream = 100 ∷ 32 ∷ (number u 32 ++ (number v 32 ++ (number distance 32 ++ downstream_end downstream)))
