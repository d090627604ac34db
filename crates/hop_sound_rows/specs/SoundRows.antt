-- What the soundness check, and nothing else, finds out about rows of bytes: where they rise or count up, what views allow, and views once what waits is delivered. A buyer needs none of it.
use Rattle.std.specs.Prelude.{Bool, not, ◌&&◌, ◌≡◌, List, ℕ, zero, suc, ◌+◌, ◌-◌, ◌<◌, eqb, ltb, leb, length, get_or, if◌then◌else◌}
use Rattle.hop_rule.specs.Words.{every}
use Rattle.hop_rows.specs.Rows.{byte}

-- k times a byte is below the next one. Then no two of these k + 1 are equal.
unfoldable pub rising : List ℕ → ℕ → ℕ → Bool
rising s at k = every k (λ i. ltb (byte s at i) (byte s (at + 1) i))

-- A row counts up: 0, 1, .. k − 1.
unfoldable pub counting : List ℕ → ℕ → ℕ → Bool
counting s at k = every k (λ i. eqb (byte s at i) i)

-- The least view from neighbour w that allows distance d by way of h: one that gives no less than d; and no less than d + 1 where w stands before h, unless d is n.
unfoldable pub least_view : ℕ → ℕ → ℕ → ℕ → ℕ
least_view n w d h = if ltb w h && not (eqb d n) then d else d - 1

-- View v of a row from w is at least that,
abbrev pub allows : List ℕ → ℕ → ℕ → ℕ → ℕ → ℕ → ℕ → Bool
allows s n w views distances downstreams v = leb (least_view n w (byte s distances v) (byte s downstreams v)) (byte s views v)

-- and each of n views is.
unfoldable pub all_allow : List ℕ → ℕ → ℕ → ℕ → ℕ → ℕ → Bool
all_allow s n w views distances downstreams = every n (allows s n w views distances downstreams)

-- The same of three rows, each by itself.
abbrev pub row_allows : ℕ → ℕ → List ℕ → List ℕ → List ℕ → ℕ → Bool
row_allows n w views distances downstreams v = leb (least_view n w (byte distances 0 v) (byte downstreams 0 v)) (byte views 0 v)

unfoldable pub rows_allow : ℕ → ℕ → List ℕ → List ℕ → List ℕ → Bool
rows_allow n w views distances downstreams = every n (row_allows n w views distances downstreams)

-- A row x after the values b 0, b 1, .. b (k − 1) are written to it, each at its destination a 0, a 1, .. a (k − 1).
unfoldable pub told : (ℕ → ℕ) → (ℕ → ℕ) → (ℕ → ℕ) → ℕ → ℕ → ℕ
told x a b zero v = x v
told x a b (suc k) v = if eqb (a k) v then b k else told x a b k v

-- Views as they are once the k entries that wait are delivered: byte v.
abbrev pub told_byte : List ℕ → ℕ → ℕ → ℕ → ℕ → ℕ → ℕ
told_byte s views destinations values k v = told (byte s views) (byte s destinations) (byte s values) k v

-- A row of 40 bytes holds the first n bytes of the row x, as they are once k values are written.
pub record Told (x a b : ℕ → ℕ) (n k : ℕ) (heard : List ℕ) : Type 0 where
  pub long : length heard ≡ 40
  pub view : (v : ℕ) → v < n → get_or heard v 0 ≡ told x a b k v

-- Each of these n views is the distance.
unfoldable pub all_told : List ℕ → ℕ → ℕ → ℕ → ℕ → ℕ → ℕ → Bool
all_told s n views distances destinations values k = every n (λ v. eqb (told_byte s views destinations values k v) (byte s distances v))

-- The same of four rows, each by itself.
unfoldable pub rows_told : List ℕ → List ℕ → List ℕ → List ℕ → Bool
rows_told views distances destinations values = every (length views) (λ v. eqb (told (byte views 0) (byte destinations 0) (byte values 0) (length destinations) v) (byte distances 0 v))
