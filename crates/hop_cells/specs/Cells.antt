-- One byte of a stored state, read and written, and a row of them written: what the code's accessors do. n is handed in and not read again. Used by the code's own definitions; a buyer needs none of it.
use Rattle.std.specs.Prelude.{◌≡◌, List, ℕ, ◌+◌, ◌*◌, ◌≤◌, length, get_or, set}
use Rattle.hop_rule.specs.declared.Table.{Table}
use Rattle.hop_rule.specs.declared.Table.TheVariants.{Links, Distances, Downstreams, Views, Lengths, Destinations, Values}
use Rattle.hop_rule.specs.Words.{loop}
use Rattle.hop_rule.specs.Route as question
use Rattle.hop_rule.specs.Stored.{size, start}
use Rattle.hop_cells.specs.declared.Way.{Way}

-- The buffer has room for a state of n nodes.
pub record Room (n : ℕ) (s : List ℕ) : Type 0 where
  pub most : n ≤ 40
  pub fits : size n ≤ length s

-- The bytes of a block.
abbrev pub cells : ℕ → Table → ℕ
cells n Links = n * n
cells n Distances = n * n
cells n Downstreams = n * n
cells n Views = n * n * n
cells n Lengths = n * n
cells n Destinations = n * n * n
cells n Values = n * n * n

-- Byte i of a block.
unfoldable pub get : ℕ → Table → ℕ → List ℕ → ℕ
get n t i s = get_or s (start n t + i) 0

unfoldable pub put : ℕ → Table → ℕ → ℕ → List ℕ → List ℕ
put n t i x s = set s (start n t + i) x

-- The byte at a row and a column of a block of n², and of n³.
abbrev pub get2 : ℕ → Table → ℕ → ℕ → List ℕ → ℕ
get2 n t a b s = get n t (a * n + b) s

abbrev pub get3 : ℕ → Table → ℕ → ℕ → ℕ → List ℕ → ℕ
get3 n t a b c s = get n t ((a * n + b) * n + c) s

abbrev pub put2 : ℕ → Table → ℕ → ℕ → ℕ → List ℕ → List ℕ
put2 n t a b x s = put n t (a * n + b) x s

abbrev pub put3 : ℕ → Table → ℕ → ℕ → ℕ → ℕ → List ℕ → List ℕ
put3 n t a b c x s = put n t ((a * n + b) * n + c) x s

-- The two bytes that were read are the rule's way.
pub record Reads (r : Way) (way : question.Way) : Type 0 where
  pub distance : r.distance ≡ way.distance
  pub downstream : r.downstream ≡ way.downstream

-- k bytes of a block become x, those from byte i on.
unfoldable pub fill_cells : ℕ → Table → ℕ → ℕ → ℕ → List ℕ → List ℕ
fill_cells n t i k x s = loop k (λ c. put n t (i + c) x) s

-- Every place of row a, b of a block of n³ becomes x.
unfoldable pub fill : ℕ → Table → ℕ → ℕ → ℕ → List ℕ → List ℕ
fill n t a b x s = loop n (λ c. put3 n t a b c x) s
