-- What the code does to the bytes of one queue. Every definition is total: where bytes are not sound it does something, which no public contract speaks of.
-- n comes first, then the indices, and the bytes last, so that a definition without its last two arguments is the body of a loop. Used by the code's own definitions; a buyer needs none of it.
use Rattle.std.specs.Prelude.{◌≡◌, ◌&&◌, List, ℕ, Option, MatchOption, ◌+◌, ◌<◌, min, eqb, ltb, if◌then◌else◌}
use Rattle.hop_rule.specs.declared.Table.{Table}
use Rattle.hop_rule.specs.declared.Table.TheVariants.{Distances, Lengths, Destinations, Values}
use Rattle.hop_rule.specs.Words.{loop, first}
use Rattle.hop_cells.specs.Cells.{get2, get3, put2, put3, fill}

-- The entries that the queue from w to u holds: a length past n counts as n.
abbrev pub held : ℕ → ℕ → ℕ → List ℕ → ℕ
held n w u s = min (get2 n Lengths w u s) n

-- The first of the queue's places 0, 1, .. m − 1 at which v waits, or m.
unfoldable pub first_at : ℕ → ℕ → ℕ → ℕ → ℕ → List ℕ → ℕ
first_at n w u v m s = first m (λ p. eqb (get3 n Destinations w u p s) v)

-- A place at which v waits, or m: place v, where link up puts it, or else the first.
unfoldable pub waits_at : ℕ → ℕ → ℕ → ℕ → ℕ → List ℕ → ℕ
waits_at n w u v m s = if ltb v m && eqb (get3 n Destinations w u v s) v then v else first_at n w u v m s

-- The answer of a search: a place below m, or m where there is none.
abbrev pub IsPlace : Option ℕ → ℕ → ℕ → Type 0
IsPlace r m place = MatchOption r (place ≡ m) (λ p. (p < m) × (place ≡ p))

-- The entry (v, d) joins the tail, which is place p.
unfoldable pub join : ℕ → ℕ → ℕ → ℕ → ℕ → ℕ → List ℕ → List ℕ
join n w u v d p s = put2 n Lengths w u (p + 1) (put3 n Values w u p d (put3 n Destinations w u p v s))

-- 'Sending' (v, d) from w to u: the value is replaced where v waits, and otherwise the entry joins the tail. A full queue stays as it is.
unfoldable pub send : ℕ → ℕ → ℕ → ℕ → ℕ → List ℕ → List ℕ
send n w u v d s =
    let m = held n w u s in
    let p = waits_at n w u v m s in
    if ltb p m then put3 n Values w u p d s else (if ltb m n then join n w u v d m s else s)

-- Place p of row w, u of a block takes what stands k places behind it.
unfoldable pub shift : ℕ → Table → ℕ → ℕ → ℕ → ℕ → List ℕ → List ℕ
shift n t w u k p s = put3 n t w u p (get3 n t w u (p + k) s) s

-- The k places of row w, u of a block behind the first m become 0.
unfoldable pub clear : ℕ → Table → ℕ → ℕ → ℕ → ℕ → List ℕ → List ℕ
clear n t w u m k s = loop k (λ p. put3 n t w u (m + p) 0) s

-- The first k entries of row w, u of a block leave, the m behind them move up, and the places that fall free become 0.
unfoldable pub move_up : ℕ → Table → ℕ → ℕ → ℕ → ℕ → List ℕ → List ℕ
move_up n t w u k m s = clear n t w u m k (loop m (shift n t w u k) s)

-- The first k entries of the queue leave, and m stay.
unfoldable pub take_first : ℕ → ℕ → ℕ → ℕ → ℕ → List ℕ → List ℕ
take_first n w u k m s = put2 n Lengths w u m (move_up n Values w u k m (move_up n Destinations w u k m s))

-- Destination v stands at place v, with the sender's distance.
unfoldable pub offer : ℕ → ℕ → ℕ → ℕ → List ℕ → List ℕ
offer n w u v s = put3 n Values w u v (get2 n Distances w v s) (put3 n Destinations w u v v s)

-- All n destinations wait, ascending, with the sender's distances.
unfoldable pub offer_all : ℕ → ℕ → ℕ → List ℕ → List ℕ
offer_all n w u s = put2 n Lengths w u n (loop n (offer n w u) s)

-- Nothing waits.
unfoldable pub empty : ℕ → ℕ → ℕ → List ℕ → List ℕ
empty n w u s = put2 n Lengths w u 0 (fill n Values w u 0 (fill n Destinations w u 0 s))
