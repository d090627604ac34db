-- What the code does to the bytes at each event, in the order of hop_rule's Rule and Notice. Every definition is total, as those of one queue are; on sound bytes each is the rule's.
-- Used by the code's own definitions; a buyer needs none of it.
use Rattle.std.specs.Prelude.{Bool, ◌&&◌, List, ◌≡◌, ℕ, ◌+◌, ◌-◌, ◌≤◌, min, eqb, ltb, get_or, set, if◌then◌else◌}
use Rattle.hop_rule.specs.declared.Table.{Table}
use Rattle.hop_rule.specs.declared.Table.TheVariants.{Links, Distances, Downstreams, Views, Lengths, Destinations, Values}
use Rattle.hop_rule.specs.Words.{loop}
use Rattle.hop_cells.specs.Cells.{cells, put, get2, get3, put2, put3, fill}
use Rattle.hop_queues.specs.Queues.{held, send, take_first, offer_all, empty}
use Rattle.hop_cells.specs.declared.Way.{Way}

-- The link is up at u's end.
abbrev pub up : ℕ → ℕ → ℕ → List ℕ → Bool
up n u w s = eqb (get2 n Links u w s) 1

-- Neighbour w is looked at, after those below it, which gave b.
unfoldable pub nearer : ℕ → ℕ → ℕ → List ℕ → ℕ → Way → Way
nearer n u v s w b =
    let d = get3 n Views u w v s + 1 in
    if up n u w s && ltb d b.distance then record { distance = d; downstream = w } else b

-- The smaller of n and 1 + the least view of v over u's up links, and the lowest neighbour that gives it, or 255.
unfoldable pub best : ℕ → ℕ → ℕ → List ℕ → Way
best n u v s = loop n (nearer n u v s) (record { distance = n; downstream = 255 })

-- The distance and the downstream of v at u become those of b.
unfoldable pub store : ℕ → ℕ → ℕ → Way → List ℕ → List ℕ
store n u v b s = put2 n Downstreams u v b.downstream (put2 n Distances u v b.distance s)

-- The entry (v, d) is sent from u to w, if that link is up at both ends; and to each neighbour of u.
unfoldable pub tell_one : ℕ → ℕ → ℕ → ℕ → ℕ → List ℕ → List ℕ
tell_one n u v d w s = if up n u w s && up n w u s then send n u w v d s else s

unfoldable pub tell : ℕ → ℕ → ℕ → ℕ → List ℕ → List ℕ
tell n u v d s = loop n (tell_one n u v d) s

-- What is found for v at u is stored. If the distance changed, it is told.
unfoldable pub renew : ℕ → ℕ → ℕ → Way → List ℕ → List ℕ
renew n u v b s =
    let stored = store n u v b s in
    if eqb u v then s else (if eqb b.distance (get2 n Distances u v s) then stored else tell n u v b.distance stored)

-- 'Recompute' of v at u.
unfoldable pub recompute : ℕ → ℕ → ℕ → List ℕ → List ℕ
recompute n u v s = renew n u v (best n u v s) s

-- The best of all destinations side by side: the least view of v so far stands in one row, and the neighbour that gave it in the other.
abbrev pub at : List ℕ → List ℕ → ℕ → Way
at views from v = record { distance = get_or views v 0 + 1; downstream = get_or from v 0 }

abbrev pub choose : ℕ → ℕ → ℕ → ℕ → ℕ
choose d c a b = if ltb d c then a else b

-- Both rows after neighbour w is looked at for v.
abbrev pub lesser : ℕ → ℕ → ℕ → ℕ → List ℕ → List ℕ → List ℕ
lesser n u w v s views = set views v (choose (get3 n Views u w v s) (get_or views v 0) (get3 n Views u w v s) (get_or views v 0))

abbrev pub giver : ℕ → ℕ → ℕ → ℕ → List ℕ → List ℕ → List ℕ → List ℕ
giver n u w v s views from = set from v (choose (get3 n Views u w v s) (get_or views v 0) w (get_or from v 0))

-- What the rows have for v is what they had, one neighbour further; and no view has grown.
abbrev pub Looked : ℕ → ℕ → ℕ → List ℕ → List ℕ → List ℕ → List ℕ → List ℕ → ℕ → Type 0
Looked n u w s views from views' from' v = (at views' from' v ≡ nearer n u v s w (at views from v)) × (get_or views' v 0 ≤ get_or views v 0)

-- u's view of v from w has become d, and u settles v by that view alone: it is nearer than all others, or as near as they are over a lower neighbour; it grew and was the one to go by, so that the others are looked at; or nothing changes.
unfoldable pub settle : ℕ → ℕ → ℕ → ℕ → ℕ → List ℕ → List ℕ
settle n u v w d s =
    let old = get2 n Distances u v s in
    let x = get2 n Downstreams u v s in
    let nearer = tell n u v (d + 1) (store n u v (record { distance = d + 1; downstream = w }) s) in
    let alike = if ltb old n && ltb w x then put2 n Downstreams u v w s else s in
    let farther = if eqb x w then recompute n u v s else s in
    if eqb u v then s else (if ltb (d + 1) old then nearer else (if eqb (d + 1) old then alike else farther))

-- The entry (v, d) at place p of the queue from w to u is heard: u's view of v from w becomes d, and u settles v. Nothing happens where v is no node.
unfoldable pub hear_at : ℕ → ℕ → ℕ → ℕ → List ℕ → List ℕ
hear_at n w u p s =
    let v = get3 n Destinations w u p s in
    let d = get3 n Values w u p s in
    if ltb v n then settle n u v w d (put3 n Views u w v d s) else s

unfoldable pub hear_first : ℕ → ℕ → ℕ → ℕ → List ℕ → List ℕ
hear_first n w u k s = loop k (hear_at n w u) s

-- k deliveries from w to u, or as many as wait: the entries are heard where they stand, and then leave together.
unfoldable pub drain : ℕ → ℕ → ℕ → ℕ → List ℕ → List ℕ
drain n w u k s =
    let m = held n w u s in
    let j = min k m in
    if eqb k 0 then s else take_first n w u j (m - j) (hear_first n w u j s)

-- 'Deliver' from w to u.
unfoldable pub deliver : ℕ → ℕ → ℕ → List ℕ → List ℕ
deliver n w u s = drain n w u 1 s

-- 'Link up' a, b: both ends are up, and each offers all that it has to the other.
unfoldable pub link_up : ℕ → ℕ → ℕ → List ℕ → List ℕ
link_up n a b s = offer_all n b a (offer_all n a b (put2 n Links b a 1 (put2 n Links a b 1 s)))

-- u recomputes every destination, in ascending order.
unfoldable pub recompute_all : ℕ → ℕ → List ℕ → List ℕ
recompute_all n u s = loop n (recompute n u) s

-- 'Notice' by a, its first half: a's end of the link to b is down, a's views from b are n, and both queues are empty.
unfoldable pub lose : ℕ → ℕ → ℕ → List ℕ → List ℕ
lose n a b s = empty n b a (empty n a b (fill n Views a b n (put2 n Links a b 0 s)))

-- And a recomputes every destination.
unfoldable pub notice : ℕ → ℕ → ℕ → List ℕ → List ℕ
notice n a b s = recompute_all n a (lose n a b s)

-- The notice of a, if it is missing.
unfoldable pub missing : ℕ → ℕ → ℕ → List ℕ → List ℕ
missing n a b s = if up n a b s then notice n a b s else s

-- 'Link down' a, b: whatever notices are missing, the lower-numbered end first.
unfoldable pub link_down : ℕ → ℕ → ℕ → List ℕ → List ℕ
link_down n a b s = if ltb a b then missing n b a (missing n a b s) else missing n a b (missing n b a s)

-- Every byte of a block becomes x.
unfoldable pub fill_block : ℕ → Table → ℕ → List ℕ → List ℕ
fill_block n t x s = loop (cells n t) (λ i. put n t i x) s

-- The blocks of n², and those of n³, of a state in which no link is up, no node has any, not even itself, and nothing waits.
unfoldable pub fill_squares : ℕ → List ℕ → List ℕ
fill_squares n s = fill_block n Lengths 0 (fill_block n Downstreams 255 (fill_block n Distances n (fill_block n Links 0 s)))

unfoldable pub fill_cubes : ℕ → List ℕ → List ℕ
fill_cubes n s = fill_block n Values 0 (fill_block n Destinations 0 (fill_block n Views n s))

-- u has itself, at distance 0; and so has every node.
unfoldable pub own_route : ℕ → ℕ → List ℕ → List ℕ
own_route n u s = store n u u (record { distance = 0; downstream = u }) s

unfoldable pub own_routes : ℕ → List ℕ → List ℕ
own_routes n s = loop n (own_route n) s

-- 'Fresh': a state of n nodes. No byte is read.
unfoldable pub make : ℕ → List ℕ → List ℕ
make n s = own_routes n (fill_cubes n (fill_squares n (set s 0 n)))
