-- The soundness check as the code makes it, row by row. proofs/Sound.antt shows that it is 01's sound. A buyer needs none of it.
use Rattle.std.specs.Prelude.{Bool, ◌&&◌, List, ℕ, ◌+◌, ◌*◌, ◌-◌, eqb, ltb, leb, if◌then◌else◌}
use Rattle.hop_rule.specs.declared.Table.TheVariants.{Links, Distances, Downstreams, Views, Lengths, Destinations, Values}
use Rattle.hop_rule.specs.Words.{every}
use Rattle.hop_cells.specs.Cells.{get2, get3}
use Rattle.hop_rows.specs.Rows.{row, all_are, both_are, all_below}
use Rattle.hop_sound_pairs.specs.Pairs.{pair_sound}

-- u's views are at most n.
unfoldable pub views_sound : ℕ → List ℕ → ℕ → Bool
views_sound n s u = all_below s (row n Views (u * n)) (n * n) (n + 1)

-- u's route to v: its own is distance 0 by way of u; distance n has no downstream; else the downstream is an up neighbour that gives the distance.
unfoldable pub route_sound : ℕ → List ℕ → ℕ → ℕ → Bool
route_sound n s u v =
    let d = get2 n Distances u v s in
    let h = get2 n Downstreams u v s in
    if eqb u v then eqb d 0 && eqb h u else if eqb d n then eqb h 255 else ltb d n && (ltb h n && (eqb (get2 n Links u h s) 1 && eqb (get3 n Views u h v s + 1) d))

-- Places past the length are 0 in both blocks: those of the queue from w to u,
unfoldable pub past_sound : ℕ → List ℕ → ℕ → ℕ → Bool
past_sound n s w u =
    let m = get2 n Lengths w u s in
    leb m n && both_are s (row n Destinations (w * n + u) + m) (row n Values (w * n + u) + m) (n - m) 0

-- and those of all queues of w at once, where none of them holds anything.
unfoldable pub sent_sound : ℕ → List ℕ → ℕ → Bool
sent_sound n s w =
    if all_are s (row n Lengths w) n 0 then both_are s (row n Destinations (w * n)) (row n Values (w * n)) (n * n) 0 else every n (past_sound n s w)

-- Everything that the bytes hold of node u.
unfoldable pub node_sound : ℕ → List ℕ → ℕ → Bool
node_sound n s u = views_sound n s u && (every n (pair_sound n s u) && (every n (route_sound n s u) && sent_sound n s u))

unfoldable pub all_sound : ℕ → List ℕ → Bool
all_sound n s = every n (node_sound n s)
