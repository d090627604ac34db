-- What the soundness check finds of two nodes, row by row. Used by hop_sound, which shows that the whole check is 01's sound. A buyer needs none of it.
use Rattle.std.specs.Prelude.{Bool, not, ◌&&◌, ◌||◌, List, ℕ, ◌+◌, ◌*◌, eqb, leb, if◌then◌else◌}
use Rattle.hop_rule.specs.declared.Table.TheVariants.{Links, Distances, Downstreams, Views, Lengths, Destinations, Values}
use Rattle.hop_cells.specs.Cells.{get2}
use Rattle.hop_rows.specs.Rows.{row, all_are, all_below, same}
use Rattle.hop_seen.specs.Seen.{differing}
use Rattle.hop_sound_rows.specs.SoundRows.{all_allow, all_told}

-- The byte of u's end of the link to w is 0 or 1, and 0 on the diagonal.
unfoldable pub link_sound : ℕ → List ℕ → ℕ → ℕ → Bool
link_sound n s u w = leb (get2 n Links u w s) 1 && (not (eqb u w) || eqb (get2 n Links u w s) 0)

-- u's end is down: its views from w are n, and the queue from w to u is empty.
unfoldable pub down_sound : ℕ → List ℕ → ℕ → ℕ → Bool
down_sound n s u w = eqb (get2 n Lengths w u s) 0 && all_are s (row n Views (u * n + w)) n n

-- Both ends are up: where nothing waits, u's views from w are w's distances,
unfoldable pub idle_sound : ℕ → List ℕ → ℕ → ℕ → Bool
idle_sound n s u w = same s (row n Views (u * n + w)) (row n Distances w) n

-- and where m entries wait, u's views from w are w's distances once these are delivered,
unfoldable pub told_sound : ℕ → List ℕ → ℕ → ℕ → ℕ → Bool
told_sound n s u w m = all_told s n (row n Views (u * n + w)) (row n Distances w) (row n Destinations (w * n + u)) (row n Values (w * n + u)) m

-- and their destinations are below n and differ.
unfoldable pub busy_sound : ℕ → List ℕ → ℕ → ℕ → ℕ → Bool
busy_sound n s u w m =
    let destinations = row n Destinations (w * n + u) in
    all_below s destinations m n && (differing s destinations m && told_sound n s u w m)

unfoldable pub queue_sound : ℕ → List ℕ → ℕ → ℕ → Bool
queue_sound n s u w =
    let m = get2 n Lengths w u s in
    if eqb m 0 then idle_sound n s u w else leb m n && busy_sound n s u w m

-- u's end is up: nothing waits where w's end is down,
unfoldable pub waiting_sound : ℕ → List ℕ → ℕ → ℕ → Bool
waiting_sound n s u w = if eqb (get2 n Links w u s) 1 then queue_sound n s u w else eqb (get2 n Lengths w u s) 0

-- and u's views from w allow u's routes, whether or not w's end is up.
unfoldable pub up_sound : ℕ → List ℕ → ℕ → ℕ → Bool
up_sound n s u w = waiting_sound n s u w && all_allow s n w (row n Views (u * n + w)) (row n Distances u) (row n Downstreams u)

unfoldable pub pair_sound : ℕ → List ℕ → ℕ → ℕ → Bool
pair_sound n s u w = link_sound n s u w && (if eqb (get2 n Links u w s) 1 then up_sound n s u w else down_sound n s u w)
