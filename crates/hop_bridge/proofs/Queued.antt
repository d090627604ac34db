-- The bytes of one queue, in the middle of a move too: its length byte, its row of destinations and its row of values, while all other cells stay. Assumes nothing.
use mathlib.Core.Path.{◌≡◌, refl, sym, ap}
use mathlib.Core.Bool.{◌&&◌}
use mathlib.Core.List.{List}
use Prim.Native.Nat.{ℕ, ◌+◌, ◌≤◌, ◌<◌}
use native.Mathlib.Omega.{arith}
use lib.Dec.{eqb}
use Rattle.hop_rule.specs.declared.Table.TheVariants.{Distances, Lengths, Destinations, Values}
use Rattle.hop_rule.specs.Words.{loop}
use Rattle.hop_cells.specs.Cells.{put2, put3, fill}
use Rattle.hop_cells.proofs.Places.{rank}
use Rattle.hop_queues.specs.Queues.{join, move_up, take_first, offer, offer_all, empty}
use Rattle.hop_bridge.specs.Carries.{Flats, Deeps, Filled}
use Rattle.hop_bridge.proofs.Choice.{cond_twice}
use Rattle.hop_bridge.proofs.Filled.{same, cell_set, row_set, place_set, filled_as, filled_put2, filled_put3, cell_kept, row_kept, row_as, row_swap}
use Rattle.hop_bridge.proofs.Rows.{loop_reaches, upto, upto_none, upto_more, upto_all, Moved, fill_row, move_up_row}

-- The cells are F and D, but for the queue from w to u: its length byte is m, its destinations are f, its values g.
pub record Queued (n : ℕ) (r s : List ℕ) (F : Flats) (D : Deeps) (w u m : ℕ) (f g : ℕ → ℕ) : Type 0 where
  pub filled : Filled n r s (cell_set F Lengths w u m) (row_set (row_set D Destinations w u f) Values w u g)

module _ {n : ℕ} {r s : List ℕ} {F : Flats} {D : Deeps} {w u : ℕ} where
  -- Its bytes as they are.
  pub queued : Filled n r s F D → Queued n r s F D w u (F Lengths w u) (D Destinations w u) (D Values w u)
  queued h = record { filled = cell_kept Lengths w u (row_kept Values w u (row_kept Destinations w u h)) }

module _ {n : ℕ} {r s : List ℕ} {F : Flats} {D : Deeps} {w u m : ℕ} {f g : ℕ → ℕ} where
  -- The row of values is on top; that of destinations can be brought there,
  destinations_top : Queued n r s F D w u m f g → Filled n r s (cell_set F Lengths w u m) (row_set (row_set D Values w u g) Destinations w u f)
  destinations_top h = row_swap D Destinations w u f g Values (λ e. let z = ap rank e in omega arith) h.filled

  -- and back.
  values_top : Filled n r s (cell_set F Lengths w u m) (row_set (row_set D Values w u g) Destinations w u f) → Queued n r s F D w u m f g
  values_top h = record { filled = row_swap D Values w u g f Destinations (λ e. let z = ap rank e in omega arith) h }

module _ {n : ℕ} {r s : List ℕ} {F : Flats} {D : Deeps} {w u m : ℕ} {f g : ℕ → ℕ} (h : Queued n r s F D w u m f g) where
  -- Only the places below n matter.
  queued_as : {f' g' : ℕ → ℕ} → ((c : ℕ) → c < n → f c ≡ f' c) → ((c : ℕ) → c < n → g c ≡ g' c) → Queued n r s F D w u m f' g'
  queued_as {f'} {g'} e z =
      values_top (row_as (row_set D Values w u g') Destinations w u f f' (destinations_top (record { filled = row_as (row_set D Destinations w u f) Values w u g g' h.filled z })) e)

  module _ (lw : w < n) (lu : u < n) where
    put_length : (x : ℕ) → Queued n r (put2 n Lengths w u x s) F D w u x f g
    put_length x = record {
      filled =
          filled_as (cell_set F Lengths w u x) (row_set (row_set D Destinations w u f) Values w u g) (filled_put2 h.filled Lengths tt w u x lw lu)
          (λ j i a b la lb. cond_twice (same j Lengths && (eqb a w && eqb b u)) x m (F j a b))
          (λ j i a b c la lb lc. refl);
    }

    put_destination : (p x : ℕ) → p < n → Queued n r (put3 n Destinations w u p x s) F D w u m (place_set p x f) g
    put_destination p x lp = values_top (filled_put3 (row_set D Values w u g) Destinations w u f (destinations_top h) tt lw lu p x lp)

    pub put_value : (p x : ℕ) → p < n → Queued n r (put3 n Values w u p x s) F D w u m f (place_set p x g)
    put_value p x lp = record { filled = filled_put3 (row_set D Destinations w u f) Values w u g h.filled tt lw lu p x lp }

-- ---- the moves of one queue

module _ {n : ℕ} {r s : List ℕ} {F : Flats} {D : Deeps} {w u m : ℕ} {f g : ℕ → ℕ} (h : Queued n r s F D w u m f g) (lw : w < n) (lu : u < n) where
  pub join_queued : (v d p : ℕ) → p < n → Queued n r (join n w u v d p s) F D w u (p + 1) (place_set p v f) (place_set p d g)
  unfolding join
  join_queued v d p lp = put_length (put_value (put_destination h lw lu p v lp) lw lu p d lp) lw lu (p + 1)

  pub take_first_queued : (j k : ℕ) (f' g' : ℕ → ℕ) → k + j ≤ n → Moved j k f f' → Moved j k g g' → Queued n r (take_first n w u j k s) F D w u k f' g'
  unfolding take_first
  take_first_queued j k f' g' l e z =
      let up : Queued n r (move_up n Destinations w u j k s) F D w u m f' g = values_top (move_up_row (row_set D Values w u g) Destinations w u f (destinations_top h) tt lw lu j k f' l e) in
      let both : Queued n r (move_up n Values w u j k (move_up n Destinations w u j k s)) F D w u m f' g' = record { filled = move_up_row (row_set D Destinations w u f') Values w u g up.filled tt lw lu j k g' l z } in
      put_length both lw lu k

  pub empty_queued : Queued n r (empty n w u s) F D w u 0 (λ c. 0) (λ c. 0)
  unfolding empty
  empty_queued =
      let one : Queued n r (fill n Destinations w u 0 s) F D w u m (λ c. 0) g = values_top (fill_row (row_set D Values w u g) Destinations w u f (destinations_top h) tt lw lu 0) in
      let both : Queued n r (fill n Values w u 0 (fill n Destinations w u 0 s)) F D w u m (λ c. 0) (λ c. 0) = record { filled = fill_row (row_set D Destinations w u (λ c. 0)) Values w u g one.filled tt lw lu 0 } in
      put_length both lw lu 0

  pub offer_all_queued : Queued n r (offer_all n w u s) F D w u n (λ v. v) (F Distances w)
  unfolding offer_all offer
  offer_all_queued =
      put_length (queued_as all (upto_all (λ v. v) f n) (upto_all (F Distances w) g n)) lw lu n
    where
      all : Queued n r (loop n (offer n w u) s) F D w u m (upto n (λ v. v) f) (upto n (F Distances w) g)
      all =
          loop_reaches (λ c t. Queued n r t F D w u m (upto c (λ v. v) f) (upto c (F Distances w) g)) n (offer n w u) s
          (queued_as h (λ c l. sym (upto_none (λ v. v) f c)) (λ c l. sym (upto_none (F Distances w) g c)))
          (λ v t lv q. rw (q.filled.flats Distances tt w v lw lv) (queued_as (put_value (put_destination q lw lu v v lv) lw lu v (F Distances w v) lv) (λ c l. upto_more (λ v. v) f v c) (λ c l. upto_more (F Distances w) g v c)))
