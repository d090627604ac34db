-- A fresh state is made of any bytes: whole blocks are filled, then each node gets itself, and no byte is read. Assumes nothing.
use mathlib.Core.Path.{◌≡◌, refl, sym, subst, ◌∙◌}
use mathlib.Core.Bool.{Bool, true, false, cond, ◌&&◌}
use mathlib.Core.List.{List}
use Prim.Native.Nat.{ℕ, suc, ◌+◌, ◌*◌, ◌<◌}
use native.Mathlib.Omega.{arith}
use lib.Dec.{eqb}
use lib.ListN.{drop, set, length-set}
use lib.Seq.{drop-set-lt}
use Rattle.hop_rule.specs.declared.Table.{Table}
use Rattle.hop_rule.specs.declared.Table.TheVariants.{Links, Distances, Downstreams, Views, Lengths, Destinations, Values}
use Rattle.hop_rule.specs.Rule.{fresh}
use Rattle.hop_rule.specs.Stored.{size, destination_at, value_at}
use Rattle.hop_laws.specs.Holds.{flat_of, deep_of}
use Rattle.hop_laws.proofs.Stored.{nodes_written}
use Rattle.hop_laws.proofs.Tests.{tells_eq, tells_and, tells_as, tells_same, choose_so}
use Rattle.hop_cells.specs.Cells.{Room, cells, put, get2, get3}
use Rattle.hop_cells.proofs.Places.{room_as}
use Rattle.hop_steps.specs.Steps.{store, fill_block, fill_squares, fill_cubes, own_route, own_routes, make}
use Rattle.hop_bridge.specs.Carries.{Flats, Deeps, Filled, Carries}
use Rattle.hop_bridge.proofs.Choice.{cond_idle, cond_then}
use Rattle.hop_bridge.proofs.Filled.{same, tells_table, by_flat, by_deep, flat_in, deep_in, filled_as, written, filled_put2}
use Rattle.hop_bridge.proofs.Rows.{loop_reaches, upto, upto_none, upto_more, upto_all}

-- Where the test t holds, the places below p are h's; all else is z.
abbrev partly : Bool → ℕ → (ℕ → ℕ) → ℕ → ℕ → ℕ
partly t p h z i = cond t (upto p h (λ c. z) i) z

module _ (h : ℕ → ℕ) (z i : ℕ) where
  none : (t : Bool) → z ≡ partly t 0 h z i
  none t = sym (cond_idle t (upto 0 h (λ c. z) i) z (λ e. upto_none h (λ c. z) i))

  more : (t : Bool) (p : ℕ) → cond (t && eqb i p) (h p) (partly t p h z i) ≡ partly t (suc p) h z i
  more true p = upto_more h (λ c. z) p i
  more false p = refl

  all : (t : Bool) (p : ℕ) → (t ≡ true → i < p) → partly t p h z i ≡ cond t (h i) z
  all t p l = cond_then t (upto p h (λ c. z) i) (h i) z (λ e. upto_all h (λ c. z) p i (l e))

-- Every byte of block k becomes x: after p turns those at the places below p are.
filled_block : {n : ℕ} {r s : List ℕ} {F : Flats} {D : Deeps} → Filled n r s F D → (k : Table) (x : ℕ)
    → Filled n r (fill_block n k x s) (λ j a b. cond (same j k) x (F j a b)) (λ j a b c. cond (same j k) x (D j a b c))
unfolding fill_block
filled_block {n} {r} {s} {F} {D} given k x =
    filled_as _ _
    (loop_reaches (λ p t. Filled n r t (λ j a b. partly (same j k) p (λ c. x) (F j a b) (a * n + b)) (λ j a b c. partly (same j k) p (λ c. x) (D j a b c) ((a * n + b) * n + c))) (cells n k) (λ p. put n k p x) s
    (filled_as _ _ given (λ j f a b la lb. none (λ c. x) _ (a * n + b) (same j k)) (λ j f a b c la lb lc. none (λ c. x) _ ((a * n + b) * n + c) (same j k)))
    (λ p t l h. written h k p x l _ _ (λ j f a b la lb. more (λ c. x) _ _ (same j k) p) (λ j f a b c la lb lc. more (λ c. x) _ _ (same j k) p)))
    (λ j f a b la lb. all (λ c. x) _ _ (same j k) (cells n k) (inside j (flat_in j f la lb)))
    (λ j f a b c la lb lc. all (λ c. x) _ _ (same j k) (cells n k) (inside j (deep_in j f la lb lc)))
  where
    inside : (j : Table) {i : ℕ} → i < cells n j → same j k ≡ true → i < cells n k
    inside j {i} l e = subst (λ m. i < cells n m) ((tells_table j k).shows e) l

-- The blocks of n² when the nodes below k have themselves, and no node has another.
abbrev fresh_to : ℕ → ℕ → Flats
fresh_to n k j a b = cond (same j Distances) (partly (eqb a b) k (λ c. 0) n a) (cond (same j Downstreams) (partly (eqb a b) k (λ c. c) 255 a) 0)

module _ {n : ℕ} {r s : List ℕ} where
  blocks_filled : {F : Flats} {D : Deeps} → Filled n r s F D → Filled n r (fill_cubes n (fill_squares n s)) (fresh_to n 0) (deep_of (fresh n))
  unfolding fill_cubes fill_squares fresh destination_at value_at
  blocks_filled given =
      let squares = filled_block (filled_block (filled_block (filled_block given Links 0) Distances n) Downstreams 255) Lengths 0 in
      filled_as _ _
      (filled_block (filled_block (filled_block squares Views n) Destinations 0) Values 0)
      (by_flat _ (λ a b la lb. refl) (λ a b la lb. none (λ c. 0) n a (eqb a b)) (λ a b la lb. none (λ c. c) 255 a (eqb a b)) (λ a b la lb. refl))
      (by_deep _ (λ a b c la lb lc. refl) (λ a b c la lb lc. refl) (λ a b c la lb lc. refl))

  own_route_filled : (k : ℕ) → k < n → Filled n r s (fresh_to n k) (deep_of (fresh n)) → Filled n r (own_route n k s) (fresh_to n (suc k)) (deep_of (fresh n))
  unfolding own_route store
  own_route_filled k l given =
      filled_as _ _
      (filled_put2 (filled_put2 given Distances tt k k 0 l l) Downstreams tt k k k l l)
      (by_flat _ (λ a b la lb. refl) (λ a b la lb. rw (own a b) (more (λ c. 0) n a (eqb a b) k)) (λ a b la lb. rw (own a b) (more (λ c. c) 255 a (eqb a b) k)) (λ a b la lb. refl))
      (λ j f a b c la lb lc. refl)
    where
      own : (a b : ℕ) → (eqb a k && eqb b k) ≡ (eqb a b && eqb a k)
      own a b =
          tells_same (tells_and (tells_eq a k) (tells_eq b k))
          (tells_as (λ e. (e.1, sym e.0 ∙ e.1)) (λ e. (e.0 ∙ sym e.1, e.0)) (tells_and (tells_eq a b) (tells_eq a k)))

-- Nothing is asked of the bytes but that there is room.
pub make_carries : (n : ℕ) (s : List ℕ) → Room n s → Carries n (drop (size n) s) (make n s) (fresh n)
unfolding make own_routes size fresh
make_carries n s room = record {
  orderly = record {
    count = refl;
    own_distance = λ u l. choose_so (tells_eq u u) 0 n refl;
    own_downstream = λ u l. choose_so (tells_eq u u) u 255 refl;
    tidy = λ w u lw lu. record { differ = tt; below = tt };
  };
  filled =
      filled_as (flat_of (fresh n)) (deep_of (fresh n))
      (loop_reaches (λ k t. Filled n (drop (size n) s) t (fresh_to n k) (deep_of (fresh n))) n (own_route n) _ (blocks_filled given) (λ k t l h. own_route_filled k l h))
      (by_flat _ (λ a b la lb. refl) (λ a b la lb. all (λ c. 0) n a (eqb a b) n (λ e. la)) (λ a b la lb. all (λ c. c) 255 a (eqb a b) n (λ e. la)) (λ a b la lb. refl))
      (λ j f a b c la lb lc. refl);
}
  where
    given : Filled n (drop (size n) s) (set s 0 n) (λ k a b. get2 n k a b (set s 0 n)) (λ k a b c. get3 n k a b c (set s 0 n))
    given = record {
      room = room_as (length-set s 0 n) room;
      head = nodes_written s n (omega (arith, room.fits));
      tail = drop-set-lt (size n) s 0 n (omega arith);
      flats = λ k f a b la lb. refl;
      deeps = λ k f a b c la lb lc. refl;
    }
