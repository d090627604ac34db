-- Writing a cell of a buffer changes that cell and no other. A block of n² bytes changes by cells, and one of n³ by rows. Assumes nothing.
use mathlib.Core.Path.{◌≡◌, refl, sym, ap, subst, ◌∙◌}
use mathlib.Core.Bool.{Bool, cond, ◌&&◌}
use mathlib.Core.List.{List}
use Prim.Native.Nat.{ℕ, ◌+◌, ◌*◌, ◌<◌}
use native.Mathlib.Decide.{ℕ_discrete}
use native.Mathlib.Omega.{arith}
use lib.Dec.{eqb}
use lib.Seq.{drop-set-lt}
use Rattle.hop_rule.specs.declared.Table.{Table}
use Rattle.hop_rule.specs.declared.Table.TheVariants.{Links, Distances, Downstreams, Views, Lengths, Destinations, Values}
use Rattle.hop_rule.specs.Stored.{size, start}
use Rattle.hop_laws.specs.Holds.{Flat, Deep}
use Rattle.hop_laws.proofs.Stored.{nodes_kept}
use Rattle.hop_laws.proofs.Tests.{Tells, decides, tells_as, tells_eq, tells_and, tells_same, choose_so, choose_else, tells_false}
use Rattle.hop_cells.specs.Cells.{Room, cells, get, put, get3, put2, put3}
use Rattle.hop_cells.proofs.Places.{cell2_lt, cell3_lt, digits_same, rank, inside, room_put, get_put_same, get_put_other, get_put_apart}
use Rattle.hop_bridge.specs.Carries.{Flats, Deeps, Filled}
use Rattle.hop_bridge.proofs.Choice.{cond_idle, cond_then, cond_swap, cond_within}

-- ---- tables, told apart by their rank

abbrev pub same : Table → Table → Bool
same j k = eqb (rank j) (rank k)

table_at : ℕ → Table
table_at r = cond (eqb r 0) Links (cond (eqb r 1) Distances (cond (eqb r 2) Downstreams (cond (eqb r 3) Views (cond (eqb r 4) Lengths (cond (eqb r 5) Destinations Values)))))

table_rank : (k : Table) → table_at (rank k) ≡ k
unfolding table_at
table_rank Links = refl
table_rank Distances = refl
table_rank Downstreams = refl
table_rank Views = refl
table_rank Lengths = refl
table_rank Destinations = refl
table_rank Values = refl

pub tells_table : (j k : Table) → Tells (same j k) (j ≡ k)
tells_table j k = tells_as (λ e. sym (table_rank j) ∙ ap table_at e ∙ table_rank k) (ap rank) (tells_eq (rank j) (rank k))

other_table : (j k : Table) → (j ≡ k → ⊥) → (b : Bool) (x y : ℕ) → cond (same j k && b) x y ≡ y
other_table j k f b x y = rw (tells_false (tells_table j k) f)

-- What is shown of each block of n² bytes, and of each of n³.
pub by_flat : (P : Table → Type 0) → P Links → P Distances → P Downstreams → P Lengths → (k : Table) → Flat k → P k
by_flat P a b c d Links f = a
by_flat P a b c d Distances f = b
by_flat P a b c d Downstreams f = c
by_flat P a b c d Views f = absurd f
by_flat P a b c d Lengths f = d
by_flat P a b c d Destinations f = absurd f
by_flat P a b c d Values f = absurd f

pub by_deep : (P : Table → Type 0) → P Views → P Destinations → P Values → (k : Table) → Deep k → P k
by_deep P a b c Links f = absurd f
by_deep P a b c Distances f = absurd f
by_deep P a b c Downstreams f = absurd f
by_deep P a b c Views f = a
by_deep P a b c Lengths f = absurd f
by_deep P a b c Destinations f = b
by_deep P a b c Values f = c

flat_not_deep : (k : Table) → Flat k → Deep k → ⊥
flat_not_deep = by_flat (λ k. Deep k → ⊥) (λ d. d) (λ d. d) (λ d. d) (λ d. d)

-- The first byte is in no block.
start_past : (n : ℕ) (k : Table) → 0 < start n k
unfolding start
start_past n Links = omega arith
start_past n Distances = omega arith
start_past n Downstreams = omega arith
start_past n Views = omega arith
start_past n Lengths = omega arith
start_past n Destinations = omega arith
start_past n Values = omega arith

pub flat_in : {n a b : ℕ} (k : Table) → Flat k → a < n → b < n → a * n + b < cells n k
flat_in {n} {a} {b} k f la lb = by_flat (λ k. a * n + b < cells n k) (cell2_lt la lb) (cell2_lt la lb) (cell2_lt la lb) (cell2_lt la lb) k f

pub deep_in : {n a b c : ℕ} (k : Table) → Deep k → a < n → b < n → c < n → (a * n + b) * n + c < cells n k
deep_in {n} {a} {b} {c} k f la lb lc = by_deep (λ k. (a * n + b) * n + c < cells n k) (cell3_lt la lb lc) (cell3_lt la lb lc) (cell3_lt la lb lc) k f

-- ---- one byte

-- What is read after a write.
get_put : (n : ℕ) (j k : Table) (i p x : ℕ) (s : List ℕ) → Room n s → i < cells n j → p < cells n k → get n j i (put n k p x s) ≡ cond (same j k && eqb i p) x (get n j i s)
get_put n j k i p x s room li lp = go (decides (tells_table j k)) (ℕ_discrete i p)
  where
    both : Tells (same j k && eqb i p) ((j ≡ k) × (i ≡ p))
    both = tells_and (tells_table j k) (tells_eq i p)

    go : Dec (j ≡ k) → Dec (i ≡ p) → get n j i (put n k p x s) ≡ cond (same j k && eqb i p) x (get n j i s)
    go (yes e) (yes z) = rw (choose_so both x (get n j i s) (e, z), e, z) (get_put_same n k p x s room lp)
    go (yes e) (no f) = rw (choose_else both x (get n j i s) (λ b. f b.1), e) (get_put_other n k i p x s f)
    go (no f) z = rw (choose_else both x (get n j i s) (λ b. f b.0)) (get_put_apart n j k i p x s (λ e. f ((tells_table j k).shows ((tells_eq (rank j) (rank k)).if_so e))) li lp)

-- Places are one where their digits are.
eqb_digits : (n q p : ℕ) {b v : ℕ} → b < n → v < n → eqb (q * n + b) (p * n + v) ≡ (eqb q p && eqb b v)
eqb_digits n q p {b} {v} lb lv = tells_same (tells_eq (q * n + b) (p * n + v)) (tells_as (λ e. rw (e.0, e.1) refl) (digits_same q p lb lv) (tells_and (tells_eq q p) (tells_eq b v)))

-- ---- what a write does to the cells

-- Cell u, v of block k is x.
abbrev pub cell_set : Flats → Table → ℕ → ℕ → ℕ → Flats
cell_set F k u v x j a b = cond (same j k && (eqb a u && eqb b v)) x (F j a b)

-- Row u, w of block k is f.
abbrev pub row_set : Deeps → Table → ℕ → ℕ → (ℕ → ℕ) → Deeps
row_set D k u w f j a b c = cond (same j k && (eqb a u && eqb b w)) (f c) (D j a b c)

-- Place p of a row is x.
abbrev pub place_set : ℕ → ℕ → (ℕ → ℕ) → ℕ → ℕ
place_set p x f c = cond (eqb c p) x (f c)

module _ {n : ℕ} {r s : List ℕ} {F : Flats} {D : Deeps} where
  -- The same cells by another name.
  pub filled_as : (F' : Flats) (D' : Deeps) → Filled n r s F D
      → ((k : Table) → Flat k → (a b : ℕ) → a < n → b < n → F k a b ≡ F' k a b)
      → ((k : Table) → Deep k → (a b c : ℕ) → a < n → b < n → c < n → D k a b c ≡ D' k a b c)
      → Filled n r s F' D'
  filled_as F' D' h e g = record {
    room = h.room;
    head = h.head;
    tail = h.tail;
    flats = λ k f a b la lb. h.flats k f a b la lb ∙ e k f a b la lb;
    deeps = λ k f a b c la lb lc. h.deeps k f a b c la lb lc ∙ g k f a b c la lb lc;
  }

  -- A write in a block.
  pub written : Filled n r s F D → (k : Table) (p x : ℕ) → p < cells n k
      → (F' : Flats) (D' : Deeps)
      → ((j : Table) → Flat j → (a b : ℕ) → a < n → b < n → cond (same j k && eqb (a * n + b) p) x (F j a b) ≡ F' j a b)
      → ((j : Table) → Deep j → (a b c : ℕ) → a < n → b < n → c < n → cond (same j k && eqb ((a * n + b) * n + c) p) x (D j a b c) ≡ D' j a b c)
      → Filled n r (put n k p x s) F' D'
  unfolding put
  written h k p x l F' D' e g = record {
    room = room_put k p x h.room;
    head = nodes_kept s (start n k + p) x (omega (arith, start_past n k)) ∙ h.head;
    tail = drop-set-lt (size n) s (start n k + p) x (inside n k l) ∙ h.tail;
    flats = λ j f a b la lb. get_put n j k (a * n + b) p x s h.room (flat_in j f la lb) l ∙ rw (h.flats j f a b la lb) (e j f a b la lb);
    deeps = λ j f a b c la lb lc. get_put n j k ((a * n + b) * n + c) p x s h.room (deep_in j f la lb lc) l ∙ rw (h.deeps j f a b c la lb lc) (g j f a b c la lb lc);
  }

  pub filled_put2 : Filled n r s F D → (k : Table) → Flat k → (u v x : ℕ) → u < n → v < n → Filled n r (put2 n k u v x s) (cell_set F k u v x) D
  filled_put2 h k f u v x lu lv =
      written h k (u * n + v) x (flat_in k f lu lv) (cell_set F k u v x) D
      (λ j g a b la lb. rw (eqb_digits n a u lb lv))
      (λ j g a b c la lb lc. other_table j k (λ e. flat_not_deep j (subst Flat (sym e) f) g) _ x (D j a b c))

-- A place of a row that was set before.
pub filled_put3 : {n : ℕ} {r s : List ℕ} {F : Flats} (D : Deeps) (k : Table) (u w : ℕ) (f : ℕ → ℕ)
    → Filled n r s F (row_set D k u w f) → Deep k → u < n → w < n → (p x : ℕ) → p < n → Filled n r (put3 n k u w p x s) F (row_set D k u w (place_set p x f))
filled_put3 {n} {r} {s} {F} D k u w f h d lu lw p x lp =
    written h k ((u * n + w) * n + p) x (deep_in k d lu lw lp) F (row_set D k u w (place_set p x f))
    (λ j g a b la lb. other_table j k (λ e. flat_not_deep j g (subst Deep (sym e) d)) _ x (F j a b))
    (λ j g a b c la lb lc. rw (eqb_digits n (a * n + b) (u * n + w) lc lp, eqb_digits n a u lb lw) (cond_within (same j k) (eqb a u && eqb b w) (eqb c p) x (f c) (D j a b c)))

-- ---- rows

tells_here : (j k : Table) (a u b v : ℕ) → Tells (same j k && (eqb a u && eqb b v)) ((j ≡ k) × ((a ≡ u) × (b ≡ v)))
tells_here j k a u b v = tells_and (tells_table j k) (tells_and (tells_eq a u) (tells_eq b v))

module _ {n : ℕ} {r s : List ℕ} {F : Flats} {D : Deeps} where
  -- What stands there anyway.
  pub cell_kept : (k : Table) (u v : ℕ) → Filled n r s F D → Filled n r s (cell_set F k u v (F k u v)) D
  cell_kept k u v h =
      filled_as (cell_set F k u v (F k u v)) D h
      (λ j f a b la lb. sym (cond_idle (same j k && (eqb a u && eqb b v)) (F k u v) (F j a b) (λ e. let i = (tells_here j k a u b v).shows e in rw (i.0, i.1.0, i.1.1))))
      (λ j f a b c la lb lc. refl)

  pub row_kept : (k : Table) (u w : ℕ) → Filled n r s F D → Filled n r s F (row_set D k u w (D k u w))
  row_kept k u w h =
      filled_as F (row_set D k u w (D k u w)) h
      (λ j f a b la lb. refl)
      (λ j f a b c la lb lc. sym (cond_idle (same j k && (eqb a u && eqb b w)) (D k u w c) (D j a b c) (λ e. let i = (tells_here j k a u b w).shows e in rw (i.0, i.1.0, i.1.1))))

-- What is read of a row that was set.
pub row_get : {n : ℕ} {r s : List ℕ} {F : Flats} (D : Deeps) (k : Table) (u w : ℕ) (f : ℕ → ℕ) → Filled n r s F (row_set D k u w f) → Deep k → u < n → w < n → (c : ℕ) → c < n → get3 n k u w c s ≡ f c
row_get D k u w f h d lu lw c lc = h.deeps k d u w c lu lw lc ∙ choose_so (tells_here k k u u w w) (f c) (D k u w c) (refl, (refl, refl))

module _ {n : ℕ} {r s : List ℕ} {F : Flats} (D : Deeps) (k : Table) (u w : ℕ) (f g : ℕ → ℕ) where
  -- Only the places below n of a row matter,
  pub row_as : Filled n r s F (row_set D k u w f) → ((c : ℕ) → c < n → f c ≡ g c) → Filled n r s F (row_set D k u w g)
  row_as h e = filled_as F (row_set D k u w g) h (λ j f a b la lb. refl) (λ j d a b c la lb lc. cond_then (same j k && (eqb a u && eqb b w)) (f c) (g c) (D j a b c) (λ i. e c lc))

  -- and rows of two blocks can be set in either order.
  pub row_swap : (l : Table) → (k ≡ l → ⊥) → Filled n r s F (row_set (row_set D k u w f) l u w g) → Filled n r s F (row_set (row_set D l u w g) k u w f)
  row_swap l o h =
      filled_as F (row_set (row_set D l u w g) k u w f) h
      (λ j d a b la lb. refl)
      (λ j d a b c la lb lc. cond_swap (same j l && (eqb a u && eqb b w)) (same j k && (eqb a u && eqb b w)) (g c) (f c) (D j a b c) (λ x y. o (sym ((tells_here j k a u b w).shows y).0 ∙ ((tells_here j l a u b w).shows x).0)))
