-- Where the cells of a stored state stand: blocks follow each other by rank, an index has one set of digits, and so a write is seen at its own cell and at no other. Assumes nothing.
use mathlib.Core.Path.{◌≡◌, sym, ap, ◌∙◌}
use mathlib.Core.Logic.{◌≢◌}
use mathlib.Core.List.{List}
use Prim.Native.Nat.{ℕ, suc, ◌+◌, ◌*◌, ◌-◌, ◌/◌, ◌%◌, ◌≤◌, ◌<◌, min}
use native.Mathlib.Nat.{le_refl, add-le-add, add-mul, suc-mul, mul-le-mul, mul-le-mul_right}
use native.Mathlib.Decide.{dec_lt}
use native.Mathlib.Omega.{arith}
use lib.Arith.{digits_lt, digits_div, digits_mod}
use lib.ListN.{length, length-set}
use lib.Seq.{get_or-set_same, get_or-set_other}
use Rattle.hop_rule.specs.declared.Table.{Table}
use Rattle.hop_rule.specs.declared.Table.TheVariants.{Links, Distances, Downstreams, Views, Lengths, Destinations, Values}
use Rattle.hop_rule.specs.Stored.{size, start}
use Rattle.hop_cells.specs.Cells.{Room, cells, get, put}

-- ---- digits in base n

pub cell2_lt : {n a b : ℕ} → a < n → b < n → a * n + b < n * n
cell2_lt ha hb = digits_lt ha hb

pub cell3_lt : {n a b c : ℕ} → a < n → b < n → c < n → (a * n + b) * n + c < n * n * n
cell3_lt ha hb hc = digits_lt (digits_lt ha hb) hc

-- Equal indices have equal digits.
pub digits_same : (q q' : ℕ) {n r r' : ℕ} → r < n → r' < n → q * n + r ≡ q' * n + r' → (q ≡ q') × (r ≡ r')
digits_same q q' {n} h h' e =
    (sym (digits_div q h) ∙ ap (λ (x : ℕ). x / n) e ∙ digits_div q' h', sym (digits_mod q h) ∙ ap (λ (x : ℕ). x % n) e ∙ digits_mod q' h')

-- The stretch of a in a block of n³ begins at its cell 0, 0 and has n² cells.
pub stretch_cell : (n a b c : ℕ) → (a * n + 0) * n + 0 + (b * n + c) ≡ (a * n + b) * n + c
stretch_cell n a b c = omega (arith, add-mul (a * n) b n, add-mul (a * n) 0 n)

pub stretch_most : (n a : ℕ) → a < n → (a * n + 0) * n + 0 + n * n ≤ n * n * n
stretch_most n a h =
    let p : suc a * n * n ≤ n * n * n = mul-le-mul_right n (mul-le-mul_right n h) in
    let q = rw (suc-mul a n, add-mul (a * n) n n) at p in
    omega (arith, add-mul (a * n) 0 n)

-- A row of a block of n³ ends inside it.
pub row_most : {n a b : ℕ} → a < n → b < n → (a * n + b) * n + n ≤ n * n * n
row_most {n} {a} {b} ha hb = omega (arith, mul-le-mul_right n (cell2_lt ha hb), suc-mul (a * n + b) n)

pub square_most : {n : ℕ} → n ≤ 40 → n * n ≤ 1600
square_most h = mul-le-mul h h

pub cube_most : {n : ℕ} → n ≤ 40 → n * n * n ≤ 64000
cube_most h = mul-le-mul (square_most h) h

pub size_most : {n : ℕ} → n ≤ 40 → size n ≤ 198401
unfolding size
size_most h = omega (arith, square_most h, cube_most h)

-- ---- the blocks, by rank

-- Tables are told apart by their rank in the stored form.
abbrev pub rank : Table → ℕ
rank Links = 0
rank Distances = 1
rank Downstreams = 2
rank Views = 3
rank Lengths = 4
rank Destinations = 5
rank Values = 6

-- Of the ranks a, a + 1, .. a + m − 1, those below r.
abbrev below : ℕ → ℕ → ℕ → ℕ
below a m r = min (r - a) m

below_ascends : (a m : ℕ) {r r' : ℕ} → r ≤ r' → below a m r ≤ below a m r'
below_ascends a m h = omega arith

-- Blocks of n² have the ranks 0, 1, 2 and 4, and blocks of n³ the ranks 3, 5 and 6. Rank r starts where those below it end; the state ends at rank 7.
edge : ℕ → ℕ → ℕ
edge n r = 1 + (below 0 3 r + below 4 1 r) * (n * n) + (below 3 1 r + below 5 2 r) * (n * n * n)

edge_ascends : (n : ℕ) {r r' : ℕ} → r ≤ r' → edge n r ≤ edge n r'
unfolding edge
edge_ascends n h =
    add-le-add
    (add-le-add (le_refl 1) (mul-le-mul_right (n * n) (add-le-add (below_ascends 0 3 h) (below_ascends 4 1 h))))
    (mul-le-mul_right (n * n * n) (add-le-add (below_ascends 3 1 h) (below_ascends 5 2 h)))

edge_starts : (n : ℕ) (t : Table) → edge n (rank t) ≡ start n t
unfolding edge start
edge_starts n Links = omega arith
edge_starts n Distances = omega arith
edge_starts n Downstreams = omega arith
edge_starts n Views = omega arith
edge_starts n Lengths = omega arith
edge_starts n Destinations = omega arith
edge_starts n Values = omega arith

edge_ends : (n : ℕ) (t : Table) → start n t + cells n t ≡ edge n (suc (rank t))
unfolding edge start
edge_ends n Links = omega arith
edge_ends n Distances = omega arith
edge_ends n Downstreams = omega arith
edge_ends n Views = omega arith
edge_ends n Lengths = omega arith
edge_ends n Destinations = omega arith
edge_ends n Values = omega arith

rank_lt : (t : Table) → rank t < 7
rank_lt Links = omega arith
rank_lt Distances = omega arith
rank_lt Downstreams = omega arith
rank_lt Views = omega arith
rank_lt Lengths = omega arith
rank_lt Destinations = omega arith
rank_lt Values = omega arith

-- Every block lies inside the state.
pub ends_inside : (n : ℕ) (t : Table) → start n t + cells n t ≤ size n
unfolding edge size
ends_inside n t = omega (arith, edge_ends n t, edge_ascends n (rank_lt t))

pub inside : (n : ℕ) (t : Table) {i : ℕ} → i < cells n t → start n t + i < size n
inside n t h = omega (arith, ends_inside n t)

-- Two blocks do not overlap.
pub ends_before : (n : ℕ) (t t' : Table) → rank t < rank t' → start n t + cells n t ≤ start n t'
ends_before n t t' h = rw (edge_ends n t, ← edge_starts n t') (edge_ascends n h)

pub apart : (n : ℕ) (t t' : Table) {i j : ℕ} → rank t ≢ rank t' → i < cells n t → j < cells n t' → start n t + i ≢ start n t' + j
apart n t t' {i} {j} f hi hj = go (dec_lt (rank t) (rank t'))
  where
    go : Dec (rank t < rank t') → start n t + i ≢ start n t' + j
    go (yes l) = omega (arith, ends_before n t t' l)
    go (no l) = omega (arith, ends_before n t' t (omega arith))

-- ---- reading and writing

pub length_put : (n : ℕ) (t : Table) (i x : ℕ) (s : List ℕ) → length (put n t i x s) ≡ length s
unfolding put
length_put n t i x s = length-set s (start n t + i) x

-- A buffer as long has room too.
pub room_as : {n : ℕ} {s s' : List ℕ} → length s' ≡ length s → Room n s → Room n s'
room_as e r = record { most = r.most; fits = omega arith }

pub room_put : {n : ℕ} (t : Table) (i x : ℕ) {s : List ℕ} → Room n s → Room n (put n t i x s)
room_put {n} t i x {s} r = room_as (length_put n t i x s) r

pub get_put_same : (n : ℕ) (t : Table) (i x : ℕ) (s : List ℕ) → Room n s → i < cells n t → get n t i (put n t i x s) ≡ x
unfolding get put
get_put_same n t i x s r h = get_or-set_same s (start n t + i) x 0 (omega (arith, inside n t h))

pub get_put_other : (n : ℕ) (t : Table) (i j x : ℕ) (s : List ℕ) → i ≢ j → get n t i (put n t j x s) ≡ get n t i s
unfolding get put
get_put_other n t i j x s f = get_or-set_other s (start n t + j) (start n t + i) x 0 (λ e. f (omega arith))

pub get_put_apart : (n : ℕ) (t t' : Table) (i j x : ℕ) (s : List ℕ) → rank t ≢ rank t' → i < cells n t → j < cells n t' → get n t i (put n t' j x s) ≡ get n t i s
unfolding get put
get_put_apart n t t' i j x s f hi hj = get_or-set_other s (start n t' + j) (start n t + i) x 0 (apart n t t' f hi hj)
