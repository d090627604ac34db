-- What is counted place by place is what R-1 counts over ordered pairs; and a running signed sum with one difference more is the difference of the longer sums. Assumes nothing.
use mathlib.Core.Path.{◌≡◌, refl, sym, ap, subst, ◌∙◌}
use mathlib.Core.Bool.{Bool, true, false, cond, ◌&&◌}
use mathlib.Core.List.{List}
use Prim.Native.Nat.{ℕ, zero, suc, ◌+◌, ◌*◌, ◌<◌, ◌≤◌}
use native.Mathlib.Nat.{le_trans}
use native.Mathlib.Omega.{arith}
use lib.Dec.{ltb}
use lib.IntN.{ℤ, pos, negsuc, nat_abs, neg_ℤ, ◌+ℤ◌, ◌-ℤ◌, +ℤ_assoc, +ℤ_comm, neg_ℤ-+ℤ}
use lib.Signed.{mag}
use mir.Syntax.{w32}
use mir.Val.{SFits, to_z, of_z}
use mir.ValLaws.{to_z-of_z}
use Rattle.hop_rule.specs.declared.Table.TheVariants.{Distances}
use Rattle.hop_rule.specs.Words.{sum}
use Rattle.hop_rule.specs.Stored.{flat}
use Rattle.hop_rule.specs.Worth as worth
use Rattle.hop_laws.proofs.Tests.{tells_lt, tells_and}
use Rattle.hop_laws.proofs.Words.{sum_none, sum_most, sum_rows}
use Rattle.hop_cells.specs.Cells.{get}
use Rattle.hop_cells.proofs.Chains.{passing_most}
use Rattle.hop_cells.proofs.Loops.{sum_turn}
use Rattle.hop_changes.specs.Changes.{lost_at, hops_at}

module _ (n : ℕ) (s t : List ℕ) where
  -- ---- all places are all ordered pairs

  pub lost_all : sum (n * n) (lost_at n s t) ≡ worth.lost n (flat n s Distances) (flat n t Distances)
  unfolding lost_at worth.lost flat get
  lost_all = sum_rows n n (lost_at n s t)

  -- At most one each.
  pub lost_most : (k : ℕ) → sum k (lost_at n s t) ≤ k
  unfolding lost_at
  lost_most k = passing_most k _

  pub hops_all : sum (n * n) (hops_at n s t) ≡ worth.hops n (flat n s Distances) (flat n t Distances)
  unfolding hops_at worth.hops flat get
  hops_all = sum_rows n n (hops_at n s t)

  -- The hops at a place, where both are routes and where not.
  pub hops_both : (i : ℕ) → ltb (get n Distances i s) n && ltb (get n Distances i t) n ≡ true → hops_at n s t i ≡ get n Distances i s
  unfolding hops_at
  hops_both i h = rw h

  pub hops_not : (i : ℕ) → ltb (get n Distances i s) n && ltb (get n Distances i t) n ≡ false → hops_at n s t i ≡ 0
  unfolding hops_at
  hops_not i h = rw h

  pub hops_most : n ≤ 40 → (i : ℕ) → hops_at n s t i ≤ 40
  hops_most l i = go (ltb (get n Distances i s) n && ltb (get n Distances i t) n) refl
    where
      go : (x : Bool) → ltb (get n Distances i s) n && ltb (get n Distances i t) n ≡ x → hops_at n s t i ≤ 40
      go true h = let b = (tells_and (tells_lt _ n) (tells_lt _ n)).shows h in omega (arith, hops_both i h, b.0)
      go false h = omega (arith, hops_not i h)

  hops_sum : n ≤ 40 → (k : ℕ) → k ≤ 1600 → sum k (hops_at n s t) ≤ 64000
  hops_sum l k m = le_trans (sum_most k 40 _ (λ i b. hops_most l i)) (omega (arith, m))

-- ---- differences, at 32 bits

either : (P : ℤ → Type 0) (b : Bool) {x y : ℤ} → P x → P y → P (cond b x y)
either P true h k = h
either P false h k = k

diff_fits : (x y : ℕ) → x ≤ 64000 → y ≤ 64000 → SFits w32 (pos x -ℤ pos y)
diff_fits x zero l k = record { sfits = omega arith }
diff_fits x (suc y) l k = record { sfits = either (λ z. mag z < 2147483648) (ltb x (suc y)) (omega arith) (omega arith) }

-- A signed number that goes through 32 bits.
pub signed_kept : (z : ℤ) → nat_abs z ≤ 64000 → to_z w32 (of_z w32 z) ≡ z
signed_kept (pos k) l = to_z-of_z w32 (pos k) (record { sfits = omega (arith, l) })
signed_kept (negsuc k) l = to_z-of_z w32 (negsuc k) (record { sfits = omega (arith, l) })

-- A byte does.
pub byte_kept : {z : ℤ} {k : ℕ} → z ≡ pos k → k ≤ 64000 → to_z w32 (of_z w32 z) ≡ pos k
byte_kept {k = k} e l = ap (λ (x : ℤ). to_z w32 (of_z w32 x)) e ∙ signed_kept (pos k) l

and_back : (b c : Bool) → b && c ≡ c && b
and_back true true = refl
and_back true false = refl
and_back false true = refl
and_back false false = refl

-- One place, by the bytes that the code compares: where both are routes, and where not.
module _ (n : ℕ) (s t : List ℕ) (i : ℕ) {m b a : ℕ} (em : m ≡ n) (eb : b ≡ get n Distances i s) (ea : a ≡ get n Distances i t) where
  -- The same test, in the order of either side.
  tested : {x : Bool} → ltb a m && ltb b m ≡ x → (ltb (get n Distances i t) n && ltb (get n Distances i s) n ≡ x) × (ltb (get n Distances i s) n && ltb (get n Distances i t) n ≡ x)
  tested h =
      let one = rw (em, ea, eb) at h in
      (one, and_back (ltb (get n Distances i s) n) (ltb (get n Distances i t) n) ∙ one)

  -- z is the difference that was taken.
  pub change_one : n ≤ 40 → ltb a m && ltb b m ≡ true → {z : ℤ} → z ≡ pos a -ℤ pos b → to_z w32 (of_z w32 z) ≡ pos (hops_at n t s i) -ℤ pos (hops_at n s t i)
  change_one few h {z} e =
      let (la, lb) = (tells_and (tells_lt a m) (tells_lt b m)).shows h in
      let fits = diff_fits a b (omega (arith, la, em)) (omega (arith, lb, em)) in
      let (after, before) = tested h in
      to_z-of_z w32 z (subst (SFits w32) (sym e) fits) ∙ e ∙ rw (hops_both n t s i after, hops_both n s t i before, ea, eb)

  pub change_one_none : ltb a m && ltb b m ≡ false → pos 0 ≡ pos (hops_at n t s i) -ℤ pos (hops_at n s t i)
  change_one_none h = let (after, before) = tested h in rw (hops_not n t s i after, hops_not n s t i before) refl

-- Sums of differences are differences of sums.
add_diff : (a b x y : ℕ) → (pos a -ℤ pos b) +ℤ (pos x -ℤ pos y) ≡ pos (a + x) -ℤ pos (b + y)
add_diff a b x y =
    +ℤ_assoc (pos a) minus_b (pos x -ℤ pos y)
    ∙ ap (λ (z : ℤ). pos a +ℤ z) (sym (+ℤ_assoc minus_b (pos x) minus_y) ∙ ap (λ (z : ℤ). z +ℤ minus_y) (+ℤ_comm minus_b (pos x)) ∙ +ℤ_assoc (pos x) minus_b minus_y)
    ∙ sym (+ℤ_assoc (pos a) (pos x) (minus_b +ℤ minus_y))
    ∙ ap (λ (z : ℤ). pos (a + x) +ℤ z) (sym (neg_ℤ-+ℤ (pos b) (pos y)))
  where
    minus_b : ℤ
    minus_b = neg_ℤ (pos b)

    minus_y : ℤ
    minus_y = neg_ℤ (pos y)

-- The change over the first k places.
module _ (n : ℕ) (s t : List ℕ) where
  abbrev pub change_to : ℕ → ℤ
  change_to k = pos (sum k (hops_at n t s)) -ℤ pos (sum k (hops_at n s t))

  pub change_none : to_z w32 0 ≡ change_to 0
  change_none = rw (sum_none (hops_at n t s), sum_none (hops_at n s t)) refl

  pub change_all : change_to (n * n) ≡ worth.change n (flat n s Distances) (flat n t Distances)
  unfolding worth.change
  change_all = rw (hops_all n t s, hops_all n s t)

  -- One place more: r holds the sum so far, and z is what is added.
  module _ (few : n ≤ 40) (k : ℕ) (l : k < 1600) (r : ℕ) (z : ℤ) (so : to_z w32 r ≡ change_to k) (one : z ≡ pos (hops_at n t s k) -ℤ pos (hops_at n s t k)) where
    is : to_z w32 r +ℤ to_z w32 (of_z w32 z) ≡ change_to (k + 1)
    is =
        let fits = diff_fits (hops_at n t s k) (hops_at n s t k) (le_trans (hops_most n t s few k) (omega arith)) (le_trans (hops_most n s t few k) (omega arith)) in
        let added : to_z w32 (of_z w32 z) ≡ pos (hops_at n t s k) -ℤ pos (hops_at n s t k) = to_z-of_z w32 z (subst (SFits w32) (sym one) fits) ∙ one in
        rw (so, added, add_diff (sum k (hops_at n t s)) (sum k (hops_at n s t)) (hops_at n t s k) (hops_at n s t k), sum_turn k (hops_at n t s) refl refl, sum_turn k (hops_at n s t) refl refl)

    pub change_fits : SFits w32 (to_z w32 r +ℤ to_z w32 (of_z w32 z))
    change_fits = subst (SFits w32) (sym is) (diff_fits _ _ (hops_sum n t s few (k + 1) (omega arith)) (hops_sum n s t few (k + 1) (omega arith)))

    pub change_turn : to_z w32 (of_z w32 (to_z w32 r +ℤ to_z w32 (of_z w32 z))) ≡ change_to (k + 1)
    change_turn = to_z-of_z w32 _ change_fits ∙ is
