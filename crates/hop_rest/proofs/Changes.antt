-- R-1's sums over two tables of distances: what they depend on, how they compare, and how large they are. Assumes nothing.
use mathlib.Core.Path.{◌≡◌, refl, sym, ap}
use mathlib.Core.Logic.{◌⊎◌, inl, inr}
use mathlib.Core.Bool.{Bool, true, false, cond, not, ◌&&◌}
use Prim.Native.Nat.{ℕ, zero, suc, zero-le, ◌+◌, ◌*◌, ◌-◌, ◌≤◌, ◌<◌}
use native.Mathlib.Nat.{le_refl, le_trans, le_of_eq}
use native.Mathlib.Decide.{dec_lt}
use native.Mathlib.Omega.{arith}
use lib.Dec.{ltb, le→leb, lt→ltb}
use lib.IntN.{ℤ, pos, nat_abs, ◌-ℤ◌}
use lib.Signed.{◌≤ℤ◌, ◌<ℤ◌, le_z_yes, lt_z_yes}
use borrow.Author.Tests.{lt-ltb, le-ltb}
use Rattle.hop_rule.specs.Route.{routed}
use Rattle.hop_rule.specs.Worth.{over, lost, hops, change}
use Rattle.hop_laws.proofs.Tests.{Tells, tells_lt, tells_not, tells_and, tells_not_so, choose_so, choose_else}
use Rattle.hop_laws.proofs.Words.{sum_same, sum_less, sum_below, sum_at, sum_most, sum_zero}
use Rattle.hop_rest.specs.Worth.{parted}

-- ---- sums over ordered pairs

module _ (n : ℕ) (f g : ℕ → ℕ → ℕ) where
  over_same : ((u v : ℕ) → u < n → v < n → f u v ≡ g u v) → over n f ≡ over n g
  over_same h = sum_same n _ _ (λ u lu. sum_same n _ _ (λ v lv. h u v lu lv))

  over_less : ((u v : ℕ) → u < n → v < n → f u v ≤ g u v) → over n f ≤ over n g
  over_less h = sum_less n _ _ (λ u lu. sum_less n _ _ (λ v lv. h u v lu lv))

  -- One pair with less, and none with more, is enough.
  over_below : ((u v : ℕ) → u < n → v < n → f u v ≤ g u v) → (u v : ℕ) → u < n → v < n → f u v < g u v → over n f < over n g
  over_below h u v lu lv b = sum_below n _ _ (λ x lx. sum_less n _ _ (λ y ly. h x y lx ly)) u lu (sum_below n _ _ (λ y ly. h u y lu ly) v lv b)

module _ (n : ℕ) (f : ℕ → ℕ → ℕ) where
  over_most : (c : ℕ) → ((u v : ℕ) → f u v ≤ c) → over n f ≤ n * n * c
  over_most c h = let all : over n f ≤ n * (n * c) = sum_most n (n * c) _ (λ u lu. sum_most n c _ (λ v lv. h u v)) in omega (arith, all)

  over_at : (u v : ℕ) → u < n → v < n → f u v ≤ over n f
  over_at u v lu lv = le_trans (sum_at n (f u) v lv) (sum_at n _ u lu)

  over_zero : ((u v : ℕ) → u < n → v < n → f u v ≡ 0) → over n f ≡ 0
  over_zero h = sum_zero n _ (λ u lu. sum_zero n _ (λ v lv. h u v lu lv))

-- What is counted for a pair, or 0: at most c where it is at most c, and no more where another test passes too.
cond_most : {b : Bool} {P : Type 0} → Tells b P → (x c : ℕ) → (P → x ≤ c) → cond b x 0 ≤ c
cond_most {b = true} t x c h = h (t.shows refl)
cond_most {b = false} t x c h = zero-le

cond_less : {b c : Bool} {P Q : Type 0} → Tells b P → Tells c Q → (P → Q) → (x y : ℕ) → (P → x ≤ y) → cond b x 0 ≤ cond c y 0
cond_less {b = false} s t f x y l = zero-le
cond_less {b = true} {c = true} s t f x y l = l (s.shows refl)
cond_less {b = true} {c = false} s t f x y l = absurd (tells_not_so t refl (f (s.shows refl)))

cond_below : {b c : Bool} {P Q : Type 0} → Tells b P → Tells c Q → P → Q → (x y : ℕ) → x < y → cond b x 0 < cond c y 0
cond_below s t p q x y l = rw (choose_so s x 0 p, choose_so t y 0 q) l

-- ---- a difference of two sums

either : (P : ℤ → Type 0) (b : Bool) {x y : ℤ} → P x → P y → P (cond b x y)
either P true h k = h
either P false h k = k

pub difference_not_below : (a b : ℕ) → b ≤ a → pos 0 ≤ℤ (pos a -ℤ pos b)
difference_not_below a zero l = le_z_yes (le→leb 0 (a + 0) (omega arith))
difference_not_below a (suc b) l = rw (le-ltb a (suc b) l) (le_z_yes (le→leb 0 (a - suc b) (omega arith)))

pub difference_not_above : (a b : ℕ) → a ≤ b → (pos a -ℤ pos b) ≤ℤ pos 0
difference_not_above a zero l = le_z_yes (le→leb (a + 0) 0 (omega arith))
difference_not_above a (suc b) l = either (λ z. z ≤ℤ pos 0) (ltb a (suc b)) (le_z_yes tt) (le_z_yes (le→leb (a - suc b) 0 (omega arith)))

difference_above : (a b : ℕ) → b < a → pos 0 <ℤ (pos a -ℤ pos b)
difference_above a zero l = lt_z_yes (lt→ltb 0 (a + 0) (omega arith))
difference_above a (suc b) l = rw (le-ltb a (suc b) (omega arith)) (lt_z_yes (lt→ltb 0 (a - suc b) (omega arith)))

difference_below : (a b : ℕ) → a < b → (pos a -ℤ pos b) <ℤ pos 0
difference_below a zero l = absurd (omega arith)
difference_below a (suc b) l = rw (lt-ltb a (suc b) l) (lt_z_yes tt)

difference_none : (a b : ℕ) → a ≡ b → pos a -ℤ pos b ≡ pos 0
difference_none a zero e = ap pos (omega arith)
difference_none a (suc b) e = rw (le-ltb a (suc b) (omega arith)) (ap pos (omega arith))

difference_most : (a b c : ℕ) → a ≤ c → b ≤ c → nat_abs (pos a -ℤ pos b) ≤ c
difference_most a zero c l k = omega arith
difference_most a (suc b) c l k = either (λ z. nat_abs z ≤ c) (ltb a (suc b)) (omega arith) (omega arith)

-- ---- two tables

module _ (n : ℕ) (d e : ℕ → ℕ → ℕ) where
  tells_lost : (u v : ℕ) → Tells (routed n (d u v) && not (routed n (e u v))) ((d u v < n) × (e u v < n → ⊥))
  tells_lost u v = tells_and (tells_lt (d u v) n) (tells_not (tells_lt (e u v) n))

  tells_both : (u v : ℕ) → Tells (routed n (d u v) && routed n (e u v)) ((d u v < n) × (e u v < n))
  tells_both u v = tells_and (tells_lt (d u v) n) (tells_lt (e u v) n)

  -- One pair is enough.
  pub lost_some : (u v : ℕ) → u < n → v < n → d u v < n → (e u v < n → ⊥) → 0 < lost n d e
  unfolding lost
  lost_some u v lu lv l f = le_trans (le_of_eq (sym (choose_so (tells_lost u v) 1 0 (l, f)))) (over_at n _ u v lu lv)

-- The tables d and e have the same numbers below n; e has none larger than d, so that it has d's routes, and none that is longer.
abbrev pub Agree : ℕ → (ℕ → ℕ → ℕ) → (ℕ → ℕ → ℕ) → Type 0
Agree n d e = (u v : ℕ) → u < n → v < n → d u v ≡ e u v

abbrev pub NoLarger : ℕ → (ℕ → ℕ → ℕ) → (ℕ → ℕ → ℕ) → Type 0
NoLarger n d e = (u v : ℕ) → u < n → v < n → e u v ≤ d u v

abbrev pub Keeps : ℕ → (ℕ → ℕ → ℕ) → (ℕ → ℕ → ℕ) → Type 0
Keeps n d e = (u v : ℕ) → u < n → v < n → d u v < n → e u v < n

abbrev pub NoLonger : ℕ → (ℕ → ℕ → ℕ) → (ℕ → ℕ → ℕ) → Type 0
NoLonger n d e = (u v : ℕ) → u < n → v < n → d u v < n → e u v < n → e u v ≤ d u v

pub keeps : {n : ℕ} {d e : ℕ → ℕ → ℕ} → NoLarger n d e → Keeps n d e
keeps h u v lu lv l = omega (arith, h u v lu lv)

pub no_longer : {n : ℕ} {d e : ℕ → ℕ → ℕ} → NoLarger n d e → NoLonger n d e
no_longer h u v lu lv l k = h u v lu lv

module _ (n : ℕ) (d e : ℕ → ℕ → ℕ) where
  -- Lost looks at the routes of both tables, and at nothing else.
  pub lost_parted : (before after : ℕ → ℕ → Bool) → ((u v : ℕ) → u < n → v < n → routed n (d u v) ≡ before u v) → ((u v : ℕ) → u < n → v < n → routed n (e u v) ≡ after u v)
      → lost n d e ≡ parted n before after
  unfolding lost
  lost_parted before after h k = over_same n _ _ (λ u v lu lv. rw (h u v lu lv, k u v lu lv))

  pub lost_same : (d' e' : ℕ → ℕ → ℕ) → Agree n d d' → Agree n e e' → lost n d e ≡ lost n d' e'
  unfolding lost
  lost_same d' e' h k = lost_parted (λ u v. routed n (d' u v)) (λ u v. routed n (e' u v)) (λ u v lu lv. rw (h u v lu lv)) (λ u v lu lv. rw (k u v lu lv))

  hops_same : (d' e' : ℕ → ℕ → ℕ) → Agree n d d' → Agree n e e' → hops n d e ≡ hops n d' e'
  unfolding hops
  hops_same d' e' h k = over_same n _ _ (λ u v lu lv. rw (h u v lu lv, k u v lu lv))

  pub lost_most : lost n d e ≤ n * n
  unfolding lost
  lost_most = omega (arith, over_most n _ 1 (λ u v. cond_most (tells_lost n d e u v) 1 1 (λ p. le_refl 1)))

  hops_most : hops n d e ≤ n * n * n
  unfolding hops
  hops_most = over_most n _ n (λ u v. cond_most (tells_both n d e u v) (d u v) n (λ p. omega (arith, p.0)))

  pub lost_none : Keeps n d e → lost n d e ≡ 0
  unfolding lost
  lost_none h = over_zero n _ (λ u v lu lv. choose_else (tells_lost n d e u v) _ _ (λ p. p.1 (h u v lu lv p.0)))

  -- What a pair adds to the hops.
  pair_less : NoLonger n d e → (u v : ℕ) → u < n → v < n → cond (routed n (e u v) && routed n (d u v)) (e u v) 0 ≤ cond (routed n (d u v) && routed n (e u v)) (d u v) 0
  pair_less h u v lu lv = cond_less (tells_both n e d u v) (tells_both n d e u v) (λ p. (p.1, p.0)) _ _ (λ p. h u v lu lv p.1 p.0)

  pub hops_less : NoLonger n d e → hops n e d ≤ hops n d e
  unfolding hops
  hops_less h = over_less n _ _ (pair_less h)

  -- One number smaller, of a route: it was none before, or all hops together are fewer.
  pub smaller_shows : NoLonger n d e → (u v : ℕ) → u < n → v < n → e u v < n → e u v < d u v → (0 < lost n e d) ⊎ (hops n e d < hops n d e)
  unfolding hops
  smaller_shows h u v lu lv l b = go (dec_lt (d u v) n)
    where
      go : Dec (d u v < n) → (0 < lost n e d) ⊎ (hops n e d < hops n d e)
      go (yes r) = inr (over_below n _ _ (pair_less h) u v lu lv (cond_below (tells_both n e d u v) (tells_both n d e u v) (l, r) (r, l) _ _ b))
      go (no f) = inl (lost_some n e d u v lu lv l f)

module _ (n : ℕ) (d e : ℕ → ℕ → ℕ) where
  pub change_same : (d' e' : ℕ → ℕ → ℕ) → Agree n d d' → Agree n e e' → change n d e ≡ change n d' e'
  unfolding change
  change_same d' e' h k = rw (hops_same n d e d' e' h k, hops_same n e d e' d' k h)

  pub change_most : nat_abs (change n d e) ≤ n * n * n
  unfolding change
  change_most = difference_most (hops n e d) (hops n d e) (n * n * n) (hops_most n e d) (hops_most n d e)

  -- Where e is nowhere longer the change from d to e is not above zero, and back it is not below.
  pub change_not_above : NoLonger n d e → change n d e ≤ℤ pos 0
  unfolding change
  change_not_above h = difference_not_above (hops n e d) (hops n d e) (hops_less n d e h)

  pub change_not_below : NoLonger n d e → pos 0 ≤ℤ change n e d
  unfolding change
  change_not_below h = difference_not_below (hops n d e) (hops n e d) (hops_less n d e h)

  -- Fewer hops are a change below zero, more one above, and as many none.
  pub change_below : hops n e d < hops n d e → change n d e <ℤ pos 0
  unfolding change
  change_below l = difference_below (hops n e d) (hops n d e) l

  pub change_above : hops n d e < hops n e d → pos 0 <ℤ change n d e
  unfolding change
  change_above l = difference_above (hops n e d) (hops n d e) l

  pub change_none : hops n e d ≡ hops n d e → change n d e ≡ pos 0
  unfolding change
  change_none i = difference_none (hops n e d) (hops n d e) i
