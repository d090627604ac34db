-- The path of a stored state, one hop on; and at rest, where no link has just one end up, each node of it is below n. Assumes nothing.
use mathlib.Core.Path.{◌≡◌, refl, ap}
use mathlib.Core.Bool.{true, false}
use mathlib.Core.List.{List, [], ◌∷◌}
use Prim.Native.Nat.{ℕ, zero, suc, ◌+◌, ◌-◌, ◌≤◌, ◌<◌}
use native.Mathlib.Numerals.{add-one, sub-one}
use native.Mathlib.Omega.{arith}
use lib.ListN.{set}
use lib.Seq.{sets}
use borrow.Author.Tests.{lt-ltb, le-ltb}
use Rattle.hop_rule.specs.State.{State}
use Rattle.hop_rule.specs.Route.{route, routed}
use Rattle.hop_rule.specs.Sound.{Sound}
use Rattle.hop_rule.specs.Notice.{EndsAgree}
use Rattle.hop_rule.specs.Why.{along}
use Rattle.hop_rest.specs.Rest.{AtRest}
use Rattle.hop_rest.proofs.Why.{along_route}
use Rattle.hop_why.specs.Writing.{Stays}

-- Whether a distance that is read is below n is whether there is a route.
module _ (n : ℕ) (s : State) (u v : ℕ) {d : ℕ} (at : d ≡ (route s u v).distance) where
  pub route_so : d < n → routed n (route s u v).distance ≡ true
  route_so l = lt-ltb _ n (rw (← at) l)

  pub route_not : n ≤ d → routed n (route s u v).distance ≡ false
  route_not l = le-ltb _ n (rw (← at) l)

module _ (s : State) (u v : ℕ) where
  pub here_below : (h : ℕ) → Stays s u v h → u < s.n
  unfolding Stays
  here_below zero i = i
  here_below (suc h) i = i.0

  -- With a hop to go.
  pub next_inside : (h : ℕ) → 0 < h → Stays s u v h → Stays s (s.downstream u v) v (h - 1)
  unfolding Stays
  next_inside zero l i = absurd (omega arith)
  next_inside (suc h) l i = rw sub-one i.1

  path_goes : (h : ℕ) → 0 < h → along s u v h ≡ u ∷ along s (s.downstream u v) v (h - 1)
  unfolding along
  path_goes zero l = absurd (omega arith)
  path_goes (suc h) l = rw sub-one

  -- With none.
  path_ends : (h : ℕ) → h ≤ 0 → along s u v h ≡ u ∷ []
  unfolding along
  path_ends zero l = refl
  path_ends (suc h) l = absurd (omega arith)

-- What is written: behind the node the path from its downstream, or the node alone.
module _ (s : State) (u v h : ℕ) (list : List ℕ) (at : ℕ) where
  pub path_more : 0 < h → sets list at (along s u v h) ≡ sets (set list at u) (at + 1) (along s (s.downstream u v) v (h - 1))
  path_more l = rw (path_goes s u v h l, add-one at)

  pub path_one : h ≤ 0 → sets list at (along s u v h) ≡ set list at u
  path_one l = ap (sets list at) (path_ends s u v h l)

-- Along the downstreams of such a state there are nodes only.
pub rest_inside : (s : State) → Sound s → AtRest s → EndsAgree s → (u v : ℕ) → u < s.n → v < s.n → s.distance u v < s.n → Stays s u v (s.distance u v)
unfolding Stays
rest_inside s o rest agree u v lu lv l = along_route s o rest agree v lv (λ x d. Stays s x v d) lv (λ x d lx lw q e h. (lx, h)) _ u lu l refl
