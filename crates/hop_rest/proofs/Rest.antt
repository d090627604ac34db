-- In a sound state at rest each distance is that of the shortest trail: its views are its neighbours' distances, so that they are right below every k up to n. So where no link has just one end up it has the true hop counts. Nothing here knows of downstreams. Assumes nothing.
use mathlib.Core.Path.{◌≡◌, refl, subst}
use Prim.Native.Nat.{ℕ, zero, suc, ◌-◌, ◌≤◌, ◌<◌}
use native.Mathlib.Decide.{ℕ_discrete, dec_lt}
use native.Mathlib.Omega.{arith}
use Rattle.hop_rule.specs.State.{State}
use Rattle.hop_rule.specs.Sound.{Sends}
use Rattle.hop_rule.specs.Notice.{EndsAgree}
use Rattle.hop_rest.specs.Walks.{Walk, HopCount, joined, apart}
use Rattle.hop_rest.specs.Rest.{AtRest}
use Rattle.hop_rest.specs.Right.{Right, ViewsRight}
use Rattle.hop_rest.specs.Delivered.{Over}
use Rattle.hop_rest.proofs.Walks.{walk_level}
use Rattle.hop_rest.proofs.Right.{walk_trail, trail_walk, right_none, distance_most, distance_own, distance_under, distance_right, view_heard}

module _ (g s : State) (o : Over g s) (rest : AtRest s) where
  pub rest_view : (u w v : ℕ) → u < g.n → w < g.n → v < g.n → Sends g w u → s.view u w v ≡ s.distance w v
  rest_view u w v lu lw lv q = view_heard g s o u w v lu lw lv q (λ m. rw (rest w u (omega arith) (omega arith)) at m)

  rest_views_right : (k : ℕ) → k ≤ g.n → ViewsRight g k s
  rest_views_right zero l = λ u w v lu lw lv q. right_none
  rest_views_right (suc k) l = λ u w v lu lw lv q. rw (rest_view u w v lu lw lv q) (distance_right g s o k l (rest_views_right k (omega arith)) w v lw lv)

  pub rest_right : (u v : ℕ) → u < g.n → v < g.n → Right g g.n (s.distance u v) u v
  rest_right u v lu lv = all (g.n - 1) (omega arith)
    where
      all : (k : ℕ) → suc k ≡ g.n → Right g g.n (s.distance u v) u v
      all k e = subst (λ (m : ℕ). Right g m (s.distance u v) u v) e (distance_right g s o k (omega arith) (rest_views_right k (omega arith)) u v lu lv)

  pub rest_hop_count : EndsAgree g → (u v : ℕ) → u < g.n → v < g.n → HopCount g u v (s.distance u v)
  rest_hop_count agree u v lu lv = go (dec_lt (s.distance u v) g.n)
    where
      r : Right g g.n (s.distance u v) u v
      r = rest_right u v lu lv

      low : (e : ℕ) → Walk g u v e → s.distance u v < g.n → Dec (e < g.n) → s.distance u v ≤ e
      low e p l (yes k) = r.least e k (walk_trail p)
      low e p l (no k) = omega arith

      falls : (x y : ℕ) → x < g.n → y < g.n → Sends g x y → Dec (x ≡ v) → s.distance x v ≤ suc (s.distance y v)
      falls x y lx ly q (yes e) = omega (arith, distance_own g s o x v lx lv e)
      falls x y lx ly q (no f) = omega (arith, distance_under g s o x y v lx ly lv f q.0, rest_view x y v lx ly lv (q.1, q.0))

      go : Dec (s.distance u v < g.n) → HopCount g u v (s.distance u v)
      go (yes l) = joined l (trail_walk agree (r.trail l)) (λ e p. low e p l (dec_lt e g.n))
      go (no f) =
          apart (omega (arith, distance_most g s o u v lu lv))
          (λ e p. f (walk_level g v lv (λ x. s.distance x v) (distance_own g s o v v lv lv refl) (λ x y lx ly q. falls x y lx ly q (ℕ_discrete x v)) p))
