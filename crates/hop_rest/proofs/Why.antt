-- R-3's reasons, of states: along the downstreams of a sound state at rest over links whose two ends agree the distance falls by one at each step, and a distance below n tells that a walk joins the two. Nothing here needs a downstream to be the lowest-numbered. Assumes nothing.
use mathlib.Core.Path.{◌≡◌, refl, sym, ap, subst, ◌∙◌}
use mathlib.Core.List.{List}
use Prim.Native.Nat.{ℕ, zero, suc, ◌≤◌, ◌<◌}
use native.Mathlib.Omega.{arith}
use lib.Dec.{ltb}
use lib.ListN.{length}
use Rattle.hop_rule.specs.State.{State}
use Rattle.hop_rule.specs.Sound.{Sends, Sound}
use Rattle.hop_rule.specs.Notice.{EndsAgree}
use Rattle.hop_rule.specs.Why.{along, joined_to, path, set, reason, shown}
use Rattle.hop_laws.proofs.Tests.{Tells, tells_false, choose_so, choose_else}
use Rattle.hop_laws.proofs.Why.{length_along, length_joined_to}
use Rattle.hop_rest.specs.Walks.{Walk, here, hop, HopCount, joined, apart}
use Rattle.hop_rest.specs.Rest.{AtRest, Settled}
use Rattle.hop_rest.specs.Why.{Chain, ends, goes, Falls, IsPath, In, Closed, IsSet, Explains, EveryReasonShows, SidesApart, PathsAreWalks, ClosedSetsPart}
use Rattle.hop_rest.proofs.Walks.{Reaches, reaches_on, reaches_back, walk_below, hop_count_same, hop_count_tells}
use Rattle.hop_rest.proofs.Right.{over_self, distance_own}
use Rattle.hop_rest.proofs.Downstreams.{rest_settled}
use Rattle.hop_rest.proofs.Chosen.{Chosen, chosen, one_left_out}

module _ (s : State) (o : Sound s) (rest : AtRest s) (agree : EndsAgree s) where
  settled : Settled s s
  settled = rest_settled s s (over_self o) rest agree

  -- ---- the path

  -- What holds at v, and goes on to hold from a downstream to its node, holds of each node and its distance to v.
  pub along_route : (v : ℕ) → v < s.n → (P : ℕ → ℕ → Type 0) → P v 0
      → ((u d : ℕ) → u < s.n → s.downstream u v < s.n → Sends s u (s.downstream u v) → s.distance u v ≡ suc d → P (s.downstream u v) d → P u (suc d))
      → (d u : ℕ) → u < s.n → d < s.n → s.distance u v ≡ d → P u d
  along_route v lv P own step zero u lu l e = go u (subst (HopCount s u v) e (settled.distances u v lu lv))
    where
      go : (x : ℕ) → HopCount s x v 0 → P x 0
      go x (joined b here k) = own
      go x (apart i f) = absurd (omega arith)
  along_route v lv P own step (suc d) u lu l e =
      let next = settled.next u v d lu lv l (subst (HopCount s u v) e (settled.distances u v lu lv)) in
      let near = hop_count_same (settled.distances (s.downstream u v) v next.below lv) next.nearer in
      step u d lu next.below next.linked e (along_route v lv P own step d (s.downstream u v) next.below (omega arith) near)

  module _ (u v : ℕ) (lu : u < s.n) (lv : v < s.n) where
    is_path : s.distance u v < s.n → ((d : ℕ) → Walk s u v d → s.distance u v ≤ d) → IsPath s u v (along s u v (s.distance u v))
    unfolding along
    is_path b least =
        let long = length_along s u v (s.distance u v) in
        record {
          chain = along_route v lv (λ x d. Chain s x v (along s x v d)) ends (λ x d lx lw q e h. goes lx lw q h) _ u lu b refl;
          falls = along_route v lv (λ x d. Falls s v (along s x v d)) (distance_own s s (over_self o) v v lv lv refl, tt) (λ x d lx lw q e h. (e ∙ sym (length_along s (s.downstream x v) v d), h)) _ u lu b refl;
          long = long;
          shortest = λ d p. omega (arith, long, least d p);
        }

    -- ---- the set

    -- Where a walk leads the distance is below n, and nowhere else.
    reach_tells : (x : ℕ) → x < s.n → Tells (ltb (s.distance u x) s.n) (Reaches s u x)
    reach_tells x lx = hop_count_tells (settled.distances u x lu lx)

    members : Chosen (Reaches s u) s.n (joined_to s u)
    unfolding joined_to
    members = chosen (λ x. ltb (s.distance u x) s.n) s.n reach_tells

    fewer : (Reaches s u v → ⊥) → length (joined_to s u) < s.n
    unfolding joined_to
    fewer far = one_left_out (λ x. ltb (s.distance u x) s.n) s.n v lv (tells_false (reach_tells v lv) far)

    is_set : (Reaches s u v → ⊥) → IsSet s u v (joined_to s u)
    is_set far = record {
      ascends = members.ascends;
      below = λ x i. (members.only x i).0;
      reached = λ x i. (members.only x i).1;
      holds = holds;
      itself = holds u 0 here;
      outside = λ i. far (members.only v i).1;
      fewer = fewer far;
      closed = λ x y i ly q. let (lx, (d, p)) = members.only x i in let (e, k) = reaches_on p (1, hop lx ly q here) in holds y e k;
    }
      where
        holds : (x d : ℕ) → Walk s u x d → In x (joined_to s u)
        holds x d p = members.all x (walk_below p lu) (d, p)

    -- ---- the reason

    reason_path : Reaches s u v → reason s u v ≡ path (along s u v (s.distance u v))
    unfolding reason
    reason_path r = choose_so (reach_tells v lv) _ _ r

    reason_set : (Reaches s u v → ⊥) → reason s u v ≡ set (joined_to s u)
    unfolding reason
    reason_set f = choose_else (reach_tells v lv) _ _ f

    explains : Explains s u v
    unfolding shown
    explains = go (settled.distances u v lu lv)
      where
        go : HopCount s u v (s.distance u v) → Explains s u v
        go (joined b p least) =
            let e = reason_path (s.distance u v, p) in
            record {
              shows = rw e (is_path b least);
              routed = λ d q. (along s u v (s.distance u v), e);
              parted = λ f. absurd (f (s.distance u v) p);
              most = rw e (omega (arith, length_along s u v (s.distance u v)));
            }
        go (apart i f) =
            let e = reason_set (λ r. f r.0 r.1) in
            record {
              shows = rw e (is_set (λ r. f r.0 r.1));
              routed = λ d q. absurd (f d q);
              parted = λ g. (joined_to s u, e);
              most = rw e (length_joined_to s u);
            }

pub reasons_show : EveryReasonShows
reasons_show s o rest agree u v lu lv = explains s o rest agree u v lu lv

-- A walk can be gone back, so one that leads from v to u, or from both to one node, would join u and v.
pub sides_apart : SidesApart
sides_apart s o rest agree u v lu lv l e =
    let this : IsSet s u v l = rw e at (explains s o rest agree u v lu lv).shows in
    let apart : (d : ℕ) → Walk s v u d → ⊥ = λ d p. let (k, w) = reaches_back p in this.outside (this.holds v k w) in
    let (m, f) = (explains s o rest agree v u lv lu).parted apart in
    let other : IsSet s v u m = rw f at (explains s o rest agree v u lv lu).shows in
    (m, f, λ x i j. let (d, p) = this.reached x i in let (k, w) = reaches_on p (reaches_back (other.reached x j).1) in this.outside (this.holds v k w))

-- ---- what the links alone show

chain_walk : {s : State} {u v : ℕ} {l : List ℕ} → Chain s u v l → (d : ℕ) × (length l ≡ suc d) × Walk s u v d
chain_walk ends = (0, refl, here)
chain_walk (goes lu lw q h) = let (d, e, p) = chain_walk h in (suc d, ap suc e, hop lu lw q p)

pub paths_are_walks : PathsAreWalks
paths_are_walks s u v d l h long = let (k, e, p) = chain_walk h in subst (Walk s u v) (omega (arith, e, long)) p

-- A walk stays in a set that no up link leaves.
within : (s : State) (l : List ℕ) → Closed s l → {u v d : ℕ} → Walk s u v d → In u l → In v l
within s l c here i = i
within s l c (hop {u = u} {w = w} lu lw q p) i = within s l c p (c u w i lw q)

pub closed_sets_part : ClosedSetsPart
closed_sets_part s l c u v inside outside d p = outside (within s l c p inside)
