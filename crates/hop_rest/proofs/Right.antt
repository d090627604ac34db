-- Laws of 'right below k': in a sound state views right below k give distances right below k + 1. And trails: where no link has just one end up they are walks. Nothing here knows of downstreams. Assumes nothing.
use mathlib.Core.Path.{◌≡◌, refl, sym, subst, ◌∙◌}
use mathlib.Core.Logic.{◌⊎◌, inl, inr, ◌≢◌}
use Prim.Native.Nat.{ℕ, suc, ◌≤◌, ◌<◌}
use native.Mathlib.Decide.{ℕ_discrete, dec_lt}
use native.Mathlib.Omega.{arith}
use Rattle.hop_rule.specs.State.{State}
use Rattle.hop_rule.specs.Rule.{least}
use Rattle.hop_rule.specs.Sound.{Linked, Sends, Waits, Sound}
use Rattle.hop_rule.specs.Notice.{EndsAgree}
use Rattle.hop_laws.proofs.Rule.{Attained, least_under, least_attained, distance_of_own, distance_of_other, distance_of_most}
use Rattle.hop_rest.specs.Walks.{Walk, here, hop}
use Rattle.hop_rest.specs.Right.{Trail, arrives, steps, trusts, Right, ViewsRight}
use Rattle.hop_rest.specs.Delivered.{Over}

-- ---- trails

-- A walk is a trail; and the other way round where the two ends of each link agree, as no node trusts a view then.
pub walk_trail : {s : State} {u v d : ℕ} → Walk s u v d → Trail s u v d
walk_trail here = arrives
walk_trail (hop lu lw q p) = steps lu lw q (walk_trail p)

pub trail_walk : {s : State} → EndsAgree s → {u v d : ℕ} → Trail s u v d → Walk s u v d
trail_walk agree arrives = here
trail_walk agree (steps lu lw q p) = hop lu lw q (trail_walk agree p)
trail_walk agree (trusts {u = u} {w = w} lu lw q f) = absurd (f (agree w u lw lu ∙ q))

-- A trail stays, or begins with a link with both ends up, or ends over one whose other end is down.
record Begins (s : State) (u v d : ℕ) : Type 0 where
  next : ℕ
  left : ℕ
  below : next < s.n
  sends : Sends s u next
  trail : Trail s next v left
  one_more : d ≡ suc left

record Trusted (s : State) (u v d : ℕ) : Type 0 where
  next : ℕ
  below : next < s.n
  linked : Linked s u next
  down : Linked s next u → ⊥
  long : d ≡ suc (s.view u next v)

trail_begins : {s : State} {u v d : ℕ} → Trail s u v d → (u ≡ v) ⊎ (Begins s u v d ⊎ Trusted s u v d)
trail_begins arrives = inl refl
trail_begins (steps {w = w} {d = d} lu lw q p) = inr (inl (record { next = w; left = d; below = lw; sends = q; trail = p; one_more = refl }))
trail_begins (trusts {w = w} lu lw q f) = inr (inr (record { next = w; below = lw; linked = q; down = f; long = refl }))

-- ---- right below k

pub right_none : {g : State} {a u v : ℕ} → Right g 0 a u v
right_none = record { trail = λ l. absurd (omega arith); least = λ e l p. absurd (omega arith) }

pub right_less : {g : State} {k a u v : ℕ} → Right g (suc k) a u v → Right g k a u v
right_less r = record { trail = λ l. r.trail (omega arith); least = λ e l p. r.least e (omega arith) p }

-- Two numbers that are right below k and at most k are one.
pub right_same : {g : State} {k a b u v : ℕ} → Right g k a u v → Right g k b u v → a ≤ k → b ≤ k → a ≡ b
right_same {k = k} {a = a} {b = b} r q la lb = go (dec_lt a k) (dec_lt b k)
  where
    go : Dec (a < k) → Dec (b < k) → a ≡ b
    go (yes x) (yes y) = omega (arith, r.least b y (q.trail y), q.least a x (r.trail x))
    go (yes x) (no y) = omega (arith, q.least a x (r.trail x))
    go (no x) (yes y) = omega (arith, r.least b y (q.trail y))
    go (no x) (no y) = omega arith

pub over_self : {s : State} → Sound s → Over s s
over_self o = record { sound = o; nodes = refl; links = λ u w lu lw. refl; trusted = λ u w v lu lw lv f. refl }

module _ (g s : State) (o : Over g s) where
  -- ---- what soundness says, over g

  pub distance_most : (u v : ℕ) → u < g.n → v < g.n → s.distance u v ≤ g.n
  distance_most u v lu lv = omega (arith, o.sound.distances u v (omega arith) (omega arith), distance_of_most s u v)

  distance_least : (u v : ℕ) → u < g.n → v < g.n → u ≢ v → s.distance u v ≡ least s u v s.n
  distance_least u v lu lv f = o.sound.distances u v (omega arith) (omega arith) ∙ distance_of_other s u v f

  pub distance_own : (u v : ℕ) → u < g.n → v < g.n → u ≡ v → s.distance u v ≡ 0
  distance_own u v lu lv e = o.sound.distances u v (omega arith) (omega arith) ∙ distance_of_own s u v e

  pub distance_under : (u w v : ℕ) → u < g.n → w < g.n → v < g.n → u ≢ v → Linked g u w → s.distance u v ≤ suc (s.view u w v)
  distance_under u w v lu lw lv f q = rw (distance_least u v lu lv f) (least_under s u v s.n w (omega arith) (o.links u w lu lw ∙ q))

  pub over_sends : (w u : ℕ) → w < g.n → u < g.n → Sends g w u → Sends s w u
  over_sends w u lw lu q = (o.links w u lw lu ∙ q.0, o.links u w lu lw ∙ q.1)

  pub sends_over : (w u : ℕ) → w < g.n → u < g.n → Sends s w u → Sends g w u
  sends_over w u lw lu q = (sym (o.links w u lw lu) ∙ q.0, sym (o.links u w lu lw) ∙ q.1)

  pub view_heard : (u w v : ℕ) → u < g.n → w < g.n → v < g.n → Sends g w u → (Waits v (s.queue w u) → ⊥) → s.view u w v ≡ s.distance w v
  view_heard u w v lu lw lv q f = o.sound.heard u w v (omega arith) (omega arith) (omega arith) (over_sends w u lw lu q) f

  -- ---- the step

  pub distance_right : (k : ℕ) → k < g.n → ViewsRight g k s → (u v : ℕ) → u < g.n → v < g.n → Right g (suc k) (s.distance u v) u v
  distance_right k lk h u v lu lv = go (ℕ_discrete u v)
    where
      go : Dec (u ≡ v) → Right g (suc k) (s.distance u v) u v
      go (yes e) = record {
        trail = λ l. rw (distance_own u v lu lv e, e) arrives;
        least = λ d l p. omega (arith, distance_own u v lu lv e);
      }
      go (no f) = record { trail = λ l. goes l (least_attained s u v s.n); least = λ d l p. low d l (trail_begins p) }
        where
          given : s.distance u v ≡ least s u v s.n
          given = distance_least u v lu lv f

          -- The neighbour that gives the distance has the other end up, and its view is right; or not, and its view is the one that is trusted.
          over : (w : ℕ) → w < g.n → Linked g u w → s.view u w v < k → Dec (Linked g w u) → Trail g u v (suc (s.view u w v))
          over w lw q l (yes r) = steps lu lw (q, r) ((h u w v lu lw lv (r, q)).trail l)
          over w lw q l (no r) = rw (o.trusted u w v lu lw lv r) (trusts lu lw q r)

          goes : s.distance u v < suc k → Attained s u v s.n (least s u v s.n) → Trail g u v (s.distance u v)
          goes l (inl e) = absurd (omega (arith, given))
          goes l (inr (w, lw, q, e)) =
              let lw' : w < g.n = omega arith in
              let q' : Linked g u w = sym (o.links u w lu lw') ∙ q in
              subst (Trail g u v) (sym (given ∙ e)) (over w lw' q' (omega (arith, given)) (ℕ_discrete (g.link w u) 1))

          low : (d : ℕ) → d < suc k → (u ≡ v) ⊎ (Begins g u v d ⊎ Trusted g u v d) → s.distance u v ≤ d
          low d l (inl e) = absurd (f e)
          low d l (inr (inl b)) =
              let q = b.sends in
              omega (arith, distance_under u b.next v lu b.below lv f q.0, (h u b.next v lu b.below lv (q.1, q.0)).least b.left (omega arith) b.trail, b.one_more)
          low d l (inr (inr t)) =
              omega (arith, distance_under u t.next v lu t.below lv f t.linked, o.trusted u t.next v lu t.below lv t.down, t.long)
