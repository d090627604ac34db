-- A pass makes views that are right below k right below k + 1, however its deliveries are mixed: what waits in front is still to come, and all else has been served. The last of n passes empties the queues. Assumes nothing.
use mathlib.Core.Path.{◌≡◌, ap}
use mathlib.Core.Logic.{inl, inr, ◌≢◌}
use mathlib.Core.List.{List, [], ◌∷◌}
use Prim.Native.Nat.{ℕ, suc, ◌≤◌, ◌<◌}
use native.Mathlib.Nat.{le_of_eq}
use native.Mathlib.Omega.{arith}
use lib.ListN.{length, take, drop_of_length-le}
use lib.Seq.{take_all}
use Rattle.hop_rule.specs.State.{State}
use Rattle.hop_rule.specs.Sound.{Sends, Waits}
use Rattle.hop_laws.proofs.Tests.{tells_eq, tells_and, decides}
use Rattle.hop_rest.specs.Orders.{Queue, count}
use Rattle.hop_rest.specs.Rest.{AtRest}
use Rattle.hop_rest.specs.Right.{Right, ViewsRight}
use Rattle.hop_rest.specs.Delivered.{Over, Delivered, Run, done, next, Covers}
use Rattle.hop_rest.proofs.Right.{right_less, right_same, distance_most, distance_right, view_heard}
use Rattle.hop_rest.proofs.Delivered.{destination_below, gave, grown_front, grown_quiet}
use Rattle.hop_rest.proofs.Runs.{count_at, count_other}

-- In the middle of a pass that began with views right below k, with qs still to come: a destination that is not in front of its queue has a view right below k + 1.
pub record Inside (g : State) (k : ℕ) (s : State) (qs : List Queue) : Type 0 where
  pub over : Over g s
  pub views : ViewsRight g k s
  pub served : (u w v : ℕ) → u < g.n → w < g.n → v < g.n → Sends g w u → (Waits v (take (count w u qs) (s.queue w u)) → ⊥) → Right g (suc k) (s.view u w v) w v

pub inside_start : (g : State) (k : ℕ) (s : State) (qs : List Queue) → k < g.n → Over g s → ViewsRight g k s → Covers g s qs → Inside g k s qs
inside_start g k s qs lk o h c = record {
  over = o;
  views = h;
  served = λ u w v lu lw lv q f.
      let all : take (count w u qs) (s.queue w u) ≡ s.queue w u = take_all (count w u qs) (s.queue w u) (c w u lw lu) in
      rw (view_heard g s o u w v lu lw lv q (λ m. f (rw all m))) (distance_right g s o k lk h w v lw lv);
}

module _ (g : State) (k : ℕ) (s t : State) (w u : ℕ) (qs : List Queue) (lk : k < g.n) (h : Inside g k s (record { sender = w; receiver = u } ∷ qs)) (d : Delivered g s w u t) where
  learnt_right : Right g (suc k) (t.view u w d.head.destination) w d.head.destination
  learnt_right = rw d.learnt (distance_right g s h.over k lk h.views w d.head.destination d.sender (destination_below g s w u t h.over d))

  -- What is not the view that was learnt and waited in front waits in front still.
  front : (a b c : ℕ) → a < g.n → b < g.n → (a ≡ u → b ≡ w → c ≢ d.head.destination)
      → Waits c (take (count b a (record { sender = w; receiver = u } ∷ qs)) (s.queue b a)) → Waits c (take (count b a qs) (t.queue b a))
  front a b c la lb f m = go (decides (tells_and (tells_eq b w) (tells_eq a u)))
    where
      go : Dec ((b ≡ w) × (a ≡ u)) → Waits c (take (count b a qs) (t.queue b a))
      go (yes p) =
          let m' : Waits c (take (suc (count b a qs)) (d.head ∷ t.queue b a)) = rw (count_at b a _ qs p.0 p.1, gave g s w u t h.over d b a p.0 p.1) at m in
          elim m' [ inl e ↦ absurd (f p.1 p.0 e) | inr x ↦ x ]
      go (no i) = grown_front g s w u t h.over d b a (count b a qs) c lb la (λ x y. i (x, y)) (rw (count_other b a _ qs (λ x y. i (x, y))) at m)

  pub inside_next : Inside g k t qs
  inside_next = record { over = d.recomputed; views = λ a b c la lb lc l. view a b c la lb lc l (cell a b c); served = λ a b c la lb lc l n. serve a b c la lb lc l n (cell a b c) }
    where
      cell : (a b c : ℕ) → Dec ((a ≡ u) × ((b ≡ w) × (c ≡ d.head.destination)))
      cell a b c = decides (tells_and (tells_eq a u) (tells_and (tells_eq b w) (tells_eq c d.head.destination)))

      view : (a b c : ℕ) → a < g.n → b < g.n → c < g.n → Sends g b a → Dec ((a ≡ u) × ((b ≡ w) × (c ≡ d.head.destination))) → Right g k (t.view a b c) b c
      view a b c la lb lc l (yes p) = rw (p.0, p.1.0, p.1.1) (right_less learnt_right)
      view a b c la lb lc l (no f) = rw (d.views a b c la lb lc (λ i j z. f (i, (j, z)))) (h.views a b c la lb lc l)

      serve : (a b c : ℕ) → a < g.n → b < g.n → c < g.n → Sends g b a → (Waits c (take (count b a qs) (t.queue b a)) → ⊥) → Dec ((a ≡ u) × ((b ≡ w) × (c ≡ d.head.destination)))
          → Right g (suc k) (t.view a b c) b c
      serve a b c la lb lc l n (yes p) = rw (p.0, p.1.0, p.1.1) learnt_right
      serve a b c la lb lc l n (no f) =
          rw (d.views a b c la lb lc (λ i j z. f (i, (j, z)))) (h.served a b c la lb lc l (λ m. n (front a b c la lb (λ i j z. f (i, (j, z))) m)))

inside_run : {g : State} {k : ℕ} {s t : State} {qs : List Queue} → k < g.n → Run g s qs t → Inside g k s qs → Inside g k t []
inside_run lk done h = h
inside_run {g} {k} lk (next {s = s} {t = t} {q = q} {qs = qs} d r) h = inside_run lk r (inside_next g k s t q.sender q.receiver qs lk h d)

-- A pass, and whatever covers the queues.
pub pass_views_right : {g : State} {k : ℕ} {s t : State} {qs : List Queue} → k < g.n → Over g s → ViewsRight g k s → Covers g s qs → Run g s qs t → Over g t × ViewsRight g (suc k) t
unfolding count
pass_views_right {g} {k} {s} {t} {qs} lk o h c r =
    let i = inside_run lk r (inside_start g k s qs lk o h c) in
    (i.over, λ u w v lu lw lv q. i.served u w v lu lw lv q (λ m. m))

-- ---- the last pass: no distance changes, so that nothing is sent and the queues run dry

covers_next : (g : State) (k : ℕ) (s t : State) (w u : ℕ) (qs : List Queue) → suc k ≡ g.n → Inside g k s (record { sender = w; receiver = u } ∷ qs) → Delivered g s w u t
    → Covers g s (record { sender = w; receiver = u } ∷ qs) → Covers g t qs
covers_next g k s t w u qs e h d c a b la lb = go (decides (tells_and (tells_eq a w) (tells_eq b u)))
  where
    o : Over g s
    o = h.over

    i : Inside g k t qs
    i = inside_next g k s t w u qs (le_of_eq e) h d

    x : ℕ
    x = d.head.destination

    lx : d.head.destination < g.n
    lx = destination_below g s w u t h.over d

    same : t.distance u d.head.destination ≡ s.distance u d.head.destination
    same =
        right_same (distance_right g t d.recomputed k (le_of_eq e) i.views u x d.receiver lx) (distance_right g s o k (le_of_eq e) h.views u x d.receiver lx)
        (omega (arith, distance_most g t d.recomputed u x d.receiver lx)) (omega (arith, distance_most g s o u x d.receiver lx))

    go : Dec ((a ≡ w) × (b ≡ u)) → length (t.queue a b) ≤ count a b qs
    go (yes p) = omega (arith, count_at a b (record { sender = w; receiver = u }) qs p.0 p.1, ap length (gave g s w u t o d a b p.0 p.1), c a b la lb)
    go (no f) = omega (arith, count_other a b (record { sender = w; receiver = u }) qs (λ y z. f (y, z)), ap length (grown_quiet g s w u t o d a b la lb (λ y z. f (y, z)) same), c a b la lb)

covers_run : {g : State} {k : ℕ} {s t : State} {qs : List Queue} → suc k ≡ g.n → Run g s qs t → Inside g k s qs → Covers g s qs → Covers g t []
covers_run e done h c = c
covers_run {g} {k} e (next {s = s} {t = t} {q = q} {qs = qs} d r) h c =
    covers_run e r (inside_next g k s t q.sender q.receiver qs (le_of_eq e) h d) (covers_next g k s t q.sender q.receiver qs e h d c)

pub last_pass_empties : {g : State} {k : ℕ} {s t : State} {qs : List Queue} → suc k ≡ g.n → Over g s → ViewsRight g k s → Covers g s qs → Run g s qs t → AtRest t
unfolding count
last_pass_empties {g} {k} {s} {t} {qs} e o h c r =
    let i = inside_start g k s qs (le_of_eq e) o h c in
    let j = inside_run (le_of_eq e) r i in
    λ w u lw lu. drop_of_length-le (t.queue w u) {i = 0} (covers_run e r i c w u (omega (arith, j.over.nodes)) (omega (arith, j.over.nodes)))
