-- The rule's `deliver` is a delivery as `Delivered` has it; and what follows from the parts: what waits in front stays in front, no other queue gets shorter, and it stays if no distance changed. Assumes nothing.
use mathlib.Core.Path.{◌≡◌, refl, sym, ap, subst, ◌∙◌}
use mathlib.Core.Logic.{◌⊎◌, inl, inr, ◌≢◌}
use mathlib.Core.List.{List, [], ◌∷◌}
use Prim.Native.Nat.{ℕ, ◌≤◌, ◌<◌}
use native.Mathlib.Nat.{le_refl}
use native.Mathlib.Decide.{ℕ_discrete}
use native.Mathlib.Omega.{arith}
use lib.ListN.{length, take}
use Rattle.hop_rule.specs.State.{State, Entry}
use Rattle.hop_rule.specs.Rule.{send, deliver}
use Rattle.hop_rule.specs.Sound.{Linked, Sends, Waits, Each}
use Rattle.hop_laws.proofs.Tests.{tells_eq, tells_and, decides}
use Rattle.hop_laws.proofs.Sound.{tells_sends}
use Rattle.hop_laws.proofs.Rule.{deliver_none}
use Rattle.hop_laws.proofs.Queues.{send_length, send_front}
use Rattle.hop_rest.specs.Delivered.{Over, Delivered}
use Rattle.hop_rest.proofs.Frame.{deliver_n, deliver_link, deliver_view_other, deliver_distance_other, deliver_queue_other, deliver_view_learnt, deliver_queue_left, deliver_queue_sent, deliver_queue_quiet}
use Rattle.hop_rest.proofs.Kept.{waiting_sends, waiting_below, deliver_keeps_sound}
use Rattle.hop_rest.proofs.Right.{over_sends, sends_over}

-- ---- the rule's delivery from a queue that is not empty

pub deliver_over : (g s : State) (w u : ℕ) → Over g s → w < g.n → u < g.n → Over g (deliver s w u)
deliver_over g s w u o lw lu = record {
  sound = deliver_keeps_sound s w u o.sound (omega arith) (omega arith);
  nodes = deliver_n s w u ∙ o.nodes;
  links = λ a b la lb. deliver_link s w u a b ∙ o.links a b la lb;
  trusted = λ a b c la lb lc f. stays (s.queue w u) refl a b c la lb f ∙ o.trusted a b c la lb lc f;
}
  where
    -- Nothing is heard over a link whose other end is down, as nothing waits there.
    stays : (q : List Entry) → s.queue w u ≡ q → (a b c : ℕ) → a < g.n → b < g.n → (Linked g b a → ⊥) → (deliver s w u).view a b c ≡ s.view a b c
    stays [] e a b c la lb f = ap (λ t. t.view a b c) (deliver_none s w u e)
    stays (head ∷ rest) e a b c la lb f =
        let q = waiting_sends s w u o.sound (omega arith) (omega arith) head rest e in
        deliver_view_other s w u a b c (λ i j. absurd (f (rw (i, j) (sym (o.links w u lw lu) ∙ q.0))))

pub deliver_delivered : (g s : State) (w u : ℕ) → Over g s → w < g.n → u < g.n → (e : Entry) (q : List Entry) → s.queue w u ≡ e ∷ q → Delivered g s w u (deliver s w u)
deliver_delivered g s w u o lw lu e q waited = record {
  sender = lw;
  receiver = lu;
  linked = sends_over g s o w u lw lu sends;
  head = e;
  rest = q;
  waited = waited;
  left = deliver_queue_left s w u e q waited apart;
  learnt = deliver_view_learnt s w u e q waited ∙ value;
  recomputed = deliver_over g s w u o lw lu;
  sent = λ f x lx k. deliver_queue_sent s w u e q waited apart x (over_sends g s o u x lu lx k) f;
  quiet = λ f x lx k. deliver_queue_quiet s w u e q waited apart x f;
  views = λ a b c la lb lc f. deliver_view_other s w u a b c (λ i j k. f i j (rw waited at k));
  distances = λ a c la lc f. deliver_distance_other s w u a c (λ i k. f i (rw waited at k));
  queues = λ a b la lb f k. deliver_queue_other s w u a b f (λ i l. k i (sends_over g s o u b lu lb l));
}
  where
    sends : Sends s w u
    sends = waiting_sends s w u o.sound (omega arith) (omega arith) e q waited

    apart : w ≢ u
    apart i = omega (arith, (subst (λ (x : ℕ). Sends s x u) i sends).0, o.sound.diagonal u (omega arith))

    value : e.value ≡ s.distance w e.destination
    value = (subst (Each (λ f. f.value ≡ s.distance w f.destination)) waited (o.sound.values u w (omega arith) (omega arith) sends)).0

-- ---- what follows from the parts

module _ (g s : State) (w u : ℕ) (t : State) (o : Over g s) (d : Delivered g s w u t) where
  pub apart : w ≢ u
  apart i =
      let q : s.link u u ≡ 1 = o.links u u d.receiver d.receiver ∙ (subst (λ (x : ℕ). Sends g x u) i d.linked).0 in
      omega (arith, o.sound.diagonal u (omega arith))

  pub destination_below : d.head.destination < g.n
  destination_below = omega (arith, waiting_below s w u o.sound (omega arith) (omega arith) d.head d.rest d.waited)

  pub gave : (a b : ℕ) → a ≡ w → b ≡ u → s.queue a b ≡ d.head ∷ t.queue a b
  gave a b i j = rw (i, j, d.left) d.waited

  -- Any other queue stayed, or u sent on it since its distance changed.
  grown : (a b : ℕ) → a < g.n → b < g.n → (a ≡ w → b ≢ u)
      → (t.queue a b ≡ s.queue a b) ⊎ ((e : Entry) × (t.queue a b ≡ send e (s.queue a b)) × (t.distance u d.head.destination ≢ s.distance u d.head.destination))
  grown a b la lb f =
      go (decides (tells_and (tells_eq a u) (tells_sends g u b))) (ℕ_discrete (t.distance u d.head.destination) (s.distance u d.head.destination))
    where
      go : Dec ((a ≡ u) × Sends g u b) → Dec (t.distance u d.head.destination ≡ s.distance u d.head.destination)
          → (t.queue a b ≡ s.queue a b) ⊎ ((e : Entry) × (t.queue a b ≡ send e (s.queue a b)) × (t.distance u d.head.destination ≢ s.distance u d.head.destination))
      go (no k) e = inl (d.queues a b la lb f (λ i j. k (i, j)))
      go (yes p) (yes e) = inl (rw p.0 (d.quiet e b lb p.1))
      go (yes p) (no e) = inr (record { destination = d.head.destination; value = t.distance u d.head.destination }, rw p.0 (d.sent e b lb p.1), e)

  -- So its front goes on to wait in front, it is no shorter, and it is the same if the distance is.
  pub grown_front : (a b c v : ℕ) → a < g.n → b < g.n → (a ≡ w → b ≢ u) → Waits v (take c (s.queue a b)) → Waits v (take c (t.queue a b))
  grown_front a b c v la lb f m = elim (grown a b la lb f) [ inl i ↦ rw i m | inr p ↦ rw p.1 (send_front p.0 c v (s.queue a b) m) ]

  pub grown_longer : (a b : ℕ) → a < g.n → b < g.n → (a ≡ w → b ≢ u) → length (s.queue a b) ≤ length (t.queue a b)
  grown_longer a b la lb f = elim (grown a b la lb f) [ inl i ↦ rw i (le_refl _) | inr p ↦ rw p.1 (send_length p.0 (s.queue a b)).0 ]

  pub grown_quiet : (a b : ℕ) → a < g.n → b < g.n → (a ≡ w → b ≢ u) → t.distance u d.head.destination ≡ s.distance u d.head.destination → t.queue a b ≡ s.queue a b
  grown_quiet a b la lb f e = elim (grown a b la lb f) [ inl i ↦ i | inr p ↦ absurd (p.2 e) ]
