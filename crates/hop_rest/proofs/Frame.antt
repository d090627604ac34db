-- What a delivery from w to u changes: u's view of the head's destination from w, u's table rows for it, the queue that it came from and those that u sends on; every other cell stays. Assumes nothing.
use mathlib.Core.Path.{◌≡◌, refl, sym, ap, ◌∙◌}
use mathlib.Core.Logic.{◌≢◌}
use mathlib.Core.List.{List, [], ◌∷◌}
use Prim.Native.Nat.{ℕ}
use Rattle.hop_rule.specs.State.{State, Entry}
use Rattle.hop_rule.specs.Rule.{distance_of, send, recompute, hear, deliver}
use Rattle.hop_rule.specs.Sound.{Sends}
use Rattle.hop_rest.specs.Frame.{EveryDeliveryRewritesOnly}
use Rattle.hop_laws.proofs.Rule.{recompute_distance_at, recompute_distance_other, recompute_downstream_other, recompute_queue_sent, recompute_queue_other, hear_view_at, hear_view_other, hear_queue_at, hear_queue_other, deliver_head, deliver_none}

-- v is the destination of the entry at the head.
abbrev pub Heads : ℕ → List Entry → Type 0
Heads v [] = ⊥
Heads v (head ∷ rest) = v ≡ head.destination

-- ---- what stays

module _ (s : State) (w u : ℕ) where
  -- A delivery hears the head and recomputes its destination, or does nothing: what both leave stays.
  stays : {A : Type 0} (cell : State → A) → ((head : Entry) (rest : List Entry) → s.queue w u ≡ head ∷ rest → cell (recompute (hear s w u head rest) u head.destination) ≡ cell s) → cell (deliver s w u) ≡ cell s
  stays cell f = go (s.queue w u) refl
    where
      go : (q : List Entry) → s.queue w u ≡ q → cell (deliver s w u) ≡ cell s
      go [] e = ap cell (deliver_none s w u e)
      go (head ∷ rest) e = ap cell (deliver_head s w u head rest e) ∙ f head rest e

  pub deliver_n : (deliver s w u).n ≡ s.n
  unfolding recompute hear
  deliver_n = stays (λ t. t.n) (λ head rest e. refl)

  pub deliver_link : (a b : ℕ) → (deliver s w u).link a b ≡ s.link a b
  unfolding recompute hear
  deliver_link a b = stays (λ t. t.link a b) (λ head rest e. refl)

  pub deliver_view_other : (a b c : ℕ) → (a ≡ u → b ≡ w → Heads c (s.queue w u) → ⊥) → (deliver s w u).view a b c ≡ s.view a b c
  unfolding recompute
  deliver_view_other a b c f = stays (λ t. t.view a b c) (λ head rest e. hear_view_other s w u head rest a b c (λ i j k. f i j (rw e k)))

  pub deliver_distance_other : (a c : ℕ) → (a ≡ u → Heads c (s.queue w u) → ⊥) → (deliver s w u).distance a c ≡ s.distance a c
  unfolding hear
  deliver_distance_other a c f = stays (λ t. t.distance a c) (λ head rest e. recompute_distance_other (hear s w u head rest) u head.destination a c (λ i k. f i (rw e k)))

  pub deliver_downstream_other : (a c : ℕ) → (a ≡ u → Heads c (s.queue w u) → ⊥) → (deliver s w u).downstream a c ≡ s.downstream a c
  unfolding hear
  deliver_downstream_other a c f = stays (λ t. t.downstream a c) (λ head rest e. recompute_downstream_other (hear s w u head rest) u head.destination a c (λ i k. f i (rw e k)))

  pub deliver_queue_other : (a b : ℕ) → (a ≡ w → b ≢ u) → (a ≡ u → Sends s u b → ⊥) → (deliver s w u).queue a b ≡ s.queue a b
  unfolding hear
  deliver_queue_other a b f g = stays (λ t. t.queue a b) (λ head rest e.
      recompute_queue_other (hear s w u head rest) u head.destination a b (λ i q. absurd (g i q)) ∙ hear_queue_other s w u head rest a b f)

pub delivery_rewrites_only : EveryDeliveryRewritesOnly
delivery_rewrites_only s w u = record {
  nodes = deliver_n s w u;
  links = deliver_link s w u;
  views = λ a b c f. deliver_view_other s w u a b c (λ i. absurd (f i));
  distances = λ a c f. deliver_distance_other s w u a c (λ i. absurd (f i));
  downstreams = λ a c f. deliver_downstream_other s w u a c (λ i. absurd (f i));
  queues = λ a b f g. deliver_queue_other s w u a b g (λ i. absurd (f i));
}

-- ---- what changes, where an entry waits and w is not u

module _ (s : State) (w u : ℕ) (head : Entry) (rest : List Entry) (waited : s.queue w u ≡ head ∷ rest) where
  is : deliver s w u ≡ recompute (hear s w u head rest) u head.destination
  is = deliver_head s w u head rest waited

  pub deliver_view_learnt : (deliver s w u).view u w head.destination ≡ head.value
  unfolding recompute
  deliver_view_learnt = rw is (hear_view_at s w u head rest)

  distance_at : (deliver s w u).distance u head.destination ≡ distance_of (hear s w u head rest) u head.destination
  distance_at = rw is (recompute_distance_at (hear s w u head rest) u head.destination)

  pub deliver_queue_left : w ≢ u → (deliver s w u).queue w u ≡ rest
  deliver_queue_left f = rw is (recompute_queue_other (hear s w u head rest) u head.destination w u (λ i. absurd (f i)) ∙ hear_queue_at s w u head rest)

  pub deliver_queue_sent : w ≢ u → (x : ℕ) → Sends s u x → (deliver s w u).distance u head.destination ≢ s.distance u head.destination
      → (deliver s w u).queue u x ≡ send (record { destination = head.destination; value = (deliver s w u).distance u head.destination }) (s.queue u x)
  unfolding hear
  deliver_queue_sent f x q k =
      rw (distance_at, is) (recompute_queue_sent (hear s w u head rest) u head.destination x q (λ i. k (distance_at ∙ i))
      ∙ ap (send _) (hear_queue_other s w u head rest u x (λ i. absurd (f (sym i)))))

  pub deliver_queue_quiet : w ≢ u → (x : ℕ) → (deliver s w u).distance u head.destination ≡ s.distance u head.destination → (deliver s w u).queue u x ≡ s.queue u x
  unfolding hear
  deliver_queue_quiet f x k =
      rw is (recompute_queue_other (hear s w u head rest) u head.destination u x (λ i q. sym distance_at ∙ k) ∙ hear_queue_other s w u head rest u x (λ i. absurd (f (sym i))))
