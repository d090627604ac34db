-- Recompute mends one stale pair of node and destination, and all else stays sound; where none is stale the state is sound. Assumes nothing.
use mathlib.Core.Path.{◌≡◌, refl, sym, subst, ◌∙◌}
use mathlib.Core.Logic.{inl, inr, ◌≢◌}
use mathlib.Core.List.{List, ◌∷◌}
use Prim.Native.Nat.{ℕ, zero, suc, ◌≤◌, ◌<◌}
use native.Mathlib.Nat.{le_refl}
use native.Mathlib.Decide.{ℕ_discrete}
use native.Mathlib.Omega.{arith}
use lib.ListN.{length}
use Rattle.hop_rule.specs.Words.{loop, listed}
use Rattle.hop_rule.specs.State.{State, Entry}
use Rattle.hop_rule.specs.Rule.{distance_of, send, recompute, recompute_all}
use Rattle.hop_rule.specs.Sound.{Sends, Waits, Each, Sound}
use Rattle.hop_laws.specs.Current.{Current}
use Rattle.hop_laws.proofs.Tests.{tells_eq, tells_and, decides}
use Rattle.hop_laws.proofs.Rule.{same_alike, current_alike, recompute_distance_at, recompute_distance_other, recompute_downstream_other, recompute_current, recompute_queue_sent, recompute_queue_other}
use Rattle.hop_laws.proofs.Sound.{tells_sends}
use Rattle.hop_laws.proofs.Queues.{each_as, each_both, send_sends, send_keeps, send_differ, send_each, listed_each, listed_waits, listed_differ, differ_most}
use Rattle.hop_rest.specs.Mending.{Brings, Steady, SoundBut}

-- ---- a queue and its two ends

-- Nothing else is read.
pub brings_same : (n : ℕ) (d d' m m' : ℕ → ℕ) (q : List Entry) → ((v : ℕ) → v < n → d' v ≡ d v) → ((v : ℕ) → v < n → m' v ≡ m v) → Brings n d m q → Brings n d' m' q
brings_same n d d' m m' q f g c = record {
  differ = c.differ;
  entries = each_as _ _ q (λ e p. (p.0, p.1 ∙ sym (f e.destination p.0))) c.entries;
  heard = λ v l k. g v l ∙ c.heard v l k ∙ sym (f v l);
}

-- The sender's distance to v changes, and is sent.
pub brings_send : (n : ℕ) (d d' m : ℕ → ℕ) (e : Entry) (q : List Entry) → e.destination < n → e.value ≡ d' e.destination → ((v : ℕ) → v ≢ e.destination → d' v ≡ d v)
    → Brings n d m q → Brings n d' m (send e q)
brings_send n d d' m e q l i f c = record {
  differ = send_differ e q c.differ;
  entries = send_each e _ _ q (l, i) (λ x k p. (p.0, p.1 ∙ sym (f x.destination k))) c.differ c.entries;
  heard = λ v lv k. c.heard v lv (λ w. k (send_keeps e v q w)) ∙ sym (f v (λ j. k (subst (λ (x : ℕ). Waits x (send e q)) (sym j) (send_sends e q))));
}

-- The head is heard.
pub brings_hear : (n : ℕ) (d m m' : ℕ → ℕ) (e : Entry) (q : List Entry) → m' e.destination ≡ e.value → ((v : ℕ) → v ≢ e.destination → m' v ≡ m v) → Brings n d m (e ∷ q) → Brings n d m' q
brings_hear n d m m' e q i f c = record {
  differ = c.differ.1;
  entries = c.entries.1;
  heard = λ v l k. go v l k (ℕ_discrete v e.destination);
}
  where
    go : (v : ℕ) → v < n → (Waits v q → ⊥) → Dec (v ≡ e.destination) → m' v ≡ d v
    go v l k (yes j) = rw j (i ∙ c.entries.0.1)
    go v l k (no j) = f v j ∙ c.heard v l (λ w. elim w [ inl x ↦ j x | inr y ↦ k y ])

-- All destinations wait.
pub brings_all : (n : ℕ) (d m : ℕ → ℕ) → Brings n d m (listed n (λ v. record { destination = v; value = d v }))
brings_all n d m = record {
  differ = listed_differ f (λ v. refl) n;
  entries = listed_each _ n f (λ v l. (l, refl));
  heard = λ v l k. absurd (k (listed_waits f (λ v. refl) n v l));
}
  where
    f : ℕ → Entry
    f v = record { destination = v; value = d v }

-- ---- sound, and sound but for stale pairs

pub sound_steady : {s : State} → Sound s → Steady s
sound_steady {s} o = record {
  bits = o.bits;
  diagonal = o.diagonal;
  views = o.views;
  down_views = o.down_views;
  down_queues = o.down_queues;
  brings = λ u w lu lw q. record {
    differ = o.differ u w lu lw q;
    entries = each_both _ _ (s.queue w u) (o.below u w lu lw q) (o.values u w lu lw q);
    heard = λ v lv k. o.heard u w v lu lw lv q k;
  };
}

-- Where no pair is stale the state is sound; the lengths follow from the entries.
pub but_sound : (P : ℕ → ℕ → Type 0) (s : State) → ((u v : ℕ) → u < s.n → v < s.n → P u v → ⊥) → SoundBut P s → Sound s
but_sound P s none o = record {
  bits = c.bits;
  diagonal = c.diagonal;
  distances = λ u v lu lv. (o.current u v lu lv (none u v lu lv)).distance;
  downstreams = λ u v lu lv. (o.current u v lu lv (none u v lu lv)).downstream;
  views = c.views;
  down_views = c.down_views;
  down_queues = c.down_queues;
  lengths = λ u w lu lw. short u w lu lw (decides (tells_sends s w u));
  differ = λ u w lu lw q. (c.brings u w lu lw q).differ;
  below = below;
  values = λ u w lu lw q. each_as _ _ (s.queue w u) (λ e p. p.1) (c.brings u w lu lw q).entries;
  heard = λ u w v lu lw lv q k. (c.brings u w lu lw q).heard v lv k;
}
  where
    c : Steady s
    c = o.steady

    below : (u w : ℕ) → u < s.n → w < s.n → Sends s w u → Each (λ e. e.destination < s.n) (s.queue w u)
    below u w lu lw q = each_as _ _ (s.queue w u) (λ e p. p.0) (c.brings u w lu lw q).entries

    short : (u w : ℕ) → u < s.n → w < s.n → Dec (Sends s w u) → length (s.queue w u) ≤ s.n
    short u w lu lw (yes q) = differ_most s.n (s.queue w u) (c.brings u w lu lw q).differ (below u w lu lw q)
    short u w lu lw (no f) = rw (c.down_queues u w lu lw f) (omega arith)

-- ---- recompute of v at u mends the pair u, v

module _ (P : ℕ → ℕ → Type 0) (s : State) (u v : ℕ) (lu : u < s.n) (lv : v < s.n) (o : SoundBut P s) where
  c : Steady s
  c = o.steady

  -- A node's distances stay, unless it is u and its distance to v changed.
  kept_distance : (a b : ℕ) → (a ≡ u → distance_of s u v ≡ s.distance u v) → (recompute s u v).distance a b ≡ s.distance a b
  kept_distance a b f = go (decides (tells_and (tells_eq a u) (tells_eq b v)))
    where
      go : Dec ((a ≡ u) × (b ≡ v)) → (recompute s u v).distance a b ≡ s.distance a b
      go (yes p) = rw (p.0, p.1) (recompute_distance_at s u v ∙ f p.0)
      go (no k) = recompute_distance_other s u v a b (λ i j. k (i, j))

  -- A queue in use: u sent on it, or its sender's distances stay.
  mended_brings : (x y : ℕ) → x < s.n → y < s.n → Sends s y x → Brings s.n ((recompute s u v).distance y) (s.view x y) ((recompute s u v).queue y x)
  mended_brings x y lx ly q = go (ℕ_discrete y u) (ℕ_discrete (distance_of s u v) (s.distance u v))
    where
      kept : (y ≡ u → distance_of s u v ≡ s.distance u v) → Brings s.n ((recompute s u v).distance y) (s.view x y) ((recompute s u v).queue y x)
      kept f = rw (recompute_queue_other s u v y x (λ i k. f i)) (brings_same _ _ _ _ _ _ (λ b l. kept_distance y b f) (λ b l. refl) (c.brings x y lx ly q))

      go : Dec (y ≡ u) → Dec (distance_of s u v ≡ s.distance u v) → Brings s.n ((recompute s u v).distance y) (s.view x y) ((recompute s u v).queue y x)
      go (yes i) (no f) =
          let r : Sends s u x = subst (λ (z : ℕ). Sends s z x) i q in
          rw (i, recompute_queue_sent s u v x r f)
          (brings_send _ _ _ _ (record { destination = v; value = distance_of s u v }) _ lv (sym (recompute_distance_at s u v)) (λ b k. recompute_distance_other s u v u b (λ j. k)) (c.brings x u lx lu r))
      go (yes i) (yes e) = kept (λ z. e)
      go (no i) e = kept (λ z. absurd (i z))

  pub recompute_mends : SoundBut (λ a b. P a b × (a ≡ u → b ≢ v)) (recompute s u v)
  unfolding recompute
  recompute_mends = record {
    steady = record {
      bits = c.bits;
      diagonal = c.diagonal;
      views = c.views;
      down_views = c.down_views;
      down_queues = λ x y lx ly f. recompute_queue_other s u v y x (λ i q. absurd (f (subst (λ (z : ℕ). Sends s z x) (sym i) q))) ∙ c.down_queues x y lx ly f;
      brings = mended_brings;
    };
    current = λ a b la lb f. mended a b la lb f (decides (tells_and (tells_eq a u) (tells_eq b v)));
  }
    where
      mended : (a b : ℕ) → a < s.n → b < s.n → (P a b × (a ≡ u → b ≢ v) → ⊥) → Dec ((a ≡ u) × (b ≡ v)) → Current (recompute s u v) a b
      mended a b la lb f (yes p) = rw (p.0, p.1) (recompute_current s u v)
      mended a b la lb f (no k) = current_alike (same_alike s (recompute s u v) a b refl (λ w l. refl) (λ w l. refl))
          (recompute_distance_other s u v a b (λ i j. k (i, j))) (recompute_downstream_other s u v a b (λ i j. k (i, j))) (o.current a b la lb (λ p. f (p, λ i j. k (i, j))))

-- ---- u recomputes every destination, and all its pairs are mended

-- More pairs may be called stale.
but_more : (P Q : ℕ → ℕ → Type 0) (s : State) → ((a b : ℕ) → b < s.n → P a b → Q a b) → SoundBut P s → SoundBut Q s
but_more P Q s f o = record {
  steady = o.steady;
  current = λ u v lu lv k. o.current u v lu lv (λ p. k (f u v lv p));
}

recompute_loop_n : (s : State) (u k : ℕ) → (loop k (λ v t. recompute t u v) s).n ≡ s.n
unfolding loop recompute
recompute_loop_n s u zero = refl
recompute_loop_n s u (suc k) = recompute_loop_n s u k

recompute_loop_mends : (P : ℕ → ℕ → Type 0) (s : State) (u k : ℕ) → u < s.n → k ≤ s.n → SoundBut P s → SoundBut (λ a b. P a b × (a ≡ u → k ≤ b)) (loop k (λ v t. recompute t u v) s)
unfolding loop
recompute_loop_mends P s u zero lu lk o = but_more _ _ s (λ a b l p. (p, λ i. omega arith)) o
recompute_loop_mends P s u (suc k) lu lk o =
    let n = recompute_loop_n s u k in
    but_more _ _ _ (λ a b l p. (p.0.0, λ i. omega (arith, p.0.1 i, p.1 i)))
    (recompute_mends (λ a b. P a b × (a ≡ u → k ≤ b)) (loop k (λ v t. recompute t u v) s) u k (omega arith) (omega arith) (recompute_loop_mends P s u k lu (omega arith) o))

pub recompute_all_n : (s : State) (u : ℕ) → (recompute_all s u).n ≡ s.n
unfolding recompute_all
recompute_all_n s u = recompute_loop_n s u s.n

pub recompute_all_mends : (P : ℕ → ℕ → Type 0) (s : State) (u : ℕ) → u < s.n → SoundBut P s → SoundBut (λ a b. P a b × (a ≢ u)) (recompute_all s u)
unfolding recompute_all
recompute_all_mends P s u lu o =
    let n = recompute_loop_n s u s.n in
    but_more _ _ _ (λ a b l p. (p.0, λ i. omega (arith, p.1 i))) (recompute_loop_mends P s u s.n lu (le_refl _) o)
