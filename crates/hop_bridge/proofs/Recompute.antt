-- Telling the neighbours, and recompute: on the bytes what they are on the state. For a node itself the bytes are left alone, which is the rule's where the state is in order. Assumes nothing.
use mathlib.Core.Path.{◌≡◌, refl, sym, ap, ◌∙◌}
use mathlib.Core.Logic.{◌≢◌}
use mathlib.Core.Bool.{Bool, true, false, cond, ◌&&◌}
use mathlib.Core.List.{List}
use Prim.Native.Nat.{ℕ, suc, ◌<◌}
use native.Mathlib.Decide.{ℕ_discrete}
use native.Mathlib.Omega.{arith}
use lib.Dec.{eqb, ltb}
use borrow.Author.Tests.{lt-ltb, ne_eqb}
use Rattle.hop_rule.specs.declared.Table.TheVariants.{Links, Distances}
use Rattle.hop_rule.specs.State.{State, Entry, with_route, with_queue}
use Rattle.hop_rule.specs.Rule as rule
use Rattle.hop_rule.specs.Sound.{Sends}
use Rattle.hop_laws.specs.Same.{Same}
use Rattle.hop_laws.proofs.Tests.{Tells, decides, tells_eq, tells_lt, tells_and, choose_so, choose_else}
use Rattle.hop_laws.proofs.Sound.{tells_sends}
use Rattle.hop_laws.proofs.Rule.{distance_of_own, downstream_of_own, recompute_queue_other}
use Rattle.hop_queues.specs.Queues as bytes
use Rattle.hop_cells.specs.declared.Way.{Way}
use Rattle.hop_steps.specs.Steps.{store, tell_one, tell, recompute, renew}
use Rattle.hop_bridge.specs.Carries.{Carries}
use Rattle.hop_bridge.specs.Parts.{with_sent}
use Rattle.hop_bridge.proofs.Choice.{cond_idle}
use Rattle.hop_bridge.proofs.Rows.{loop_reaches}
use Rattle.hop_bridge.proofs.Carries.{same_queues, carries_same, store_carries}
use Rattle.hop_bridge.proofs.Send.{send_carries}
use Rattle.hop_bridge.proofs.Best.{found, best_route}

-- ---- telling

module _ (t : State) (u : ℕ) (e : Entry) where
  tells_sent : (k a b : ℕ) → Tells (eqb a u && (ltb b k && rule.sends t u b)) ((a ≡ u) × ((b < k) × Sends t u b))
  tells_sent k a b = tells_and (tells_eq a u) (tells_and (tells_lt b k) (tells_sends t u b))

  sent_at : (k a b : ℕ) → (a ≡ u) × ((b < k) × Sends t u b) → (with_sent t u e k).queue a b ≡ rule.send e (t.queue a b)
  unfolding with_sent
  sent_at k a b p = choose_so (tells_sent k a b) _ _ p

  sent_other : (k a b : ℕ) → ((a ≡ u) × ((b < k) × Sends t u b) → ⊥) → (with_sent t u e k).queue a b ≡ t.queue a b
  unfolding with_sent
  sent_other k a b f = choose_else (tells_sent k a b) _ _ f

  -- The next node changes no queue but u's to it, and that only where both ends of the link are up.
  sent_next : (k a b : ℕ) → (a ≡ u → b ≡ k → Sends t u b → ⊥) → (with_sent t u e k).queue a b ≡ (with_sent t u e (suc k)).queue a b
  sent_next k a b f = go (decides (tells_sent k a b))
    where
      go : Dec ((a ≡ u) × ((b < k) × Sends t u b)) → (with_sent t u e k).queue a b ≡ (with_sent t u e (suc k)).queue a b
      go (yes p) = sent_at k a b p ∙ sym (sent_at (suc k) a b (p.0, (omega (arith, p.1.0), p.1.1)))
      go (no g) = sent_other k a b g ∙ sym (sent_other (suc k) a b (λ p. g (p.0, (let o : b ≢ k = λ i. f p.0 i p.1.1 in omega (arith, p.1.0), p.1.1))))

  sent_here : (k a b : ℕ) → Sends t u k → (with_queue (with_sent t u e k) u k (rule.send e ((with_sent t u e k).queue u k))).queue a b ≡ (with_sent t u e (suc k)).queue a b
  sent_here k a b l = go (decides (here k))
    where
      here : (k : ℕ) → Tells (eqb a u && eqb b k) ((a ≡ u) × (b ≡ k))
      here k = tells_and (tells_eq a u) (tells_eq b k)

      go : Dec ((a ≡ u) × (b ≡ k)) → cond (eqb a u && eqb b k) (rule.send e ((with_sent t u e k).queue u k)) ((with_sent t u e k).queue a b) ≡ (with_sent t u e (suc k)).queue a b
      go (yes p) =
          choose_so (here k) _ _ p ∙ ap (rule.send e) (sent_other k u k (λ z. omega (arith, z.1.0)))
          ∙ sym (sent_at (suc k) a b (p.0, (omega (arith, p.1), rw p.1 l)) ∙ rw (p.0, p.1))
      go (no f) = choose_else (here k) _ _ f ∙ sent_next k a b (λ i j z. f (i, j))

module _ {n : ℕ} {r s : List ℕ} {t : State} (h : Carries n r s t) (u v d : ℕ) (lu : u < n) (lv : v < n) where
  abbrev entry : Entry
  entry = record { destination = v; value = d }

  tell_one_carries : (k : ℕ) (x : List ℕ) → k < n → Carries n r x (with_sent t u entry k) → Carries n r (tell_one n u v d k x) (with_sent t u entry (suc k))
  unfolding tell_one with_sent
  tell_one_carries k x lk g = rw (g.filled.flats Links tt u k lu lk, g.filled.flats Links tt k u lk lu) (go (decides (tells_sends t u k)))
    where
      go : Dec (Sends t u k) → Carries n r (cond (rule.sends t u k) (bytes.send n u k v d x) x) (with_sent t u entry (suc k))
      go (yes e) =
          rw (choose_so (tells_sends t u k) (bytes.send n u k v d x) x e)
          (carries_same (send_carries g u k lu lk v d lv) (with_sent t u entry (suc k)) (same_queues t _ _ (λ a b la lb. sent_here t u entry k a b e)))
      go (no f) =
          rw (choose_else (tells_sends t u k) (bytes.send n u k v d x) x f)
          (carries_same g (with_sent t u entry (suc k)) (same_queues t _ _ (λ a b la lb. sent_next t u entry k a b (λ i j z. f (rw j at z)))))

  tell_carries : Carries n r (tell n u v d s) (with_sent t u (record { destination = v; value = d }) n)
  unfolding tell with_sent
  tell_carries =
      loop_reaches (λ k x. Carries n r x (with_sent t u entry k)) n (tell_one n u v d) s
      (carries_same h (with_sent t u entry 0) (same_queues t _ _ (λ a b la lb. sym (sent_other t u entry 0 a b (λ p. omega (arith, p.1.0)))))) tell_one_carries

-- ---- recompute

module _ {n : ℕ} {r s : List ℕ} {t : State} (h : Carries n r s t) (u v : ℕ) (lu : u < n) (lv : v < n) where
  abbrev new : Way
  new = found t u v

  abbrev placed : State
  placed = with_route t u v new.distance new.downstream

  -- Nothing changes,
  unchanged : new.distance ≡ t.distance u v → new.downstream ≡ t.downstream u v → Same t (rule.recompute t u v)
  unfolding rule.recompute
  unchanged d x = record {
    n = refl;
    link = λ a b la lb. refl;
    distance = λ a c la lc. sym (cond_idle (eqb a u && eqb c v) new.distance (t.distance a c) (λ i. let at = (here a c).shows i in rw (at.0, at.1) d));
    downstream = λ a c la lc. sym (cond_idle (eqb a u && eqb c v) new.downstream (t.downstream a c) (λ i. let at = (here a c).shows i in rw (at.0, at.1) x));
    view = λ a b c la lb lc. refl;
    queue = λ a b la lb. sym (recompute_queue_other t u v a b (λ i j. d));
  }
    where
      here : (a c : ℕ) → Tells (eqb a u && eqb c v) ((a ≡ u) × (c ≡ v))
      here a c = tells_and (tells_eq a u) (tells_eq c v)

  pub unchanged_carries : rule.distance_of t u v ≡ t.distance u v → (found t u v).downstream ≡ t.downstream u v → Carries n r s (rule.recompute t u v)
  unchanged_carries d x = carries_same h (rule.recompute t u v) (unchanged d x)

  -- as for a node itself.
  pub own_carries : u ≡ v → Carries n r s (rule.recompute t u v)
  own_carries e =
      unchanged_carries (distance_of_own t u v e ∙ sym (h.orderly.own_distance u lu) ∙ ap (t.distance u) e)
      (downstream_of_own t u v _ e ∙ sym (h.orderly.own_downstream u lu) ∙ ap (t.downstream u) e)

  -- The distance stays: nothing is sent.
  kept : new.distance ≡ t.distance u v → Same placed (rule.recompute t u v)
  unfolding rule.recompute
  kept e = same_queues placed _ _ (λ a b la lb. sym (recompute_queue_other t u v a b (λ i j. e)))

  pub kept_carries : u ≢ v → rule.distance_of t u v ≡ t.distance u v → Carries n r (store n u v (found t u v) s) (rule.recompute t u v)
  kept_carries f e = carries_same (store_carries h u v (found t u v) lu lv f) (rule.recompute t u v) (kept e)

  -- It changes: it is sent on each link with both ends up.
  changed : new.distance ≢ t.distance u v → Same (with_sent placed u (record { destination = v; value = new.distance }) n) (rule.recompute t u v)
  unfolding rule.recompute with_sent
  changed f = same_queues placed _ _ (λ a b la lb. let l : ltb b n ≡ true = lt-ltb b n (rw h.orderly.count at lb) in rw (l, ne_eqb new.distance (t.distance u v) f, and_true (rule.sends t u b)))
    where
      and_true : (b : Bool) → (b && true) ≡ b
      and_true true = refl
      and_true false = refl

  pub changed_carries : u ≢ v → rule.distance_of t u v ≢ t.distance u v → Carries n r (tell n u v (rule.distance_of t u v) (store n u v (found t u v) s)) (rule.recompute t u v)
  changed_carries f e = carries_same (tell_carries (store_carries h u v (found t u v) lu lv f) u v new.distance lu lv) (rule.recompute t u v) (changed e)

  pub recompute_carries : Carries n r (recompute n u v s) (rule.recompute t u v)
  unfolding recompute renew
  recompute_carries = go (ℕ_discrete u v)
    where
      after : List ℕ
      after = store n u v (found t u v) s

      told : List ℕ
      told = tell n u v new.distance after

      sent : u ≢ v → Dec (new.distance ≡ t.distance u v) → Carries n r (cond (eqb new.distance (t.distance u v)) after told) (rule.recompute t u v)
      sent f (yes e) = rw (choose_so (tells_eq new.distance (t.distance u v)) after told e) (kept_carries f e)
      sent f (no e) = rw (choose_else (tells_eq new.distance (t.distance u v)) after told e) (changed_carries f e)

      go : Dec (u ≡ v) → Carries n r (recompute n u v s) (rule.recompute t u v)
      go (yes e) = rw (choose_so (tells_eq u v) s _ e) (own_carries e)
      go (no f) = rw (choose_else (tells_eq u v) s _ f, best_route h u v lu lv f, h.filled.flats Distances tt u v lu lv) (sent f (ℕ_discrete new.distance (t.distance u v)))
