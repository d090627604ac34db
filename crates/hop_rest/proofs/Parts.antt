-- One node's part of a state: a node recomputes from its own part and changes only its own part, so that two nodes can be taken in either order. Assumes nothing.
use mathlib.Core.Path.{◌≡◌, refl, sym, subst, ◌∙◌}
use mathlib.Core.Logic.{◌≢◌}
use Prim.Native.Nat.{ℕ, ◌<◌}
use native.Mathlib.Omega.{arith}
use Rattle.hop_rule.specs.Words.{loop}
use Rattle.hop_rule.specs.State.{State}
use Rattle.hop_rule.specs.Rule.{sends, recompute, recompute_all}
use Rattle.hop_rule.specs.Sound.{Sends}
use Rattle.hop_laws.specs.Same.{Same}
use Rattle.hop_laws.proofs.Words.{loop_both, loop_keeps}
use Rattle.hop_laws.proofs.Rule.{Alike, same_alike, distance_of_alike, downstream_of_alike, recompute_distance_other, recompute_downstream_other, recompute_queue_other}

-- Its own ends of links, on which of them what it sends gets through, its table, its views and what waits from it.
pub record SameAt (u : ℕ) (s t : State) : Type 0 where
  pub n : s.n ≡ t.n
  pub link : (w : ℕ) → w < s.n → s.link u w ≡ t.link u w
  pub sends : (w : ℕ) → w < s.n → sends s u w ≡ sends t u w
  pub distance : (v : ℕ) → v < s.n → s.distance u v ≡ t.distance u v
  pub downstream : (v : ℕ) → v < s.n → s.downstream u v ≡ t.downstream u v
  pub view : (w v : ℕ) → w < s.n → v < s.n → s.view u w v ≡ t.view u w v
  pub queue : (x : ℕ) → x < s.n → s.queue u x ≡ t.queue u x

same_at_refl : (u : ℕ) (s : State) → SameAt u s s
same_at_refl u s = record { n = refl; link = λ w lw. refl; sends = λ w lw. refl; distance = λ v lv. refl; downstream = λ v lv. refl; view = λ w v lw lv. refl; queue = λ x lx. refl }

pub same_at_sym : {u : ℕ} {s t : State} → SameAt u s t → SameAt u t s
same_at_sym e = record {
  n = sym e.n;
  link = λ w lw. sym (e.link w (omega (arith, e.n)));
  sends = λ w lw. sym (e.sends w (omega (arith, e.n)));
  distance = λ v lv. sym (e.distance v (omega (arith, e.n)));
  downstream = λ v lv. sym (e.downstream v (omega (arith, e.n)));
  view = λ w v lw lv. sym (e.view w v (omega (arith, e.n)) (omega (arith, e.n)));
  queue = λ x lx. sym (e.queue x (omega (arith, e.n)));
}

pub same_at_trans : {u : ℕ} {s t r : State} → SameAt u s t → SameAt u t r → SameAt u s r
same_at_trans e f = record {
  n = e.n ∙ f.n;
  link = λ w lw. e.link w lw ∙ f.link w (omega (arith, e.n));
  sends = λ w lw. e.sends w lw ∙ f.sends w (omega (arith, e.n));
  distance = λ v lv. e.distance v lv ∙ f.distance v (omega (arith, e.n));
  downstream = λ v lv. e.downstream v lv ∙ f.downstream v (omega (arith, e.n));
  view = λ w v lw lv. e.view w v lw lv ∙ f.view w v (omega (arith, e.n)) (omega (arith, e.n));
  queue = λ x lx. e.queue x lx ∙ f.queue x (omega (arith, e.n));
}

-- States are the same where every node's part is.
pub all_same : {s t : State} → s.n ≡ t.n → ((u : ℕ) → SameAt u s t) → Same s t
all_same i e = record {
  n = i;
  link = λ u w lu lw. (e u).link w lw;
  distance = λ u v lu lv. (e u).distance v lv;
  downstream = λ u v lu lv. (e u).downstream v lv;
  view = λ u w v lu lw lv. (e u).view w v lw lv;
  queue = λ w u lw lu. (e w).queue u lu;
}

-- ---- recompute at u

-- What u recomputes depends on u's part alone,
recompute_own : {s t : State} (u v : ℕ) → v < s.n → SameAt u s t → SameAt u (recompute s u v) (recompute t u v)
unfolding recompute
recompute_own {s} {t} u v lv e = record {
  n = e.n;
  link = e.link;
  sends = e.sends;
  distance = λ c lc. rw (distance_of_alike reads, e.distance c lc);
  downstream = λ c lc. rw (downstream_of_alike reads, e.downstream c lc);
  view = e.view;
  queue = λ b lb. rw (distance_of_alike reads, e.sends b lb, e.distance v lv, e.queue b lb);
}
  where
    reads : Alike s t u v
    reads = same_alike s t u v (sym e.n) (λ w l. sym (e.link w l)) (λ w l. sym (e.view w v l lv))

-- and no other part changes.
recompute_other : (s : State) (u v x : ℕ) → x ≢ u → SameAt x (recompute s u v) s
unfolding recompute
recompute_other s u v x f = record {
  n = refl;
  link = λ w lw. refl;
  sends = λ w lw. refl;
  distance = λ c lc. recompute_distance_other s u v x c (λ i. absurd (f i));
  downstream = λ c lc. recompute_downstream_other s u v x c (λ i. absurd (f i));
  view = λ w c lw lc. refl;
  queue = λ b lb. recompute_queue_other s u v x b (λ i. absurd (f i));
}

pub all_own : {s t : State} (u : ℕ) → SameAt u s t → SameAt u (recompute_all s u) (recompute_all t u)
unfolding recompute_all recompute
all_own {s} {t} u e =
    let step : ℕ → State → State = λ v x. recompute x u v in
    subst (λ (m : ℕ). SameAt u (recompute_all s u) (loop m step t)) e.n
    (loop_both (λ x y. SameAt u x y × (x.n ≡ s.n)) s.n step step s t (e, refl) (λ v x y l p. (recompute_own u v (omega (arith, p.1)) p.0, p.1))).0

pub all_other : (s : State) (u x : ℕ) → x ≢ u → SameAt x (recompute_all s u) s
unfolding recompute_all
all_other s u x f = loop_keeps (λ t. SameAt x t s) s.n _ s (same_at_refl x s) (λ v t l p. same_at_trans (recompute_other t u v x f) p)

-- No link and no view changes, nor a queue that u does not send on, nor another node's tables.
module _ (s : State) (u : ℕ) where
  pub all_distance : (x c : ℕ) → x ≢ u → (recompute_all s u).distance x c ≡ s.distance x c
  unfolding recompute_all
  all_distance x c f = loop_keeps (λ t. t.distance x c ≡ s.distance x c) s.n _ s refl (λ v t l p. recompute_distance_other t u v x c (λ i. absurd (f i)) ∙ p)

  pub all_downstream : (x c : ℕ) → x ≢ u → (recompute_all s u).downstream x c ≡ s.downstream x c
  unfolding recompute_all
  all_downstream x c f = loop_keeps (λ t. t.downstream x c ≡ s.downstream x c) s.n _ s refl (λ v t l p. recompute_downstream_other t u v x c (λ i. absurd (f i)) ∙ p)

  pub all_queue : (x y : ℕ) → x ≢ u → (recompute_all s u).queue x y ≡ s.queue x y
  unfolding recompute_all
  all_queue x y f = loop_keeps (λ t. t.queue x y ≡ s.queue x y) s.n _ s refl (λ v t l p. recompute_queue_other t u v x y (λ i. absurd (f i)) ∙ p)

  pub all_link : (x y : ℕ) → (recompute_all s u).link x y ≡ s.link x y
  unfolding recompute_all recompute
  all_link x y = loop_keeps (λ t. t.link x y ≡ s.link x y) s.n _ s refl (λ v t l p. p)

  pub all_view : (x y c : ℕ) → (recompute_all s u).view x y c ≡ s.view x y c
  unfolding recompute_all recompute
  all_view x y c = loop_keeps (λ t. t.view x y c ≡ s.view x y c) s.n _ s refl (λ v t l p. p)

  pub all_unsent : (b : ℕ) → (Sends s u b → ⊥) → (recompute_all s u).queue u b ≡ s.queue u b
  unfolding recompute_all recompute
  all_unsent b f =
      (loop_keeps (λ t. (t.queue u b ≡ s.queue u b) × ((Sends t u b) → ⊥)) s.n _ s (refl, f)
      (λ v t l p. (recompute_queue_other t u v u b (λ i q. absurd (p.1 q)) ∙ p.0, p.1))).0
