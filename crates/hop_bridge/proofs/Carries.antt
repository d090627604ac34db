-- Bytes that carry a state carry it with one part set, where that part is written. Assumes nothing.
use mathlib.Core.Path.{◌≡◌, refl, sym, ap, subst, ◌∙◌}
use mathlib.Core.Logic.{◌≢◌}
use mathlib.Core.Bool.{Bool, true, false, cond, ◌&&◌}
use mathlib.Core.List.{List}
use Prim.Native.Nat.{ℕ, ◌<◌}
use lib.Dec.{eqb}
use lib.ListN.{length}
use Rattle.hop_rule.specs.declared.Table.TheVariants.{Links, Distances, Downstreams, Views, Lengths, Destinations, Values}
use Rattle.hop_rule.specs.State.{State, Entry, with_link, with_route, with_views, with_queues, with_queue}
use Rattle.hop_rule.specs.Stored.{destination_at, value_at}
use Rattle.hop_laws.specs.Same.{Same}
use Rattle.hop_laws.specs.Holds.{flat_of, deep_of}
use Rattle.hop_laws.proofs.Tests.{tells_eq, tells_and, choose_else}
use Rattle.hop_cells.specs.Cells.{put2}
use Rattle.hop_cells.specs.declared.Way.{Way}
use Rattle.hop_steps.specs.Steps.{store}
use Rattle.hop_bridge.specs.Carries.{Flats, Deeps, Filled, Tidy, Orderly, Carries}
use Rattle.hop_bridge.proofs.Choice.{cond_on}
use Rattle.hop_bridge.proofs.Filled.{by_flat, by_deep, row_set, filled_as, filled_put2}
use Rattle.hop_bridge.proofs.Queued.{Queued}

-- The cells F and D are those of t.
pub record Cells (n : ℕ) (F : Flats) (D : Deeps) (t : State) : Type 0 where
  pub link : (a b : ℕ) → a < n → b < n → F Links a b ≡ t.link a b
  pub distance : (a b : ℕ) → a < n → b < n → F Distances a b ≡ t.distance a b
  pub downstream : (a b : ℕ) → a < n → b < n → F Downstreams a b ≡ t.downstream a b
  pub view : (a b c : ℕ) → a < n → b < n → c < n → D Views a b c ≡ t.view a b c
  pub long : (a b : ℕ) → a < n → b < n → F Lengths a b ≡ length (t.queue a b)
  pub destinations : (a b c : ℕ) → a < n → b < n → c < n → D Destinations a b c ≡ destination_at (t.queue a b) c
  pub values : (a b c : ℕ) → a < n → b < n → c < n → D Values a b c ≡ value_at (t.queue a b) c

pub carries : {n : ℕ} {r s : List ℕ} {F : Flats} {D : Deeps} {t : State} → Orderly n t → Filled n r s F D → Cells n F D t → Carries n r s t
carries {n} {F = F} {D = D} {t = t} o h e = record {
  orderly = o;
  filled =
      filled_as (flat_of t) (deep_of t) h
      (by_flat _ e.link e.distance e.downstream e.long)
      (by_deep _ e.view e.destinations e.values);
}

-- States that differ in their queues alone.
pub same_queues : (t : State) (q p : ℕ → ℕ → List Entry) → ((a b : ℕ) → a < t.n → b < t.n → q a b ≡ p a b) → Same (with_queues t q) (with_queues t p)
same_queues t q p e = record {
  n = refl;
  link = λ a b la lb. refl;
  distance = λ a b la lb. refl;
  downstream = λ a b la lb. refl;
  view = λ a b c la lb lc. refl;
  queue = e;
}

module _ {n : ℕ} {r s : List ℕ} {t : State} where
  -- A state that is the same below n is carried as well.
  pub carries_same : Carries n r s t → (t' : State) → Same t t' → Carries n r s t'
  carries_same h t' e = carries (record {
    count = sym e.n ∙ o.count;
    own_distance = λ u l. sym (e.distance u u (in_t l) (in_t l)) ∙ o.own_distance u l;
    own_downstream = λ u l. sym (e.downstream u u (in_t l) (in_t l)) ∙ o.own_downstream u l;
    tidy = λ w u lw lu. subst (Tidy n) (e.queue w u (in_t lw) (in_t lu)) (o.tidy w u lw lu);
  }) h.filled (record {
    link = λ a b la lb. e.link a b (in_t la) (in_t lb);
    distance = λ a b la lb. e.distance a b (in_t la) (in_t lb);
    downstream = λ a b la lb. e.downstream a b (in_t la) (in_t lb);
    view = λ a b c la lb lc. e.view a b c (in_t la) (in_t lb) (in_t lc);
    long = λ a b la lb. ap length (e.queue a b (in_t la) (in_t lb));
    destinations = λ a b c la lb lc. ap (λ q. destination_at q c) (e.queue a b (in_t la) (in_t lb));
    values = λ a b c la lb lc. ap (λ q. value_at q c) (e.queue a b (in_t la) (in_t lb));
  })
    where
      o : Orderly n t
      o = h.orderly

      in_t : {a : ℕ} → a < n → a < t.n
      in_t l = rw h.orderly.count l

  pub link_carries : Carries n r s t → (u w x : ℕ) → u < n → w < n → Carries n r (put2 n Links u w x s) (with_link t u w x)
  link_carries h u w x lu lw = carries (record {
    count = h.orderly.count;
    own_distance = h.orderly.own_distance;
    own_downstream = h.orderly.own_downstream;
    tidy = h.orderly.tidy;
  }) (filled_put2 h.filled Links tt u w x lu lw) (record {
    link = λ a b la lb. refl;
    distance = λ a b la lb. refl;
    downstream = λ a b la lb. refl;
    view = λ a b c la lb lc. refl;
    long = λ a b la lb. refl;
    destinations = λ a b c la lb lc. refl;
    values = λ a b c la lb lc. refl;
  })

  pub store_carries : Carries n r s t → (u v : ℕ) (b : Way) → u < n → v < n → u ≢ v → Carries n r (store n u v b s) (with_route t u v b.distance b.downstream)
  unfolding store
  store_carries h u v b lu lv ne = carries (record {
    count = h.orderly.count;
    own_distance = λ a l. choose_else (tells_and (tells_eq a u) (tells_eq a v)) _ _ (λ e. ne (sym e.0 ∙ e.1)) ∙ h.orderly.own_distance a l;
    own_downstream = λ a l. choose_else (tells_and (tells_eq a u) (tells_eq a v)) _ _ (λ e. ne (sym e.0 ∙ e.1)) ∙ h.orderly.own_downstream a l;
    tidy = h.orderly.tidy;
  }) (filled_put2 (filled_put2 h.filled Distances tt u v b.distance lu lv) Downstreams tt u v b.downstream lu lv) (record {
    link = λ a b la lb. refl;
    distance = λ a b la lb. refl;
    downstream = λ a b la lb. refl;
    view = λ a b c la lb lc. refl;
    long = λ a b la lb. refl;
    destinations = λ a b c la lb lc. refl;
    values = λ a b c la lb lc. refl;
  })

  pub views_carries : Orderly n t → (u w : ℕ) (f : ℕ → ℕ) → Filled n r s (flat_of t) (row_set (deep_of t) Views u w f) → Carries n r s (with_views t u w f)
  views_carries o u w f h = carries (record { count = o.count; own_distance = o.own_distance; own_downstream = o.own_downstream; tidy = o.tidy }) h (record {
    link = λ a b la lb. refl;
    distance = λ a b la lb. refl;
    downstream = λ a b la lb. refl;
    view = λ a b c la lb lc. refl;
    long = λ a b la lb. refl;
    destinations = λ a b c la lb lc. refl;
    values = λ a b c la lb lc. refl;
  })

  pub queue_carries : {w u m : ℕ} {f g : ℕ → ℕ} → Orderly n t → (q : List Entry) → Queued n r s (flat_of t) (deep_of t) w u m f g → Tidy n q → m ≡ length q
      → ((c : ℕ) → c < n → f c ≡ destination_at q c) → ((c : ℕ) → c < n → g c ≡ value_at q c) → Carries n r s (with_queue t w u q)
  queue_carries {w} {u} {m} {f} {g} o q h y l e z = carries (record {
    count = o.count;
    own_distance = o.own_distance;
    own_downstream = o.own_downstream;
    tidy = λ a b la lb. either (eqb a w && eqb b u) (o.tidy a b la lb);
  }) h.filled (record {
    link = λ a b la lb. refl;
    distance = λ a b la lb. refl;
    downstream = λ a b la lb. refl;
    view = λ a b c la lb lc. refl;
    long = λ a b la lb. cond_on length (eqb a w && eqb b u) m q (t.queue a b) l;
    destinations = λ a b c la lb lc. cond_on (λ p. destination_at p c) (eqb a w && eqb b u) (f c) q (t.queue a b) (e c lc);
    values = λ a b c la lb lc. cond_on (λ p. value_at p c) (eqb a w && eqb b u) (g c) q (t.queue a b) (z c lc);
  })
    where
      either : (b : Bool) {p : List Entry} → Tidy n p → Tidy n (cond b q p)
      either true x = y
      either false x = x
