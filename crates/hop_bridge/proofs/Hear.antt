-- An entry that is heard where it stands: the bytes carry what a delivery leaves, but for the queue, which is as it was. Assumes nothing.
use mathlib.Core.Path.{◌≡◌, refl, sym, ap, ◌∙◌}
use mathlib.Core.Logic.{◌≢◌}
use mathlib.Core.Bool.{cond, ◌&&◌}
use mathlib.Core.List.{List, ◌∷◌}
use Prim.Native.Nat.{ℕ, ◌<◌}
use native.Mathlib.Omega.{arith}
use lib.Dec.{eqb}
use lib.ListN.{get_or}
use borrow.Author.Tests.{lt-ltb}
use Rattle.hop_rule.specs.declared.Table.TheVariants.{Views, Destinations, Values}
use Rattle.hop_rule.specs.State.{State, Entry, with_queue}
use Rattle.hop_rule.specs.Rule as rule
use Rattle.hop_rule.specs.Stored.{destination_at, value_at}
use Rattle.hop_rule.specs.Sound.{Sound}
use Rattle.hop_laws.specs.Same.{Same}
use Rattle.hop_laws.specs.Holds.{deep_of, blank}
use Rattle.hop_laws.proofs.Tests.{decides, tells_pair, choose_so, choose_else}
use Rattle.hop_laws.proofs.Rule.{Alike, same_alike, distance_of_alike, downstream_of_alike, recompute_queue_other, hear_queue_at, deliver_head}
use Rattle.hop_laws.proofs.Read.{destination_at_get_or, value_at_get_or}
use Rattle.hop_rest.proofs.Kept.{waiting_sends, waiting_below}
use Rattle.hop_cells.specs.Cells.{get3, put3}
use Rattle.hop_steps.specs.Steps.{hear_at, deliver}
use Rattle.hop_bridge.specs.Carries.{Carries}
use Rattle.hop_bridge.proofs.Choice.{cond_idle}
use Rattle.hop_bridge.proofs.Filled.{place_set, row_kept, filled_put3}
use Rattle.hop_bridge.proofs.Carries.{same_queues, carries_same, views_carries}
use Rattle.hop_bridge.proofs.Settle.{settle_carries}

module _ (w u : ℕ) where
  pub with_at : (t : State) (q : List Entry) → (with_queue t w u q).queue w u ≡ q
  with_at t q = choose_so (tells_pair w u w u) _ _ (refl, refl)

  -- The queue as it is.
  pub with_same : (t : State) (q : List Entry) → t.queue w u ≡ q → Same t (with_queue t w u q)
  with_same t q e = same_queues t t.queue _ (λ a b la lb. sym (cond_idle (eqb a w && eqb b u) q (t.queue a b) (λ i. let at = (tells_pair w u a b).shows i in rw (at.0, at.1) (sym e))))

-- No node has a queue to itself.
pub waiting_apart : {t : State} {w u : ℕ} {e : Entry} {rest : List Entry} → Sound t → w < t.n → u < t.n → t.queue w u ≡ e ∷ rest → w ≢ u
waiting_apart {t} {w} {u} {e} {rest} o lw lu i j = omega (arith, (waiting_sends t w u o lw lu e rest i).0, o.diagonal u lu, ap (λ x. t.link x u) j)

-- ---- an entry is heard where it stands

module _ {n : ℕ} (w u : ℕ) (lw : w < n) (lu : u < n) (t : State) (q : List Entry) (e : Entry) where
  hear_carries : {r s : List ℕ} → Carries n r s (with_queue t w u q) → e.destination < n → Carries n r (put3 n Views u w e.destination e.value s) (rule.hear t w u e q)
  unfolding rule.hear
  hear_carries h lv =
      views_carries h.orderly u w (place_set e.destination e.value (t.view u w))
      (filled_put3 (deep_of (with_queue t w u q)) Views u w (t.view u w) (row_kept Views u w h.filled) tt lu lw e.destination e.value lv)

  -- What recompute does then is what it does in a delivery: it neither reads the queue from w to u nor writes it.
  heard_delivered : (rest : List Entry) → t.queue w u ≡ e ∷ rest → w ≢ u → Same (rule.recompute (rule.hear t w u e q) u e.destination) (with_queue (rule.deliver t w u) w u q)
  unfolding rule.recompute rule.hear
  heard_delivered rest i f = rw (deliver_head t w u e rest i) (record {
    n = refl;
    link = λ a b la lb. refl;
    distance = λ a c la lc. rw (distance_of_alike reads);
    downstream = λ a c la lc. rw (downstream_of_alike reads);
    view = λ a b c la lb lc. refl;
    queue = λ a b la lb. go a b (decides (tells_pair w u a b));
  })
    where
      reads : Alike (rule.hear t w u e rest) (rule.hear t w u e q) u e.destination
      reads = same_alike _ _ u e.destination refl (λ y l. refl) (λ y l. refl)

      go : (a b : ℕ) → Dec ((a ≡ w) × (b ≡ u)) → (rule.recompute (rule.hear t w u e q) u e.destination).queue a b ≡ cond (eqb a w && eqb b u) q ((rule.recompute (rule.hear t w u e rest) u e.destination).queue a b)
      go a b (yes p) = rw (p.0, p.1) (recompute_queue_other (rule.hear t w u e q) u e.destination w u (λ j. absurd (f j)) ∙ hear_queue_at t w u e q ∙ sym (choose_so (tells_pair w u w u) _ _ (refl, refl)))
      go a b (no g) = rw (choose_else (tells_pair w u a b) q ((rule.recompute (rule.hear t w u e rest) u e.destination).queue a b) g, distance_of_alike reads, choose_else (tells_pair w u a b) q (t.queue a b) g, choose_else (tells_pair w u a b) rest (t.queue a b) g)

  pub hear_at_carries : {r s : List ℕ} (p : ℕ) (rest : List Entry) → p < n → Carries n r s (with_queue t w u q) → get_or q p blank ≡ e → Sound t → t.n ≡ n → t.queue w u ≡ e ∷ rest → Carries n r (hear_at n w u p s) (with_queue (rule.deliver t w u) w u q)
  unfolding hear_at
  hear_at_carries {r} {s} p rest lp h at o count i =
      let v : get3 n Destinations w u p s ≡ e.destination = h.filled.deeps Destinations tt w u p lw lu lp ∙ ap (λ k. destination_at k p) (with_at w u t q) ∙ destination_at_get_or q p ∙ ap (λ f. f.destination) at in
      let d : get3 n Values w u p s ≡ e.value = h.filled.deeps Values tt w u p lw lu lp ∙ ap (λ k. value_at k p) (with_at w u t q) ∙ value_at_get_or q p ∙ ap (λ f. f.value) at in
      let linked : t.link u w ≡ 1 = (waiting_sends t w u o (rw count lw) (rw count lu) e rest i).1 in
      let lv : e.destination < n = rw count at (waiting_below t w u o (rw count lw) (rw count lu) e rest i) in
      rw (v, d, lt-ltb e.destination n lv)
      (carries_same (settle_carries t w u e q (hear_carries h lv) o lw lu lv linked) (with_queue (rule.deliver t w u) w u q) (heard_delivered rest i (waiting_apart o (rw count lw) (rw count lu) i)))
