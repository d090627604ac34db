-- Link up, one end's notice that a link is lost, and link down by notices: on the bytes they are the rule's. Assumes nothing.
use mathlib.Core.Path.{refl, sym, ap, subst, ◌∙◌}
use mathlib.Core.Bool.{Bool, true, false, cond}
use mathlib.Core.List.{List, []}
use Prim.Native.Nat.{ℕ, ◌<◌}
use lib.Dec.{ltb}
use Rattle.hop_rule.specs.declared.Table.TheVariants.{Links, Views}
use Rattle.hop_rule.specs.Words.{loop, listed}
use Rattle.hop_rule.specs.State.{State, Entry, with_link, with_views, with_queue}
use Rattle.hop_rule.specs.Rule as rule
use Rattle.hop_rule.specs.Notice as ends
use Rattle.hop_rule.specs.Stored.{destination_at, value_at}
use Rattle.hop_laws.specs.Holds.{deep_of, blank}
use Rattle.hop_laws.proofs.Words.{loop_both, length_listed, get_or_listed}
use Rattle.hop_laws.proofs.Queues.{listed_differ, listed_each}
use Rattle.hop_laws.proofs.Read.{destination_at_get_or, value_at_get_or}
use Rattle.hop_cells.specs.Cells.{put2, fill}
use Rattle.hop_queues.specs.Queues.{offer_all, empty}
use Rattle.hop_steps.specs.Steps.{recompute, link_up, lose, recompute_all, notice, missing, link_down}
use Rattle.hop_bridge.specs.Carries.{Carries}
use Rattle.hop_bridge.proofs.Filled.{row_kept}
use Rattle.hop_bridge.proofs.Rows.{fill_row}
use Rattle.hop_bridge.proofs.Queued.{queued, offer_all_queued, empty_queued}
use Rattle.hop_bridge.proofs.Carries.{link_carries, views_carries, queue_carries}
use Rattle.hop_bridge.proofs.Recompute.{recompute_carries}

-- ---- link up

-- All that w has for its neighbours.
abbrev offers : State → ℕ → ℕ → List Entry
offers t n w = listed n (λ v. record { destination = v; value = t.distance w v })

offer_all_carries : {n : ℕ} {r s : List ℕ} {t : State} → Carries n r s t → (w u : ℕ) → w < n → u < n → Carries n r (offer_all n w u s) (with_queue t w u (offers t t.n w))
offer_all_carries {n} {r} {s} {t} h w u lw lu =
    subst (λ m. Carries n r (offer_all n w u s) (with_queue t w u (offers t m w))) (sym h.orderly.count)
    (queue_carries h.orderly (offers t n w) (offer_all_queued (queued h.filled) lw lu)
    (record { differ = listed_differ entry (λ v. refl) n; below = listed_each (λ e. e.destination < n) n entry (λ v l. l) })
    (sym (length_listed n entry))
    (λ c lc. sym (destination_at_get_or (offers t n w) c ∙ ap (λ e. e.destination) (get_or_listed n entry c blank lc)))
    (λ c lc. sym (value_at_get_or (offers t n w) c ∙ ap (λ e. e.value) (get_or_listed n entry c blank lc))))
  where
    entry : ℕ → Entry
    entry v = record { destination = v; value = t.distance w v }

pub link_up_carries : {n : ℕ} {r s : List ℕ} {t : State} → Carries n r s t → (a b : ℕ) → a < n → b < n → Carries n r (link_up n a b s) (rule.link_up t a b)
unfolding link_up rule.link_up
link_up_carries h a b la lb = offer_all_carries (offer_all_carries (link_carries (link_carries h a b 1 la lb) b a 1 lb la) a b la lb) b a lb la

-- ---- a link is lost

empty_carries : {n : ℕ} {r s : List ℕ} {t : State} → Carries n r s t → (w u : ℕ) → w < n → u < n → Carries n r (empty n w u s) (with_queue t w u [])
unfolding destination_at value_at
empty_carries h w u lw lu = queue_carries h.orderly [] (empty_queued (queued h.filled) lw lu) (record { differ = tt; below = tt }) refl (λ c lc. refl) (λ c lc. refl)

lose_carries : {n : ℕ} {r s : List ℕ} {t : State} → Carries n r s t → (a b : ℕ) → a < n → b < n → Carries n r (lose n a b s) (ends.lose t a b)
unfolding lose ends.lose
lose_carries {n} {r} {s} {t} h a b la lb =
    let down : Carries n r (put2 n Links a b 0 s) (with_link t a b 0) = link_carries h a b 0 la lb in
    let blind : Carries n r (fill n Views a b n (put2 n Links a b 0 s)) (with_views (with_link t a b 0) a b (λ v. n)) =
    views_carries down.orderly a b (λ v. n) (fill_row (deep_of (with_link t a b 0)) Views a b (t.view a b) (row_kept Views a b down.filled) tt la lb n) in
    subst (λ m. Carries n r (lose n a b s) (with_queue (with_queue (with_views (with_link t a b 0) a b (λ v. m)) a b []) b a [])) (sym h.orderly.count)
    (empty_carries (empty_carries blind a b la lb) b a lb la)

recompute_all_carries : {n : ℕ} {r s : List ℕ} {t : State} → Carries n r s t → (u : ℕ) → u < n → Carries n r (recompute_all n u s) (rule.recompute_all t u)
unfolding recompute_all rule.recompute_all
recompute_all_carries {n} {r} {s} {t} h u lu =
    subst (λ m. Carries n r (loop n (recompute n u) s) (loop m (λ v y. rule.recompute y u v) t)) (sym h.orderly.count)
    (loop_both (Carries n r) n (recompute n u) (λ v y. rule.recompute y u v) s t h (λ v x y lv k. recompute_carries k u v lu lv))

pub notice_carries : {n : ℕ} {r s : List ℕ} {t : State} → Carries n r s t → (a b : ℕ) → a < n → b < n → Carries n r (notice n a b s) (ends.notice t a b)
unfolding notice ends.notice
notice_carries h a b la lb = recompute_all_carries (lose_carries h a b la lb) a la

missing_carries : {n : ℕ} {r s : List ℕ} {t : State} → Carries n r s t → (a b : ℕ) → a < n → b < n → Carries n r (missing n a b s) (ends.missing t a b)
unfolding missing ends.missing
missing_carries {n} {r} {s} {t} h a b la lb = rw (h.filled.flats Links tt a b la lb) (go (rule.up t a b))
  where
    go : (c : Bool) → Carries n r (cond c (notice n a b s) s) (cond c (ends.notice t a b) t)
    go true = notice_carries h a b la lb
    go false = h

pub link_down_carries : {n : ℕ} {r s : List ℕ} {t : State} → Carries n r s t → (a b : ℕ) → a < n → b < n → Carries n r (link_down n a b s) (ends.link_down t a b)
unfolding link_down ends.link_down
link_down_carries {n} {r} {s} {t} h a b la lb = go (ltb a b)
  where
    go : (c : Bool) → Carries n r (cond c (missing n b a (missing n a b s)) (missing n a b (missing n b a s))) (cond c (ends.missing (ends.missing t a b) b a) (ends.missing (ends.missing t b a) a b))
    go true = missing_carries (missing_carries h a b la lb) b a lb la
    go false = missing_carries (missing_carries h b a lb la) a b la lb
