-- Sending on the bytes is sending on the state: the bound on a length and the case of a full queue are idle. Assumes nothing.
use mathlib.Core.Path.{◌≡◌, sym, ◌∙◌}
use mathlib.Core.Bool.{cond, ◌&&◌}
use mathlib.Core.List.{List, [], ◌∷◌, ◌++◌}
use Prim.Native.Nat.{ℕ, ◌≤◌, ◌<◌}
use native.Mathlib.Decide.{dec_lt}
use native.Mathlib.Omega.{arith}
use lib.Dec.{eqb, ltb}
use lib.ListN.{length, get_or, set, length-set, length-append}
use borrow.Author.Tests.{eqb-true, eqb-false}
use Rattle.hop_rule.specs.declared.Table.TheVariants.{Lengths, Destinations, Values}
use Rattle.hop_rule.specs.State.{State, Entry, with_queue}
use Rattle.hop_rule.specs.Rule as rule
use Rattle.hop_rule.specs.Stored.{destination_at}
use Rattle.hop_rule.specs.Sound.{Waits}
use Rattle.hop_laws.specs.Holds.{blank}
use Rattle.hop_laws.proofs.Tests.{Tells, decides, tells_eq, tells_lt, tells_and, choose_so, choose_else}
use Rattle.hop_laws.proofs.Words.{first_passes, first_before}
use Rattle.hop_laws.proofs.Read.{destination_at_get_or}
use Rattle.hop_cells.specs.Cells.{get3, put3}
use Rattle.hop_queues.specs.Queues.{held, first_at, waits_at, join, send}
use Rattle.hop_bridge.specs.Carries.{Tidy, Carries}
use Rattle.hop_bridge.proofs.Choice.{cond_idle}
use Rattle.hop_bridge.proofs.Queued.{queued, put_value, join_queued}
use Rattle.hop_bridge.proofs.Carries.{queue_carries}
use Rattle.hop_bridge.proofs.Entries.{waits_place, send_set, send_joins, get_d_set, get_or_join, tidy_short, tidy_room, tidy_send, destination_at_set, value_at_set}

module _ {n : ℕ} {r s : List ℕ} {t : State} (h : Carries n r s t) (w u : ℕ) (lw : w < n) (lu : u < n) where
  short : length (t.queue w u) ≤ n
  short = tidy_short (h.orderly.tidy w u lw lu)

  -- The length byte is the length, and at most n.
  pub held_is : held n w u s ≡ length (t.queue w u)
  held_is = rw (h.filled.flats Lengths tt w u lw lu) (omega (arith, short))

  destination_is : (p : ℕ) → p < length (t.queue w u) → get3 n Destinations w u p s ≡ (get_or (t.queue w u) p blank).destination
  destination_is p l = h.filled.deeps Destinations tt w u p lw lu (omega (arith, short)) ∙ destination_at_get_or (t.queue w u) p

  module _ (v d : ℕ) (lv : v < n) where
    abbrev e : Entry
    e = record { destination = v; value = d }

    abbrev q : List Entry
    q = t.queue w u

    tidy : Tidy n q
    tidy = h.orderly.tidy w u lw lu

    -- v waits at place p: its value is replaced there.
    replaced : (p : ℕ) → p < length q → (get_or q p blank).destination ≡ v → Carries n r (put3 n Values w u p d s) (with_queue t w u (rule.send e q))
    replaced p l i =
        queue_carries h.orderly (rule.send e q) (put_value (queued h.filled) lw lu p d (omega (arith, short))) (tidy_send tidy e lv)
        (rw is (sym (length-set q p e)))
        (λ c lc. sym (cond_idle (eqb c p) v (destination_at q c) (λ z. rw (eqb-true c p z, destination_at_get_or q p) (sym i))) ∙ destination_at_set q (rule.send e q) p c e (at c))
        (λ c lc. value_at_set q (rule.send e q) p c e (at c))
      where
        is : rule.send e q ≡ set q p e
        is = send_set e q p tidy.differ l i

        at : (c : ℕ) → get_or (rule.send e q) c blank ≡ cond (eqb c p) e (get_or q c blank)
        at c = rw is (get_d_set q p c e l)

    -- v does not wait: the entry joins the tail.
    joined : (Waits v q → ⊥) → Carries n r (join n w u v d (length q) s) (with_queue t w u (rule.send e q))
    joined f =
        queue_carries h.orderly (rule.send e q) (join_queued (queued h.filled) lw lu v d (length q) (tidy_room tidy e lv f)) (tidy_send tidy e lv)
        (rw is (sym (length-append q (e ∷ []))))
        (λ c lc. destination_at_set q (rule.send e q) (length q) c e (at c))
        (λ c lc. value_at_set q (rule.send e q) (length q) c e (at c))
      where
        is : rule.send e q ≡ q ++ e ∷ []
        is = send_joins e q f

        at : (c : ℕ) → get_or (rule.send e q) c blank ≡ cond (eqb c (length q)) e (get_or q c blank)
        at c = rw is (get_or_join q c e)

    -- A place at which v waits, or the length.
    place : ℕ
    place = waits_at n w u v (length q) s

    -- Place v is taken where v waits there.
    tells_here : Tells (ltb v (length q) && eqb (get3 n Destinations w u v s) v) ((v < length q) × (get3 n Destinations w u v s ≡ v))
    tells_here = tells_and (tells_lt v (length q)) (tells_eq (get3 n Destinations w u v s) v)

    place_found : place < length q → (get_or q place blank).destination ≡ v
    unfolding place waits_at first_at
    place_found = go (decides tells_here)
      where
        go : Dec ((v < length q) × (get3 n Destinations w u v s ≡ v)) → place < length q → (get_or q place blank).destination ≡ v
        go (yes i) l = rw (choose_so tells_here v (first_at n w u v (length q) s) i) (sym (destination_is v i.0) ∙ i.1)
        go (no f) l = let e = choose_else tells_here v (first_at n w u v (length q) s) f in rw e (sym (destination_is _ (rw e at l)) ∙ eqb-true _ v (first_passes (length q) _ (rw e at l)))

    place_none : length q ≤ place → Waits v q → ⊥
    unfolding place waits_at first_at
    place_none = go (decides tells_here)
      where
        go : Dec ((v < length q) × (get3 n Destinations w u v s ≡ v)) → length q ≤ place → Waits v q → ⊥
        go (yes i) l m = omega (arith, i.0, rw (choose_so tells_here v (first_at n w u v (length q) s) i) at l)
        go (no f) l m =
            let e = choose_else tells_here v (first_at n w u v (length q) s) f in
            let at = waits_place v q m in
            eqb-false _ v (first_before (length q) (λ p. eqb (get3 n Destinations w u p s) v) at.0 (omega (arith, at.1, rw e at l))) (destination_is at.0 at.1 ∙ at.2)

    pub send_carries : Carries n r (send n w u v d s) (with_queue t w u (rule.send (record { destination = v; value = d }) (t.queue w u)))
    unfolding send place
    send_carries = rw held_is (go (dec_lt place (length q)))
      where
        full : List ℕ
        full = cond (ltb (length q) n) (join n w u v d (length q) s) s

        go : Dec (place < length q) → Carries n r (cond (ltb place (length q)) (put3 n Values w u place d s) full) (with_queue t w u (rule.send e q))
        go (yes l) = rw (choose_so (tells_lt place (length q)) (put3 n Values w u place d s) full l) (replaced place l (place_found l))
        go (no l) =
            let f : Waits v q → ⊥ = place_none (omega arith) in
            rw (choose_else (tells_lt place (length q)) (put3 n Values w u place d s) full l, choose_so (tells_lt (length q) n) (join n w u v d (length q) s) s (tidy_room tidy e lv f)) (joined f)
