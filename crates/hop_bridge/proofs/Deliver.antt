-- Deliveries on the bytes are deliveries on a sound state, also from an empty queue: the first entries are heard where they stand, and then leave together. Assumes nothing.
use mathlib.Core.Path.{◌≡◌, refl, sym, subst, ◌∙◌}
use mathlib.Core.Bool.{◌&&◌}
use mathlib.Core.List.{List, ◌∷◌}
use Prim.Native.Nat.{ℕ, suc, ◌+◌, ◌-◌, ◌≤◌, ◌<◌, min}
use native.Mathlib.Decide.{ℕ_discrete}
use native.Mathlib.Omega.{arith}
use lib.Dec.{eqb}
use lib.ListN.{length, get_or, drop, length-drop, drop_of_length-le}
use lib.Seq.{drop-cons}
use Rattle.hop_rule.specs.Words.{loop}
use Rattle.hop_rule.specs.State.{State, Entry, with_queue}
use Rattle.hop_rule.specs.Rule as rule
use Rattle.hop_rule.specs.Stored.{destination_at, value_at}
use Rattle.hop_rule.specs.Sound.{Sound}
use Rattle.hop_laws.specs.Holds.{blank}
use Rattle.hop_laws.proofs.Tests.{tells_eq, tells_pair, choose_so, choose_else}
use Rattle.hop_laws.proofs.Words.{loop_none, loop_idle}
use Rattle.hop_laws.proofs.Rule.{deliver_none}
use Rattle.hop_rest.proofs.Frame.{deliver_n, deliver_queue_left}
use Rattle.hop_rest.proofs.Kept.{deliver_keeps_sound}
use Rattle.hop_queues.specs.Queues.{take_first}
use Rattle.hop_steps.specs.Steps.{hear_at, hear_first, drain, deliver}
use Rattle.hop_bridge.specs.Carries.{Carries, CarriesSound}
use Rattle.hop_bridge.proofs.Choice.{cond_idle, cond_twice}
use Rattle.hop_bridge.proofs.Rows.{loop_reaches}
use Rattle.hop_bridge.proofs.Queued.{queued, take_first_queued}
use Rattle.hop_bridge.proofs.Carries.{same_queues, carries_same, queue_carries}
use Rattle.hop_bridge.proofs.Entries.{destinations_moved, values_moved, tidy_short, tidy_drop}
use Rattle.hop_bridge.proofs.Send.{held_is}
use Rattle.hop_bridge.proofs.Hear.{with_at, with_same, waiting_apart, hear_at_carries}

module _ {n : ℕ} {r s : List ℕ} {t : State} (h : Carries n r s t) (w u : ℕ) (lw : w < n) (lu : u < n) where
  take_first_carries : (j m : ℕ) → length (t.queue w u) ≡ m + j → Carries n r (take_first n w u j m s) (with_queue t w u (drop j (t.queue w u)))
  take_first_carries j m e =
      let short : length (t.queue w u) ≤ n = tidy_short (h.orderly.tidy w u lw lu) in
      queue_carries h.orderly (drop j (t.queue w u))
      (take_first_queued (queued h.filled) lw lu j m (destination_at (drop j (t.queue w u))) (value_at (drop j (t.queue w u))) (omega arith) (destinations_moved (t.queue w u) j m e) (values_moved (t.queue w u) j m e))
      (tidy_drop j (t.queue w u) (h.orderly.tidy w u lw lu)) (omega (arith, length-drop j (t.queue w u))) (λ c lc. refl) (λ c lc. refl)

-- k deliveries from w to u.
abbrev after : State → ℕ → ℕ → ℕ → State
after t w u k = loop k (λ i y. rule.deliver y w u) t

-- The first k entries of the queue from w to u are heard, and it is as it was in t.
record Hearing (n : ℕ) (r : List ℕ) (t : State) (w u k : ℕ) (s : List ℕ) : Type 0 where
  carries : Carries n r s (with_queue (after t w u k) w u (t.queue w u))
  sound : Sound (after t w u k)
  count : (after t w u k).n ≡ n
  left : (after t w u k).queue w u ≡ drop k (t.queue w u)

module _ {n : ℕ} {r s : List ℕ} {t : State} (h : CarriesSound n r s t) (w u : ℕ) (lw : w < n) (lu : u < n) where
  abbrev q : List Entry
  q = t.queue w u

  hears : (k : ℕ) → k ≤ length q → Hearing n r t w u k (hear_first n w u k s)
  unfolding hear_first loop
  hears k l = loop_reaches (Hearing n r t w u) k (hear_at n w u) s
      (record {
        carries = carries_same h.carries (with_queue t w u q) (with_same w u t q refl);
        sound = h.sound;
        count = h.carries.orderly.count;
        left = refl;
      })
      (λ i x li g. next i x (omega arith) g)
    where
      short : length q ≤ n
      short = tidy_short (h.carries.orderly.tidy w u lw lu)

      next : (i : ℕ) (x : List ℕ) → i < length q → Hearing n r t w u i x → Hearing n r t w u (suc i) (hear_at n w u i x)
      next i x li g =
          let waits : (after t w u i).queue w u ≡ get_or q i blank ∷ drop (suc i) q = g.left ∙ drop-cons q i blank li in
          let bw : w < (after t w u i).n = rw g.count lw in
          let bu : u < (after t w u i).n = rw g.count lu in
          record {
            carries = hear_at_carries w u lw lu (after t w u i) q (get_or q i blank) i (drop (suc i) q) (omega (arith, short)) g.carries refl g.sound g.count waits;
            sound = deliver_keeps_sound (after t w u i) w u g.sound bw bu;
            count = deliver_n (after t w u i) w u ∙ g.count;
            left = deliver_queue_left (after t w u i) w u (get_or q i blank) (drop (suc i) q) waits (waiting_apart g.sound bw bu waits);
          }

  pub drain_sound : (k : ℕ) → CarriesSound n r (drain n w u k s) (loop k (λ i y. rule.deliver y w u) t)
  unfolding drain
  drain_sound k = go (ℕ_discrete k 0)
    where
      m : ℕ
      m = length q

      j : ℕ
      j = min k m

      some : Hearing n r t w u j (hear_first n w u j s)
      some = hears j (omega arith)

      -- More deliveries find the queue empty.
      same : after t w u k ≡ after t w u j
      same = loop_idle j k _ t (omega arith) (λ i a b. let all : length q ≤ j = omega arith in deliver_none (after t w u j) w u (some.left ∙ drop_of_length-le q all))

      taken : Carries n r (take_first n w u j (m - j) (hear_first n w u j s)) (after t w u j)
      taken =
          let y : State = with_queue (after t w u j) w u q in
          carries_same (take_first_carries some.carries w u lw lu j (m - j) (rw (with_at w u (after t w u j) q) (omega arith))) (after t w u j)
          (same_queues (after t w u j) _ _ (λ a b la lb. cond_twice (eqb a w && eqb b u) (drop j (y.queue w u)) q ((after t w u j).queue a b)
          ∙ cond_idle (eqb a w && eqb b u) (drop j (y.queue w u)) ((after t w u j).queue a b) (λ i. let at = (tells_pair w u a b).shows i in rw (at.0, at.1, with_at w u (after t w u j) q) (sym some.left))))

      go : Dec (k ≡ 0) → CarriesSound n r (drain n w u k s) (after t w u k)
      go (yes e) = rw (choose_so (tells_eq k 0) s _ e, e, loop_none) h
      go (no f) = rw (choose_else (tells_eq k 0) s _ f, held_is h.carries w u lw lu) (subst (CarriesSound n r _) (sym same) (record { carries = taken; sound = some.sound }))

  pub deliver_sound : CarriesSound n r (deliver n w u s) (rule.deliver t w u)
  unfolding deliver loop
  deliver_sound = drain_sound 1
