-- What recompute finds on the bytes is what it finds on the state: the least distance, and the lowest neighbour that gives it. Assumes nothing.
use mathlib.Core.Path.{◌≡◌, refl, sym, ap, subst, ◌∙◌}
use mathlib.Core.Logic.{◌≢◌}
use mathlib.Core.Bool.{cond, ◌&&◌}
use mathlib.Core.List.{List}
use Prim.Native.Nat.{ℕ, suc, ◌+◌, ◌≤◌, ◌<◌, min}
use native.Mathlib.Decide.{ℕ_discrete, dec_lt}
use native.Mathlib.Omega.{arith}
use lib.Dec.{eqb, ltb}
use Rattle.hop_rule.specs.declared.Table.TheVariants.{Links, Views}
use Rattle.hop_rule.specs.State.{State}
use Rattle.hop_rule.specs.Rule.{least, distance_of, downstream_of}
use Rattle.hop_laws.proofs.Tests.{Tells, tells_eq, tells_lt, tells_and, choose_so, choose_else}
use Rattle.hop_laws.proofs.Rule.{least_most, least_under, distance_of_other, downstream_of_none, downstream_of_is}
use Rattle.hop_cells.specs.declared.Way.{Way}
use Rattle.hop_steps.specs.Steps.{nearer, best}
use Rattle.hop_bridge.specs.Carries.{Carries}
use Rattle.hop_bridge.proofs.Rows.{loop_reaches}

-- b is what the neighbours below k give.
record Found (t : State) (u v k : ℕ) (b : Way) : Type 0 where
  distance : b.distance ≡ least t u v k
  none : b.distance ≡ t.n → b.downstream ≡ 255
  below : b.distance < t.n → b.downstream < k
  linked : b.distance < t.n → t.link u b.downstream ≡ 1
  gives : b.distance < t.n → suc (t.view u b.downstream v) ≡ b.distance
  lowest : (w : ℕ) → w < k → t.link u w ≡ 1 → suc (t.view u w v) ≡ b.distance → b.distance < t.n → b.downstream ≤ w

-- What recompute gives, as the code has it.
abbrev pub found : State → ℕ → ℕ → Way
found t u v = record { distance = distance_of t u v; downstream = downstream_of t u v (distance_of t u v) }

module _ (t : State) (u v : ℕ) where
  found_none : Found t u v 0 (record { distance = t.n; downstream = 255 })
  unfolding least
  found_none = record {
    distance = refl;
    none = λ e. refl;
    below = λ l. absurd (omega arith);
    linked = λ l. absurd (omega arith);
    gives = λ l. absurd (omega arith);
    lowest = λ w l e g b. absurd (omega arith);
  }

  -- One neighbour more.
  found_more : (k : ℕ) (b : Way) → Found t u v k b → Found t u v (suc k) (cond (eqb (t.link u k) 1 && ltb (t.view u k v + 1) b.distance) (record { distance = t.view u k v + 1; downstream = k }) b)
  unfolding least
  found_more k b f = go (ℕ_discrete (t.link u k) 1) (dec_lt (t.view u k v + 1) b.distance)
    where
      d : ℕ
      d = t.view u k v + 1

      test : Tells (eqb (t.link u k) 1 && ltb d b.distance) ((t.link u k ≡ 1) × (d < b.distance))
      test = tells_and (tells_eq (t.link u k) 1) (tells_lt d b.distance)

      -- It gives no less than those below it.
      kept : least t u v (suc k) ≡ least t u v k → Found t u v (suc k) b
      kept i = record {
        distance = f.distance ∙ sym i;
        none = f.none;
        below = λ l. omega (arith, f.below l);
        linked = f.linked;
        gives = f.gives;
        lowest = λ w lw e j l. under w e j l (dec_lt w k);
      }
        where
          under : (w : ℕ) → t.link u w ≡ 1 → suc (t.view u w v) ≡ b.distance → b.distance < t.n → Dec (w < k) → b.downstream ≤ w
          under w e j l (yes lw) = f.lowest w lw e j l
          under w e j l (no lw) = omega (arith, f.below l)

      linked_least : t.link u k ≡ 1 → least t u v (suc k) ≡ min (suc (t.view u k v)) (least t u v k)
      linked_least e = choose_so (tells_eq (t.link u k) 1) _ _ e

      go : Dec (t.link u k ≡ 1) → Dec (d < b.distance) → Found t u v (suc k) (cond (eqb (t.link u k) 1 && ltb d b.distance) (record { distance = d; downstream = k }) b)
      go (yes e) (yes l) = rw (choose_so test (record { distance = d; downstream = k }) b (e, l)) (record {
        distance = omega (arith, linked_least e, f.distance);
        none = λ z. absurd (omega (arith, f.distance, least_most t u v k));
        below = λ z. omega arith;
        linked = λ z. e;
        gives = λ z. omega arith;
        lowest = λ w lw q j z. past w q j (dec_lt w k);
      })
        where
          past : (w : ℕ) → t.link u w ≡ 1 → suc (t.view u w v) ≡ d → Dec (w < k) → k ≤ w
          past w q j (yes lw) = absurd (omega (arith, f.distance, least_under t u v k w lw q))
          past w q j (no lw) = omega arith
      go (yes e) (no l) = rw (choose_else test (record { distance = d; downstream = k }) b (λ z. l z.1)) (kept (omega (arith, linked_least e, f.distance)))
      go (no e) l = rw (choose_else test (record { distance = d; downstream = k }) b (λ z. e z.0)) (kept (choose_else (tells_eq (t.link u k) 1) _ _ e))

  -- What all neighbours give is the route.
  found_route : (b : Way) → u ≢ v → Found t u v t.n b → b ≡ found t u v
  found_route b f g =
      let d : b.distance ≡ distance_of t u v = g.distance ∙ sym (distance_of_other t u v f) in
      let x : b.downstream ≡ downstream_of t u v (distance_of t u v) = go (ℕ_discrete b.distance t.n) ∙ ap (downstream_of t u v) d in
      λ i. record { distance = d i; downstream = x i }
    where
      go : Dec (b.distance ≡ t.n) → b.downstream ≡ downstream_of t u v b.distance
      go (yes e) = g.none e ∙ sym (downstream_of_none t u v b.distance f e)
      go (no e) =
          let l : b.distance < t.n = omega (arith, g.distance, least_most t u v t.n) in
          sym (downstream_of_is t u v b.distance b.downstream f g.distance l (record { below = g.below l; linked = g.linked l; gives = g.gives l; lowest = λ w lw q i. g.lowest w lw q i l }))

pub best_route : {n : ℕ} {r s : List ℕ} {t : State} → Carries n r s t → (u v : ℕ) → u < n → v < n → u ≢ v → best n u v s ≡ found t u v
unfolding best nearer
best_route {n} {r} {s} {t} h u v lu lv f =
    let all : Found t u v n (best n u v s) =
    loop_reaches (Found t u v) n (nearer n u v s) (record { distance = n; downstream = 255 })
    (subst (λ m. Found t u v 0 (record { distance = m; downstream = 255 })) h.orderly.count (found_none t u v))
    (λ k b lk g. rw (h.filled.flats Links tt u k lu lk, h.filled.deeps Views tt u k v lu lk lv) (found_more t u v k b g)) in
    found_route t u v (best n u v s) f (subst (λ m. Found t u v m (best n u v s)) (sym h.orderly.count) all)
