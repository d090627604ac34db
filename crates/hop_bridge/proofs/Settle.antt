-- Settling a destination by the one view that changed is recompute, where that view was heard in a sound state. Assumes nothing.
use mathlib.Core.Path.{◌≡◌, sym, subst, ◌∙◌}
use mathlib.Core.Logic.{◌≢◌}
use mathlib.Core.Bool.{cond, ◌&&◌}
use mathlib.Core.List.{List}
use Prim.Native.Nat.{ℕ, suc, ◌+◌, ◌≤◌, ◌<◌}
use native.Mathlib.Decide.{ℕ_discrete, dec_lt}
use native.Mathlib.Omega.{arith}
use lib.Dec.{eqb, ltb}
use lib.Seq.{set-get_or}
use Rattle.hop_rule.specs.declared.Table.TheVariants.{Distances, Downstreams}
use Rattle.hop_rule.specs.State.{State, Entry}
use Rattle.hop_rule.specs.Rule as rule
use Rattle.hop_rule.specs.Sound.{Leads, Sound}
use Rattle.hop_laws.proofs.Tests.{Tells, decides, tells_eq, tells_lt, tells_and, choose_so, choose_else}
use Rattle.hop_laws.proofs.Rule.{distance_of_most}
use Rattle.hop_laws.proofs.Heard.{near_distance, near_downstream, same_distance, same_downstream}
use Rattle.hop_cells.specs.Cells.{get, put, get2, put2}
use Rattle.hop_steps.specs.Steps.{store, tell, recompute, settle}
use Rattle.hop_bridge.specs.Carries.{Carries}
use Rattle.hop_bridge.proofs.Best.{found}
use Rattle.hop_bridge.proofs.Recompute.{unchanged_carries, own_carries, kept_carries, changed_carries, recompute_carries}

module _ {n : ℕ} {r s : List ℕ} (t : State) (w u : ℕ) (head : Entry) (rest : List Entry) (h : Carries n r s (rule.hear t w u head rest)) (o : Sound t) (lw : w < n) (lu : u < n) (lv : head.destination < n) (linked : t.link u w ≡ 1) where
  abbrev v : ℕ
  v = head.destination

  abbrev near : ℕ
  near = head.value + 1

  abbrev after : State
  after = rule.hear t w u head rest

  count : t.n ≡ n
  unfolding rule.hear
  count = h.orderly.count

  below : {a : ℕ} → a < n → a < t.n
  below l = omega (arith, count)

  -- What u had for v is what recompute found.
  distance : t.distance u v ≡ rule.distance_of t u v
  distance = o.distances u v (below lu) (below lv)

  leads : Leads t u v
  leads = o.downstreams u v (below lu) (below lv)

  module _ (apart : u ≢ head.destination) where
    -- The view is the nearest, and was not.
    nearer : near < t.distance u v → Carries n r (tell n u v near (store n u v (record { distance = near; downstream = w }) s)) (rule.recompute after u v)
    unfolding rule.hear
    nearer l =
        let d : rule.distance_of after u v ≡ near = near_distance t w u head rest (below lw) linked apart distance (omega arith) ∙ omega arith in
        let x : (found after u v).downstream ≡ w = near_downstream t w u head rest (below lw) linked apart distance leads (omega arith) (omega (arith, distance, distance_of_most t u v)) (λ e. absurd (omega arith)) in
        let e : found after u v ≡ record { distance = near; downstream = w } = λ i. record { distance = d i; downstream = x i } in
        subst (λ b. Carries n r (tell n u v b.distance (store n u v b s)) (rule.recompute after u v)) e (changed_carries h u v lu lv apart (λ z. omega arith))

    -- It is as near as the nearest, over a lower neighbour: the distance stays, and need not be written.
    alike : near ≡ t.distance u v → t.distance u v < n → w < t.downstream u v → Carries n r (put2 n Downstreams u v w s) (rule.recompute after u v)
    unfolding rule.hear store get put
    alike e b l =
        let d : rule.distance_of after u v ≡ t.distance u v = near_distance t w u head rest (below lw) linked apart distance (omega arith) ∙ omega arith in
        let x : (found after u v).downstream ≡ w = near_downstream t w u head rest (below lw) linked apart distance leads (omega arith) (omega (arith, count)) (λ i. omega arith) in
        let was : t.distance u v ≡ get2 n Distances u v s = sym (h.filled.flats Distances tt u v lu lv) in
        let i : found after u v ≡ record { distance = get2 n Distances u v s; downstream = w } = λ i. record { distance = (d ∙ was) i; downstream = x i } in
        subst (λ y. Carries n r (put2 n Downstreams u v w y) (rule.recompute after u v)) (set-get_or s _ 0)
        (subst (λ b. Carries n r (store n u v b s) (rule.recompute after u v)) i (kept_carries h u v lu lv apart d))

    -- It is farther than the nearest over another neighbour, or as near over no lower one.
    idle : t.distance u v ≤ near → (t.downstream u v ≡ w → near ≤ t.distance u v) → (near ≡ t.distance u v → t.distance u v < n → t.downstream u v ≤ w) → Carries n r s (rule.recompute after u v)
    unfolding rule.hear
    idle far kept low =
        let f : t.distance u v ≤ suc head.value = omega arith in
        let k : t.downstream u v ≡ w → suc head.value ≤ t.distance u v = λ e. omega (arith, kept e) in
        unchanged_carries h u v lu lv (same_distance t w u head rest (below lw) linked apart distance leads f k)
        (same_downstream t w u head rest (below lw) linked apart distance leads f k (λ e b. low (omega arith) (omega (arith, count))))

  pub settle_carries : Carries n r (settle n u head.destination w head.value s) (rule.recompute (rule.hear t w u head rest) u head.destination)
  unfolding settle rule.hear
  settle_carries = go (ℕ_discrete u v)
    where
      old : ℕ
      old = t.distance u v

      x : ℕ
      x = t.downstream u v

      lower : Tells (ltb old n && ltb w x) ((old < n) × (w < x))
      lower = tells_and (tells_lt old n) (tells_lt w x)

      told : List ℕ
      told = tell n u v near (store n u v (record { distance = near; downstream = w }) s)

      same : u ≢ v → near ≡ old → Dec ((old < n) × (w < x)) → Carries n r (cond (ltb old n && ltb w x) (put2 n Downstreams u v w s) s) (rule.recompute after u v)
      same f e (yes p) = rw (choose_so lower (put2 n Downstreams u v w s) s p) (alike f e p.0 p.1)
      same f e (no g) = rw (choose_else lower (put2 n Downstreams u v w s) s g) (idle f (omega arith) (λ i. omega arith) (λ i l. let z : w < x → ⊥ = λ b. g (l, b) in omega arith))

      more : u ≢ v → old < near → Dec (x ≡ w) → Carries n r (cond (eqb x w) (recompute n u v s) s) (rule.recompute after u v)
      more f l (yes e) = rw (choose_so (tells_eq x w) (recompute n u v s) s e) (recompute_carries h u v lu lv)
      more f l (no g) = rw (choose_else (tells_eq x w) (recompute n u v s) s g) (idle f (omega arith) (λ e. absurd (g e)) (λ e. absurd (omega arith)))

      by : u ≢ v → Dec (near < old) → Dec (near ≡ old)
          → Carries n r (cond (ltb near old) told (cond (eqb near old) (cond (ltb old n && ltb w x) (put2 n Downstreams u v w s) s) (cond (eqb x w) (recompute n u v s) s))) (rule.recompute after u v)
      by f (yes l) d = rw (choose_so (tells_lt near old) told _ l) (nearer f l)
      by f (no l) (yes e) = rw (choose_else (tells_lt near old) told _ l, choose_so (tells_eq near old) _ (cond (eqb x w) (recompute n u v s) s) e) (same f e (decides lower))
      by f (no l) (no e) = rw (choose_else (tells_lt near old) told _ l, choose_else (tells_eq near old) _ (cond (eqb x w) (recompute n u v s) s) e) (more f (omega arith) (ℕ_discrete x w))

      go : Dec (u ≡ v) → Carries n r (settle n u v w head.value s) (rule.recompute after u v)
      go (yes e) = rw (choose_so (tells_eq u v) s _ e) (own_carries h u v lu lv e)
      go (no f) = rw (choose_else (tells_eq u v) s _ f, h.filled.flats Distances tt u v lu lv, h.filled.flats Downstreams tt u v lu lv) (by f (dec_lt near old) (ℕ_discrete near old))
