-- A route is what recompute gives exactly when every up link allows it and, below n, its downstream gives it. So a route is judged without searching for it. Assumes nothing.
use mathlib.Core.Path.{◌≡◌, sym, ◌∙◌}
use mathlib.Core.Logic.{◌≢◌}
use Prim.Native.Nat.{ℕ, suc, ◌+◌, ◌≤◌, ◌<◌}
use native.Mathlib.Decide.{ℕ_discrete}
use native.Mathlib.Omega.{arith}
use Rattle.hop_rule.specs.State.{State}
use Rattle.hop_rule.specs.Rule.{least}
use Rattle.hop_rule.specs.Sound.{Leads}
use Rattle.hop_laws.specs.Current.{Current}
use Rattle.hop_laws.proofs.Rule.{least_most, least_under, least_above, distance_of_own, distance_of_other, distance_of_most, downstream_of_own, downstream_of_none, downstream_of_is, current_own, current_none, current_gives}
use Rattle.hop_sound_rows.proofs.SoundTests.{Allows}

-- Every up link of u allows distance d to v by way of h.
abbrev pub Allowed : State → ℕ → ℕ → ℕ → ℕ → Type 0
Allowed s u v d h = (w : ℕ) → w < s.n → s.link u w ≡ 1 → Allows s.n w (s.view u w v) d h

-- The route is u's own, or there is none, or h gives it.
abbrev pub Given : State → ℕ → ℕ → ℕ → ℕ → Type 0
Given s u v d h =
    (u ≡ v → (d ≡ 0) × (h ≡ u))
    × (u ≢ v → (d ≡ s.n → h ≡ 255) × (d ≢ s.n → (d < s.n) × ((h < s.n) × ((s.link u h ≡ 1) × (s.view u h v + 1 ≡ d)))))

module _ (s : State) (u v : ℕ) where
  abbrev d : ℕ
  d = s.distance u v

  abbrev h : ℕ
  h = s.downstream u v

  pub given_current : Allowed s u v (s.distance u v) (s.downstream u v) → Given s u v (s.distance u v) (s.downstream u v) → Current s u v
  given_current a g = go (ℕ_discrete u v)
    where
      above : d ≤ s.n → d ≤ least s u v s.n
      above l = least_above s u v s.n d l (λ w lw q. (a w lw q).0)

      other : u ≢ v → Dec (d ≡ s.n) → (d ≡ least s u v s.n) × Leads s u v
      other f (yes e) = (omega (arith, above (omega arith), least_most s u v s.n), (g.1 f).0 e ∙ sym (downstream_of_none s u v d f e))
      other f (no e) =
          let (l, (lh, (q, i))) = (g.1 f).1 e in
          let m : d ≡ least s u v s.n = omega (arith, above (omega arith), least_under s u v s.n h lh q) in
          (m, sym (downstream_of_is s u v d h f m l (record { below = lh; linked = q; gives = omega arith; lowest = λ w lw k j. (a w lw k).1 j e })))

      go : Dec (u ≡ v) → Current s u v
      go (yes e) = record { distance = (g.0 e).0 ∙ sym (distance_of_own s u v e); downstream = (g.0 e).1 ∙ sym (downstream_of_own s u v d e) }
      go (no f) = let (m, i) = other f (ℕ_discrete d s.n) in record { distance = m ∙ sym (distance_of_other s u v f); downstream = i }

  module _ (c : Current s u v) where
    most : d ≤ s.n
    most = omega (arith, c.distance, distance_of_most s u v)

    pub current_given : Given s u v (s.distance u v) (s.downstream u v)
    current_given = (
      (λ e. (c.distance ∙ distance_of_own s u v e, current_own c e)),
      (λ f. (current_none c f, λ e. let l : d < s.n = omega (arith, most) in let r = current_gives c f l in (l, (r.below, (r.linked, omega (arith, r.gives)))))),
    )

    pub current_allowed : Allowed s u v (s.distance u v) (s.downstream u v)
    current_allowed w lw q = go (ℕ_discrete u v)
      where
        go : Dec (u ≡ v) → Allows s.n w (s.view u w v) d h
        go (yes e) = let z : d ≡ 0 = c.distance ∙ distance_of_own s u v e in (omega arith, λ i. absurd (omega arith))
        go (no f) =
            let l : d ≤ suc (s.view u w v) = omega (arith, c.distance, distance_of_other s u v f, least_under s u v s.n w lw q) in
            (l, λ i g. (current_gives c f (omega (arith, most))).lowest w lw q i)
