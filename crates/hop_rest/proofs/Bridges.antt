-- One link more, as R-1 tries it: t has the links of s and that of a and b besides, and trusts the views that s does. Each trail of s is one of t, so that at rest no distance is larger in t, whatever links have just one end up. Of hop counts that of a and b is smaller in t; where s joins a and b, it joins all that t joins, going round; where it does not, the link joins pairs and shortens no route of s. Assumes nothing.
use mathlib.Core.Path.{◌≡◌, refl, sym, ap, subst, ◌∙◌}
use mathlib.Core.Logic.{◌⊎◌, inl, inr, ◌≢◌}
use Prim.Native.Nat.{ℕ, suc, ◌≤◌, ◌<◌}
use native.Mathlib.Nat.{le_refl, le_of_eq}
use native.Mathlib.Decide.{dec_lt}
use native.Mathlib.Omega.{arith}
use Rattle.hop_rule.specs.State.{State}
use Rattle.hop_rule.specs.Worth.{lost, hops}
use Rattle.hop_laws.proofs.Tests.{decides}
use Rattle.hop_laws.proofs.Rule.{Between, tells_between, between_back, Both}
use Rattle.hop_rest.specs.Walks.{Walk, here, hop, HopCount, joined, apart}
use Rattle.hop_rest.specs.Right.{Trail, arrives, steps, trusts, Right}
use Rattle.hop_rest.proofs.Walks.{Reaches, reaches_on, reaches_back, hop_count_linked, hop_count_unlinked}
use Rattle.hop_rest.proofs.Changes.{NoLarger, no_longer, lost_some, lost_none, hops_less, smaller_shows}

-- Over n nodes t has the link of a and b at both ends, s at neither, and all others are the same, with the views on them.
pub record Adds (n : ℕ) (s t : State) (a b : ℕ) : Type 0 where
  pub nodes : s.n ≡ n
  pub nodes_too : t.n ≡ n
  pub ascends : a < b
  pub inside : b < n
  pub links : (x y : ℕ) → Both a b x y (t.link x y) 1 (s.link x y)
  pub unlinked : (x y : ℕ) → Between a b x y → s.link x y ≢ 1
  pub views : (x y v : ℕ) → (Between a b x y → ⊥) → t.view x y v ≡ s.view x y v

module _ {n : ℕ} {s t : State} {a b : ℕ} (adds : Adds n s t a b) where
  low : a < n
  low = omega (arith, adds.ascends, adds.inside)

  in_t : {x : ℕ} → x < s.n → x < t.n
  in_t l = omega (arith, adds.nodes, adds.nodes_too)

  in_s : {x : ℕ} → x < t.n → x < s.n
  in_s l = omega (arith, adds.nodes, adds.nodes_too)

  -- ---- trails of s, seen from t

  -- An end that is up in s is up in t.
  still : {x y : ℕ} → s.link x y ≡ 1 → t.link x y ≡ 1
  still {x} {y} q = (adds.links x y).other (λ h. adds.unlinked x y h q) ∙ q

  trail_more : {u v d : ℕ} → Trail s u v d → Trail t u v d
  trail_more arrives = arrives
  trail_more (steps {u = u} {w = w} lu lw q p) = steps {u = u} {w = w} (in_t lu) (in_t lw) (still q.0, still q.1) (trail_more p)
  trail_more (trusts {u = u} {w = w} {v = v} lu lw q f) =
      let off : Between a b u w → ⊥ = λ h. adds.unlinked u w h q in
      let same : t.link w u ≡ s.link w u = (adds.links w u).other (λ h. off (between_back h)) in
      subst (Trail t u v) (ap suc (adds.views u w v off)) (trusts {u = u} {w = w} (in_t lu) (in_t lw) (still q) (λ k. f (sym same ∙ k)))

  -- So a distance that is right for t is at most one that is right for s.
  pub no_larger : {d e : ℕ → ℕ → ℕ} → ((u v : ℕ) → u < n → v < n → Right s n (d u v) u v) → ((u v : ℕ) → u < n → v < n → Right t n (e u v) u v) → ((u v : ℕ) → u < n → v < n → e u v ≤ n) → NoLarger n d e
  no_larger {d} {e} right right-too most u v lu lv = go (dec_lt (d u v) n)
    where
      go : Dec (d u v < n) → e u v ≤ d u v
      go (yes l) = (right-too u v lu lv).least (d u v) l (trail_more ((right u v lu lv).trail l))
      go (no f) = omega (arith, most u v lu lv)

  -- ---- walks of t, seen from s

  -- In s, y is at most d hops from x.
  abbrev Within : ℕ → ℕ → ℕ → Type 0
  Within x y d = (c : ℕ) × (c ≤ d) × Walk s x y c

  -- The link is crossed from p to q: in s, x reaches p, and y is at most d hops from q.
  record Crosses (x y d : ℕ) : Type 0 where
    p : ℕ
    q : ℕ
    ends : Between a b p q
    out : Reaches s x p
    on : Within q y d

  -- Two crossings end at the same node, or one where the other begins.
  ends_meet : {x w p q : ℕ} → Between a b x w → Between a b p q → (q ≡ w) ⊎ (q ≡ x)
  ends_meet (inl i) (inl k) = inl (k.1 ∙ sym i.1)
  ends_meet (inl i) (inr k) = inr (k.1 ∙ sym i.0)
  ends_meet (inr i) (inl k) = inr (k.1 ∙ sym i.0)
  ends_meet (inr i) (inr k) = inl (k.1 ∙ sym i.1)

  -- A walk of t needs the link at most once: between two crossings it can be left out.
  crossing : {x y d : ℕ} → Walk t x y d → Within x y d ⊎ Crosses x y d
  crossing here = inl (0, le_refl _, here)
  crossing (hop {u = x} {w = w} {v = y} {d = d} lx lw k rest) = step (decides (tells_between a b x w)) (crossing rest)
    where
      stay : (Between a b x w → ⊥) → {v c : ℕ} → Walk s w v c → Walk s x v (suc c)
      stay f r = hop {u = x} {w = w} (in_s lx) (in_s lw) (sym ((adds.links x w).other f) ∙ k.0, sym ((adds.links w x).other (λ h. f (between_back h))) ∙ k.1) r

      cross : Between a b x w → Within w y d → Crosses x y (suc d)
      cross h (c, l, r) = record { p = x; q = w; ends = h; out = (0, here); on = (c, omega arith, r) }

      step : Dec (Between a b x w) → Within w y d ⊎ Crosses w y d → Within x y (suc d) ⊎ Crosses x y (suc d)
      step (no f) (inl (c, l, r)) = inl (suc c, omega arith, stay f r)
      step (no f) (inr z) = let (c, l, r) = z.on in let (i, o) = z.out in inr (record { p = z.p; q = z.q; ends = z.ends; out = (suc i, stay f o); on = (c, omega arith, r) })
      step (yes h) (inl r) = inr (cross h r)
      step (yes h) (inr z) =
          let (c, l, r) = z.on in
          elim (ends_meet h z.ends) [ inl e ↦ inr (cross h (c, l, subst (λ v. Walk s v y c) e r)) | inr e ↦ inl (c, omega arith, subst (λ v. Walk s v y c) e r) ]

  back : {x y : ℕ} → Reaches s x y → Reaches s y x
  back (d, r) = reaches_back r

  on : {x y z : ℕ} → Reaches s x y → Reaches s y z → Reaches s x z
  on (d, r) k = reaches_on r k

  -- Where s joins a and b, it joins all that t joins, going round;
  round : Reaches s a b → {x y d : ℕ} → Walk t x y d → Reaches s x y
  round r w = go (crossing w)
    where
      either : {p q : ℕ} → Between a b p q → Reaches s p q
      either (inl i) = rw (i.0, i.1) r
      either (inr i) = rw (i.0, i.1) (back r)

      go : {x y d : ℕ} → Within x y d ⊎ Crosses x y d → Reaches s x y
      go (inl (c, l, k)) = (c, k)
      go (inr z) = let (c, l, k) = z.on in on z.out (on (either z.ends) (c, k))

  -- where it does not, the link shortens no walk between nodes that s joins: both its ends would be joined.
  no_shorter : (Reaches s a b → ⊥) → {x y d : ℕ} → Reaches s x y → Walk t x y d → Within x y d
  no_shorter f {x} {y} {d} r w = go (crossing w)
    where
      neither : {p q : ℕ} → Between a b p q → Reaches s p q → ⊥
      neither (inl i) k = f (rw (i.0, i.1) at k)
      neither (inr i) k = f (back (rw (i.0, i.1) at k))

      go : Within x y d ⊎ Crosses x y d → Within x y d
      go (inl k) = k
      go (inr z) = let (c, l, k) = z.on in absurd (neither z.ends (on (back z.out) (on r (back (c, k)))))

  -- The same of hop counts.
  counted_too : Reaches s a b → {x y i j : ℕ} → HopCount s x y i → HopCount t x y j → j < n → i < n
  counted_too r (joined l k m) h b = omega (arith, adds.nodes)
  counted_too r (apart i f) (joined l k m) b = let (c, w) = round r k in absurd (f c w)
  counted_too r (apart i f) (apart j g) b = absurd (omega (arith, adds.nodes_too))

  counted_same : (Reaches s a b → ⊥) → {x y i j : ℕ} → HopCount s x y i → HopCount t x y j → i < n → j < n → i ≤ j
  counted_same f {i = i} (joined l k m) (joined l' k' m') b b' = let (c, under, w) = no_shorter f (i, k) k' in omega (arith, under, m c w)
  counted_same f (joined l k m) (apart i g) b b' = absurd (omega (arith, adds.nodes_too))
  counted_same f (apart i g) h b b' = absurd (omega (arith, adds.nodes))

  -- ---- the tables of hop counts

  module _ {d e : ℕ → ℕ → ℕ} (counts : (u v : ℕ) → u < n → v < n → HopCount s u v (d u v)) (counts-too : (u v : ℕ) → u < n → v < n → HopCount t u v (e u v)) (larger : NoLarger n d e) where
    -- Its ends are one hop apart with it, and further without.
    near : e a b ≤ 1
    near = hop_count_linked (rw adds.nodes_too low) (rw adds.nodes_too adds.inside) ((adds.links a b).at (inl (refl, refl)), (adds.links b a).at (inr (refl, refl))) (counts-too a b low adds.inside)

    far : 1 < d a b
    far = hop_count_unlinked (omega (arith, adds.nodes, adds.ascends, adds.inside)) (λ i. omega (arith, adds.ascends)) (λ q. adds.unlinked a b (inl (refl, refl)) q.0) (counts a b low adds.inside)

    -- So that the link is seen: it joins a pair, or shortens a route.
    pub link_shows : (0 < lost n e d) ⊎ (hops n e d < hops n d e)
    link_shows = smaller_shows n d e (no_longer larger) a b low adds.inside (omega (arith, near, adds.ascends, adds.inside)) (omega (arith, near, far))

    -- One that joins no pair is not the only way between its ends;
    pub another_way : lost n e d ≡ 0 → Reaches s a b
    another_way none = go (counts a b low adds.inside)
      where
        go : HopCount s a b (d a b) → Reaches s a b
        go (joined l k m) = (d a b, k)
        go (apart i f) =
            let some = lost_some n e d a b low adds.inside (omega (arith, near, adds.ascends, adds.inside)) (λ l. omega (arith, adds.nodes)) in
            absurd (omega (arith, some, none))

    -- one that joins pairs is, and shortens no route.
    pub only_way : lost n e d ≢ 0 → Reaches s a b → ⊥
    only_way some r = some (lost_none n e d (λ u v lu lv. counted_too r (counts u v lu lv) (counts-too u v lu lv)))

    pub keeps_distance : lost n e d ≢ 0 → (u v : ℕ) → u < n → v < n → d u v < n → e u v < n → d u v ≡ e u v
    keeps_distance some u v lu lv l k = omega (arith, larger u v lu lv, counted_same (only_way some) (counts u v lu lv) (counts-too u v lu lv) l k)

    pub never_both : lost n e d ≢ 0 → hops n e d ≡ hops n d e
    never_both some =
        let fewer = hops_less n d e (no_longer larger) in
        let more = hops_less n e d (λ u v lu lv l k. le_of_eq (keeps_distance some u v lu lv k l)) in
        omega (arith, fewer, more)
