-- Laws of the rule's parts: what recompute finds, what it reads, and which cells each move changes. Distances come first and know nothing of downstreams. Assumes nothing.
use mathlib.Core.Path.{◌≡◌, refl, sym, ap, subst, ◌∙◌}
use mathlib.Core.Logic.{◌⊎◌, inl, inr, ◌≢◌}
use mathlib.Core.Bool.{not, cond, ◌&&◌, ◌||◌}
use mathlib.Core.List.{List, [], ◌∷◌}
use Prim.Native.Nat.{ℕ, zero, suc, min, ◌≤◌, ◌<◌}
use native.Mathlib.Nat.{le_refl}
use native.Mathlib.Decide.{ℕ_discrete, dec_lt}
use native.Mathlib.Omega.{arith}
use lib.Dec.{eqb}
use Rattle.hop_rule.specs.Words.{listed, first}
use Rattle.hop_rule.specs.State.{State, Entry}
use Rattle.hop_rule.specs.Rule.{sends, least, distance_of, gives, downstream_of, send, recompute, hear, deliver, link_up}
use Rattle.hop_rule.specs.Sound.{Sends, Sound}
use Rattle.hop_laws.specs.Current.{Current}
use Rattle.hop_laws.proofs.Tests.{Tells, decides, tells_eq, tells_pair, tells_and, tells_or, tells_not, tells_same, tells_as, tells_not_so, choose_so, choose_else}
use Rattle.hop_laws.proofs.Sound.{tells_sends}
use Rattle.hop_laws.proofs.Words.{first_passes, first_before, first_same}

-- ---- the distance

-- d is n, or 1 + the view of v over an up link of u to one of the first k nodes.
abbrev pub Attained : State → ℕ → ℕ → ℕ → ℕ → Type 0
Attained s u v k d = (d ≡ s.n) ⊎ ((w : ℕ) × (w < k) × (s.link u w ≡ 1) × (d ≡ suc (s.view u w v)))

module _ (s : State) (u v : ℕ) where
  least_linked : (w : ℕ) → s.link u w ≡ 1 → least s u v (suc w) ≡ min (suc (s.view u w v)) (least s u v w)
  unfolding least
  least_linked w e = choose_so (tells_eq (s.link u w) 1) _ _ e

  least_unlinked : (w : ℕ) → s.link u w ≢ 1 → least s u v (suc w) ≡ least s u v w
  unfolding least
  least_unlinked w f = choose_else (tells_eq (s.link u w) 1) _ _ f

  -- It is at most n,
  pub least_most : (k : ℕ) → least s u v k ≤ s.n
  unfolding least
  least_most zero = le_refl _
  least_most (suc w) = go (ℕ_discrete (s.link u w) 1) (least_most w)
    where
      go : Dec (s.link u w ≡ 1) → least s u v w ≤ s.n → least s u v (suc w) ≤ s.n
      go (yes e) h = omega (arith, least_linked w e)
      go (no f) h = omega (arith, least_unlinked w f)

  -- and at most 1 + the view over each up link,
  pub least_under : (k w : ℕ) → w < k → s.link u w ≡ 1 → least s u v k ≤ suc (s.view u w v)
  least_under zero w l e = absurd (omega arith)
  least_under (suc k) w l e = go (ℕ_discrete w k) (ℕ_discrete (s.link u k) 1) (λ h. least_under k w h e)
    where
      go : Dec (w ≡ k) → Dec (s.link u k ≡ 1) → (w < k → least s u v k ≤ suc (s.view u w v)) → least s u v (suc k) ≤ suc (s.view u w v)
      go (yes i) c h = rw i (omega (arith, least_linked k (rw i at e)))
      go (no i) (yes c) h = omega (arith, least_linked k c, h (omega arith))
      go (no i) (no c) h = omega (arith, least_unlinked k c, h (omega arith))

  -- and one of these.
  pub least_attained : (k : ℕ) → Attained s u v k (least s u v k)
  unfolding least
  least_attained zero = inl refl
  least_attained (suc k) = go (ℕ_discrete (s.link u k) 1) (dec_lt (suc (s.view u k v)) (least s u v k)) (least_attained k)
    where
      earlier : least s u v (suc k) ≡ least s u v k
          → Attained s u v k (least s u v k)
          → Attained s u v (suc k) (least s u v (suc k))
      earlier i (inl e) = inl (i ∙ e)
      earlier i (inr (w, l, q, e)) = inr (w, omega arith, q, i ∙ e)

      go : Dec (s.link u k ≡ 1) → Dec (suc (s.view u k v) < least s u v k)
          → Attained s u v k (least s u v k)
          → Attained s u v (suc k) (least s u v (suc k))
      go (yes c) (yes l) h = inr (k, le_refl _, c, omega (arith, least_linked k c))
      go (yes c) (no l) h = earlier (omega (arith, least_linked k c)) h
      go (no c) l h = earlier (least_unlinked k c) h

  -- So whatever is at most all of these is at most it.
  pub least_above : (k d : ℕ) → d ≤ s.n → ((w : ℕ) → w < k → s.link u w ≡ 1 → d ≤ suc (s.view u w v)) → d ≤ least s u v k
  least_above k d l h = go (least_attained k)
    where
      go : Attained s u v k (least s u v k) → d ≤ least s u v k
      go (inl e) = omega arith
      go (inr (w, lw, q, e)) = rw e (h w lw q)

-- t has each view below n that s has over an up link of u.
abbrev Keeps : State → State → ℕ → ℕ → Type 0
Keeps s t u v = (w : ℕ) → w < s.n → s.link u w ≡ 1 → s.view u w v < s.n → (t.link u w ≡ 1) × (t.view u w v ≡ s.view u w v)

-- All that recompute of v at u reads is the same: n, and the views below n over up links,
pub record Alike (s t : State) (u v : ℕ) : Type 0 where
  pub n : t.n ≡ s.n
  pub there : Keeps s t u v
  pub back : Keeps t s u v

-- as it is where links and views are the same.
pub same_alike : (s t : State) (u v : ℕ) → t.n ≡ s.n → ((w : ℕ) → w < s.n → t.link u w ≡ s.link u w) → ((w : ℕ) → w < s.n → t.view u w v ≡ s.view u w v) → Alike s t u v
same_alike s t u v e f g = record {
  n = e;
  there = λ w l q b. (f w l ∙ q, g w l);
  back = λ w l q b. let lw : w < s.n = omega arith in (sym (f w lw) ∙ q, sym (g w lw));
}

least_keeps : (s t : State) (u v : ℕ) → t.n ≡ s.n → Keeps s t u v → least t u v s.n ≤ least s u v s.n
least_keeps s t u v e h = least_above s u v s.n _ (omega (arith, least_most t u v s.n)) (λ w l q. go w l q (dec_lt (s.view u w v) s.n))
  where
    go : (w : ℕ) → w < s.n → s.link u w ≡ 1 → Dec (s.view u w v < s.n) → least t u v s.n ≤ suc (s.view u w v)
    go w l q (yes b) = omega (arith, least_under t u v s.n w l (h w l q b).0, (h w l q b).1)
    go w l q (no b) = omega (arith, least_most t u v s.n)

pub distance_of_own : (s : State) (u v : ℕ) → u ≡ v → distance_of s u v ≡ 0
unfolding distance_of
distance_of_own s u v e = choose_so (tells_eq u v) _ _ e

pub distance_of_other : (s : State) (u v : ℕ) → u ≢ v → distance_of s u v ≡ least s u v s.n
unfolding distance_of
distance_of_other s u v f = choose_else (tells_eq u v) _ _ f

pub distance_of_most : (s : State) (u v : ℕ) → distance_of s u v ≤ s.n
distance_of_most s u v = go (ℕ_discrete u v)
  where
    go : Dec (u ≡ v) → distance_of s u v ≤ s.n
    go (yes e) = omega (arith, distance_of_own s u v e)
    go (no f) = omega (arith, distance_of_other s u v f, least_most s u v s.n)

pub distance_of_alike : {s t : State} {u v : ℕ} → Alike s t u v → distance_of t u v ≡ distance_of s u v
unfolding distance_of
distance_of_alike {s} {t} {u} {v} a =
    let to : least t u v t.n ≡ least t u v s.n = ap (least t u v) a.n in
    let back : least s u v t.n ≡ least s u v s.n = ap (least s u v) a.n in
    let d : least t u v t.n ≡ least s u v s.n = omega (arith, least_keeps s t u v a.n a.there, least_keeps t s u v (sym a.n) a.back) in
    rw d

-- ---- the downstream

-- x gives u the distance d to v, and is the lowest-numbered that does.
pub record Gives (s : State) (u v d x : ℕ) : Type 0 where
  pub below : x < s.n
  pub linked : s.link u x ≡ 1
  pub gives : suc (s.view u x v) ≡ d
  pub lowest : (w : ℕ) → w < s.n → s.link u w ≡ 1 → suc (s.view u w v) ≡ d → x ≤ w

tells_offer : (s : State) (u v d w : ℕ) → Tells (gives s u v d w) ((s.link u w ≡ 1) × (suc (s.view u w v) ≡ d))
tells_offer s u v d w = tells_and (tells_eq (s.link u w) 1) (tells_eq (suc (s.view u w v)) d)

pub downstream_of_own : (s : State) (u v d : ℕ) → u ≡ v → downstream_of s u v d ≡ u
unfolding downstream_of
downstream_of_own s u v d e = choose_so (tells_eq u v) _ _ e

pub downstream_of_none : (s : State) (u v d : ℕ) → u ≢ v → d ≡ s.n → downstream_of s u v d ≡ 255
unfolding downstream_of
downstream_of_none s u v d f e = choose_else (tells_eq u v) _ _ f ∙ choose_so (tells_eq d s.n) _ _ e

pub downstream_of_gives : (s : State) (u v d : ℕ) → u ≢ v → d ≡ least s u v s.n → d < s.n → Gives s u v d (downstream_of s u v d)
unfolding downstream_of
downstream_of_gives s u v d f e l =
    subst (Gives s u v d) (sym (choose_else (tells_eq u v) _ _ f ∙ choose_else (tells_eq d s.n) 255 x (λ i. omega arith))) (found (least_attained s u v s.n))
  where
    x : ℕ
    x = first s.n (gives s u v d)

    not_past : (w : ℕ) → (s.link u w ≡ 1) × (suc (s.view u w v) ≡ d) → Dec (w < x) → x ≤ w
    not_past w o (yes b) = absurd (tells_not_so (tells_offer s u v d w) (first_before s.n (gives s u v d) w b) o)
    not_past w o (no b) = omega arith

    found : Attained s u v s.n (least s u v s.n) → Gives s u v d x
    found (inl i) = absurd (omega arith)
    found (inr (w, lw, q, i)) =
        let b : x < s.n = omega (arith, not_past w (q, sym i ∙ sym e) (dec_lt w x)) in
        let o = (tells_offer s u v d x).shows (first_passes s.n (gives s u v d) b) in
        record { below = b; linked = o.0; gives = o.1; lowest = λ y ly qy gy. not_past y (qy, gy) (dec_lt y x) }

-- There is one such neighbour only.
pub downstream_of_is : (s : State) (u v d x : ℕ) → u ≢ v → d ≡ least s u v s.n → d < s.n → Gives s u v d x → downstream_of s u v d ≡ x
downstream_of_is s u v d x f e l g =
    let h = downstream_of_gives s u v d f e l in
    omega (arith, h.lowest x g.below g.linked g.gives, g.lowest (downstream_of s u v d) h.below h.linked h.gives)

alike_at : {s t : State} {u v : ℕ} (d : ℕ) → Alike s t u v → d ≤ s.n → downstream_of t u v d ≡ downstream_of s u v d
unfolding downstream_of
alike_at {s} {t} {u} {v} d a l = go t.n a.n
  where
    there : (a b : State) → d ≤ a.n → Keeps a b u v → (w : ℕ) → w < a.n → (a.link u w ≡ 1) × (suc (a.view u w v) ≡ d) → (b.link u w ≡ 1) × (suc (b.view u w v) ≡ d)
    there a b la h w lw p = let r = h w lw p.0 (omega arith) in (r.0, ap suc r.1 ∙ p.1)

    same : (w : ℕ) → w < s.n → gives t u v d w ≡ gives s u v d w
    same w lw =
        let lt : d ≤ t.n = omega (arith, a.n) in
        let lwt : w < t.n = omega (arith, a.n) in
        tells_same (tells_offer t u v d w) (tells_as (there s t l a.there w lw) (there t s lt a.back w lwt) (tells_offer s u v d w))

    go : (m : ℕ) → m ≡ s.n → cond (eqb u v) u (cond (eqb d m) 255 (first m (gives t u v d))) ≡ cond (eqb u v) u (cond (eqb d s.n) 255 (first s.n (gives s u v d)))
    go m i = rw (i, first_same s.n _ _ same)

pub downstream_of_alike : {s t : State} {u v : ℕ} → Alike s t u v → downstream_of t u v (distance_of t u v) ≡ downstream_of s u v (distance_of s u v)
downstream_of_alike {s} {t} {u} {v} a = ap (downstream_of t u v) (distance_of_alike a) ∙ alike_at (distance_of s u v) a (distance_of_most s u v)

-- ---- both

pub sound_current : {s : State} → Sound s → (u v : ℕ) → u < s.n → v < s.n → Current s u v
sound_current o u v lu lv = record { distance = o.distances u v lu lv; downstream = o.downstreams u v lu lv }

module _ {s : State} {u v : ℕ} (c : Current s u v) where
  pub current_own : u ≡ v → s.downstream u v ≡ u
  current_own e = c.downstream ∙ downstream_of_own s u v _ e

  pub current_none : u ≢ v → s.distance u v ≡ s.n → s.downstream u v ≡ 255
  current_none f e = c.downstream ∙ downstream_of_none s u v _ f e

  pub current_gives : u ≢ v → s.distance u v < s.n → Gives s u v (s.distance u v) (s.downstream u v)
  current_gives f l = subst (Gives s u v (s.distance u v)) (sym c.downstream) (downstream_of_gives s u v _ f (c.distance ∙ distance_of_other s u v f) l)

pub current_alike : {s t : State} {u v : ℕ} → Alike s t u v → t.distance u v ≡ s.distance u v → t.downstream u v ≡ s.downstream u v → Current s u v → Current t u v
current_alike {s} {t} {u} {v} a i j c = record {
  distance = i ∙ c.distance ∙ sym (distance_of_alike a);
  downstream = j ∙ c.downstream ∙ sym (alike_at (s.distance u v) a (omega (arith, c.distance, distance_of_most s u v))) ∙ ap (downstream_of t u v) (sym i);
}

-- ---- recompute of v at u

module _ (s : State) (u v : ℕ) where
  pub recompute_distance_at : (recompute s u v).distance u v ≡ distance_of s u v
  unfolding recompute
  recompute_distance_at = choose_so (tells_pair u v u v) _ _ (refl, refl)

  pub recompute_distance_other : (a c : ℕ) → (a ≡ u → c ≢ v) → (recompute s u v).distance a c ≡ s.distance a c
  unfolding recompute
  recompute_distance_other a c f = choose_else (tells_pair u v a c) _ _ (λ p. f p.0 p.1)

  pub recompute_downstream_other : (a c : ℕ) → (a ≡ u → c ≢ v) → (recompute s u v).downstream a c ≡ s.downstream a c
  unfolding recompute
  recompute_downstream_other a c f = choose_else (tells_pair u v a c) _ _ (λ p. f p.0 p.1)

  -- The cell is current then.
  pub recompute_current : Current (recompute s u v) u v
  unfolding recompute
  recompute_current =
      let a = same_alike s (recompute s u v) u v refl (λ w l. refl) (λ w l. refl) in
      let d = recompute_distance_at ∙ sym (distance_of_alike a) in
      record { distance = d; downstream = choose_so (tells_pair u v u v) _ _ (refl, refl) ∙ sym (downstream_of_alike a) ∙ ap (downstream_of (recompute s u v) u v) (sym d) }

  tells_sent : (a b : ℕ) → Tells (eqb a u && (sends s u b && not (eqb (distance_of s u v) (s.distance u v)))) ((a ≡ u) × (Sends s u b × (distance_of s u v ≢ s.distance u v)))
  tells_sent a b = tells_and (tells_eq a u) (tells_and (tells_sends s u b) (tells_not (tells_eq (distance_of s u v) (s.distance u v))))

  pub recompute_queue_sent : (b : ℕ) → Sends s u b → distance_of s u v ≢ s.distance u v
      → (recompute s u v).queue u b ≡ send (record { destination = v; value = distance_of s u v }) (s.queue u b)
  unfolding recompute
  recompute_queue_sent b q f = choose_so (tells_sent u b) _ _ (refl, (q, f))

  pub recompute_queue_other : (a b : ℕ) → (a ≡ u → Sends s u b → distance_of s u v ≡ s.distance u v) → (recompute s u v).queue a b ≡ s.queue a b
  unfolding recompute
  recompute_queue_other a b f = choose_else (tells_sent a b) _ _ (λ p. p.1.1 (f p.0 p.1.0))

-- ---- an entry is heard

module _ (s : State) (w u : ℕ) (head : Entry) (rest : List Entry) where
  pub hear_view_at : (hear s w u head rest).view u w head.destination ≡ head.value
  unfolding hear
  hear_view_at = choose_so (tells_pair u w u w) _ _ (refl, refl) ∙ choose_so (tells_eq head.destination head.destination) _ _ refl

  pub hear_view_other : (a b c : ℕ) → (a ≡ u → b ≡ w → c ≢ head.destination) → (hear s w u head rest).view a b c ≡ s.view a b c
  unfolding hear
  hear_view_other a b c f = go (decides (tells_pair u w a b))
    where
      go : Dec ((a ≡ u) × (b ≡ w)) → cond (eqb a u && eqb b w) (cond (eqb c head.destination) head.value (s.view u w c)) (s.view a b c) ≡ s.view a b c
      go (yes p) = choose_so (tells_pair u w a b) _ _ p ∙ choose_else (tells_eq c head.destination) _ _ (f p.0 p.1) ∙ rw (p.0, p.1)
      go (no k) = choose_else (tells_pair u w a b) _ _ k

  pub hear_queue_at : (hear s w u head rest).queue w u ≡ rest
  unfolding hear
  hear_queue_at = choose_so (tells_pair w u w u) _ _ (refl, refl)

  pub hear_queue_other : (a b : ℕ) → (a ≡ w → b ≢ u) → (hear s w u head rest).queue a b ≡ s.queue a b
  unfolding hear
  hear_queue_other a b f = choose_else (tells_pair w u a b) _ _ (λ p. f p.0 p.1)

-- A delivery is that and a recompute; from an empty queue it is nothing.
pub deliver_head : (s : State) (w u : ℕ) (head : Entry) (rest : List Entry) → s.queue w u ≡ head ∷ rest → deliver s w u ≡ recompute (hear s w u head rest) u head.destination
unfolding deliver
deliver_head s w u head rest e = rw (e, deliver)

pub deliver_none : (s : State) (w u : ℕ) → s.queue w u ≡ [] → deliver s w u ≡ s
unfolding deliver
deliver_none s w u e = rw (e, deliver)

-- ---- a link comes up, which is done at both of its ends

-- x → y is one of the two directions of the link a, b.
abbrev pub Between : ℕ → ℕ → ℕ → ℕ → Type 0
Between a b x y = ((x ≡ a) × (y ≡ b)) ⊎ ((x ≡ b) × (y ≡ a))

pub tells_between : (a b x y : ℕ) → Tells ((eqb x a && eqb y b) || (eqb x b && eqb y a)) (Between a b x y)
tells_between a b x y = tells_or (tells_pair a b x y) (tells_pair b a x y)

pub between_back : {a b x y : ℕ} → Between a b x y → Between a b y x
between_back (inl p) = inr (p.1, p.0)
between_back (inr p) = inl (p.1, p.0)

-- What both ends set is new in both directions, and old elsewhere.
pub record Both {A : Type 0} (a b x y : ℕ) (cell new old : A) : Type 0 where
  pub at : Between a b x y → cell ≡ new
  pub other : (Between a b x y → ⊥) → cell ≡ old

pub both : {A : Type 0} (a b x y : ℕ) (p q new old : A) → (x ≡ a → p ≡ new) → (x ≡ b → q ≡ new) → Both a b x y (cond (eqb x b && eqb y a) q (cond (eqb x a && eqb y b) p old)) new old
both {A} a b x y p q new old f g = record {
  at = λ h. go h (decides (tells_pair b a x y));
  other = λ k. choose_else (tells_pair b a x y) _ _ (λ h. k (inr h)) ∙ choose_else (tells_pair a b x y) _ _ (λ h. k (inl h));
}
  where
    go : Between a b x y → Dec ((x ≡ b) × (y ≡ a)) → cond (eqb x b && eqb y a) q (cond (eqb x a && eqb y b) p old) ≡ new
    go h (yes i) = choose_so (tells_pair b a x y) _ _ i ∙ g i.0
    go (inl i) (no k) = choose_else (tells_pair b a x y) _ _ k ∙ choose_so (tells_pair a b x y) _ _ i ∙ f i.0
    go (inr i) (no k) = absurd (k i)

pub both_same : {A : Type 0} {a b x y : ℕ} {c d new new' old old' : A} → Both a b x y c new old → Both a b x y d new' old' → new ≡ new' → old ≡ old' → c ≡ d
both_same {a = a} {b} {x} {y} {c} {d} m k i j = go (decides (tells_between a b x y))
  where
    go : Dec (Between a b x y) → c ≡ d
    go (yes h) = m.at h ∙ i ∙ sym (k.at h)
    go (no f) = m.other f ∙ j ∙ sym (k.other f)

pub both_either : {A : Type 0} {a b x y : ℕ} {cell new old : A} → Both a b x y cell new old → Both b a x y cell new old
both_either m = record { at = λ h. m.at (elim h [ inl i ↦ inr i | inr i ↦ inl i ]); other = λ f. m.other (λ h. f (elim h [ inl i ↦ inr i | inr i ↦ inl i ])) }

module _ (s : State) (a b x y : ℕ) where
  pub up_link : Both a b x y ((link_up s a b).link x y) 1 (s.link x y)
  unfolding link_up
  up_link = both a b x y 1 1 1 (s.link x y) (λ i. refl) (λ i. refl)

  pub up_queue : Both a b x y ((link_up s a b).queue x y) (listed s.n (λ v. record { destination = v; value = s.distance x v })) (s.queue x y)
  unfolding link_up
  up_queue =
      let all : ℕ → List Entry = λ u. listed s.n (λ v. record { destination = v; value = s.distance u v }) in
      both a b x y (all a) (all b) (all x) (s.queue x y) (λ i. ap all (sym i)) (λ i. ap all (sym i))
