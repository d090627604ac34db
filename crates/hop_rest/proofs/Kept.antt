-- Every event keeps a sound state sound. Each first leaves a state that is sound but for some stale pairs, and then recomputes just those. Assumes nothing.
use mathlib.Core.Path.{◌≡◌, refl, sym, ap, subst, ◌∙◌}
use mathlib.Core.Logic.{inl, inr, ◌≢◌}
use mathlib.Core.List.{List, [], ◌∷◌}
use Prim.Native.Nat.{ℕ, ◌≤◌, ◌<◌}
use native.Mathlib.Nat.{le_of_eq}
use native.Mathlib.Decide.{dec_lt}
use native.Mathlib.Omega.{arith}
use lib.ListN.{length}
use Rattle.hop_rule.specs.State.{State, Entry}
use Rattle.hop_rule.specs.Rule.{distance_of, recompute, hear, deliver, link_up, pass, passes}
use Rattle.hop_rule.specs.Sound.{Linked, Sends, Each, Sound}
use Rattle.hop_rule.specs.Notice.{lose, notice, missing, link_down}
use Rattle.hop_laws.proofs.Tests.{tells_eq, tells_and, decides}
use Rattle.hop_laws.proofs.Words.{loop_keeps}
use Rattle.hop_laws.proofs.Rule.{Alike, same_alike, distance_of_most, sound_current, current_alike, hear_view_at, hear_view_other, hear_queue_at, hear_queue_other, deliver_head, deliver_none, Between, tells_between, between_back, up_link, up_queue}
use Rattle.hop_laws.proofs.Sound.{tells_up, tells_sends}
use Rattle.hop_laws.proofs.Notice.{lose_link, lose_view, lose_queue, missing_given, missing_none, down_ascending, down_descending}
use Rattle.hop_rest.specs.Mending.{Brings, Steady, SoundBut}
use Rattle.hop_rest.proofs.Frame.{deliver_n}
use Rattle.hop_rest.proofs.Mended.{sound_steady, but_sound, brings_same, brings_hear, brings_all, recompute_mends, recompute_all_mends, recompute_all_n}

-- ---- deliver

-- Entries wait on links with both ends up only.
pub waiting_sends : (s : State) (w u : ℕ) → Sound s → w < s.n → u < s.n → (head : Entry) (rest : List Entry) → s.queue w u ≡ head ∷ rest → Sends s w u
waiting_sends s w u o lw lu head rest e = go (decides (tells_sends s w u))
  where
    go : Dec (Sends s w u) → Sends s w u
    go (yes q) = q
    go (no f) = absurd (omega (arith, ap length (sym (o.down_queues u w lu lw f) ∙ e)))

-- Only destinations below n wait.
pub waiting_below : (s : State) (w u : ℕ) → Sound s → w < s.n → u < s.n → (head : Entry) (rest : List Entry) → s.queue w u ≡ head ∷ rest → head.destination < s.n
waiting_below s w u o lw lu head rest e = (subst (Each (λ f. f.destination < s.n)) e (o.below u w lu lw (waiting_sends s w u o lw lu head rest e))).0

module _ (s : State) (w u : ℕ) (head : Entry) (rest : List Entry) (o : Sound s) (lw : w < s.n) (lu : u < s.n) (sends : Sends s w u) (waits : s.queue w u ≡ head ∷ rest) where
  c : Steady s
  c = sound_steady o

  first : Brings s.n (s.distance w) (s.view u w) (head ∷ rest)
  first = subst (Brings s.n (s.distance w) (s.view u w)) waits (c.brings u w lu lw sends)

  heard_brings : (x y : ℕ) → x < s.n → y < s.n → Sends s y x → Brings s.n (s.distance y) ((hear s w u head rest).view x y) ((hear s w u head rest).queue y x)
  heard_brings x y lx ly q = go (decides (tells_and (tells_eq y w) (tells_eq x u)))
    where
      go : Dec ((y ≡ w) × (x ≡ u)) → Brings s.n (s.distance y) ((hear s w u head rest).view x y) ((hear s w u head rest).queue y x)
      go (yes p) =
          rw (p.0, p.1, hear_queue_at s w u head rest)
          (brings_hear _ _ _ _ head rest (hear_view_at s w u head rest) (λ v k. hear_view_other s w u head rest u w v (λ i j. k)) first)
      go (no f) =
          rw (hear_queue_other s w u head rest y x (λ i j. f (i, j)))
          (brings_same _ _ _ _ _ _ (λ v l. refl) (λ v l. hear_view_other s w u head rest x y v (λ i j. absurd (f (j, i)))) (c.brings x y lx ly q))

  -- What is heard makes one pair stale.
  hear_stale : SoundBut (λ a b. (a ≡ u) × (b ≡ head.destination)) (hear s w u head rest)
  unfolding hear
  hear_stale = record {
    steady = record {
      bits = c.bits;
      diagonal = c.diagonal;
      views = λ x y v lx ly lv. low x y v lx ly lv (decides (tells_and (tells_eq x u) (tells_and (tells_eq y w) (tells_eq v head.destination))));
      down_views = λ x y v lx ly lv f. hear_view_other s w u head rest x y v (λ i j. absurd (f (is_linked x y i j))) ∙ c.down_views x y v lx ly lv f;
      down_queues = λ x y lx ly f. hear_queue_other s w u head rest y x (λ j i. f (subst (λ (z : ℕ). Sends s y z) (sym i) (subst (λ (z : ℕ). Sends s z u) (sym j) sends))) ∙ c.down_queues x y lx ly f;
      brings = heard_brings;
    };
    current = λ a b la lb f. current_alike (same a b f) refl refl (sound_current o a b la lb);
  }
    where
      low : (x y v : ℕ) → x < s.n → y < s.n → v < s.n → Dec ((x ≡ u) × ((y ≡ w) × (v ≡ head.destination))) → (hear s w u head rest).view x y v ≤ s.n
      low x y v lx ly lv (yes p) =
          let e : head.value ≡ distance_of s w head.destination = first.entries.0.1 ∙ o.distances w head.destination lw first.entries.0.0 in
          rw (p.0, p.1.0, p.1.1, hear_view_at s w u head rest, e) (distance_of_most s w head.destination)
      low x y v lx ly lv (no f) = rw (hear_view_other s w u head rest x y v (λ i j k. f (i, (j, k)))) (o.views x y v lx ly lv)

      is_linked : (x y : ℕ) → x ≡ u → y ≡ w → Linked s x y
      is_linked x y i j = rw (i, j) sends.1

      same : (a b : ℕ) → ((a ≡ u) × (b ≡ head.destination) → ⊥) → Alike s (hear s w u head rest) a b
      same a b f = same_alike s (hear s w u head rest) a b refl (λ y l. refl) (λ y l. hear_view_other s w u head rest a y b (λ i j k. f (i, k)))

  mended : Sound (recompute (hear s w u head rest) u head.destination)
  unfolding hear recompute
  mended = but_sound _ _ (λ a b la lb p. p.1 p.0.0 p.0.1) (recompute_mends (λ a b. (a ≡ u) × (b ≡ head.destination)) (hear s w u head rest) u head.destination lu first.entries.0.0 hear_stale)

pub deliver_keeps_sound : (s : State) (w u : ℕ) → Sound s → w < s.n → u < s.n → Sound (deliver s w u)
deliver_keeps_sound s w u o lw lu = go (s.queue w u) refl
  where
    go : (q : List Entry) → s.queue w u ≡ q → Sound (deliver s w u)
    go [] e = subst Sound (sym (deliver_none s w u e)) o
    go (head ∷ rest) e = subst Sound (sym (deliver_head s w u head rest e)) (mended s w u head rest o lw lu (waiting_sends s w u o lw lu head rest e) e)

-- ---- notice, and link down

module _ (s : State) (a b : ℕ) (o : Sound s) where
  -- Where an entry still gets through, the notice took nothing away.
  sends_off : (x y : ℕ) → Sends (lose s a b) y x → Between a b y x → ⊥
  sends_off x y q (inl p) = omega (arith, (lose_link s a b y x).at p.0 p.1, q.0)
  sends_off x y q (inr p) = omega (arith, (lose_link s a b x y).at p.1 p.0, q.1)

  away : (x y : ℕ) → (Between a b y x → ⊥) → (x ≡ a → y ≢ b)
  away x y f i j = f (inr (j, i))

  sent_before : (x y : ℕ) → (Between a b y x → ⊥) → Sends (lose s a b) y x → Sends s y x
  sent_before x y f q = (sym ((lose_link s a b y x).other (λ i j. f (inl (i, j)))) ∙ q.0, sym ((lose_link s a b x y).other (away x y f)) ∙ q.1)

  sent_after : (x y : ℕ) → (Between a b y x → ⊥) → Sends s y x → Sends (lose s a b) y x
  sent_after x y f q = ((lose_link s a b y x).other (λ i j. f (inl (i, j))) ∙ q.0, (lose_link s a b x y).other (away x y f) ∙ q.1)

  -- The pairs of a may be stale, and no others: b's views stay.
  lose_stale : SoundBut (λ x v. x ≡ a) (lose s a b)
  unfolding lose
  lose_stale = record {
    steady = record {
      bits = λ x y lx ly. bit x y lx ly (here x y);
      diagonal = λ x lx. down x lx (here x x);
      views = λ x y v lx ly lv. view x y v lx ly lv (here x y);
      down_views = λ x y v lx ly lv f. down_view x y v lx ly lv f (here x y);
      down_queues = λ x y lx ly f. down_queue x y lx ly f (decides (tells_between a b y x));
      brings = λ x y lx ly q.
          let f : Between a b y x → ⊥ = sends_off x y q in
          rw ((lose_queue s a b y x).other f)
          (brings_same _ _ _ _ _ _ (λ v l. refl) (λ v l. (lose_view s a b x y v).other (away x y f)) ((sound_steady o).brings x y lx ly (sent_before x y f q)));
    };
    current = λ x v lx lv f. current_alike (same x v f) refl refl (sound_current o x v lx lv);
  }
    where
      here : (x y : ℕ) → Dec ((x ≡ a) × (y ≡ b))
      here x y = decides (tells_and (tells_eq x a) (tells_eq y b))

      bit : (x y : ℕ) → x < s.n → y < s.n → Dec ((x ≡ a) × (y ≡ b)) → (lose s a b).link x y ≤ 1
      bit x y lx ly (yes p) = omega (arith, (lose_link s a b x y).at p.0 p.1)
      bit x y lx ly (no f) = omega (arith, (lose_link s a b x y).other (λ i j. f (i, j)), o.bits x y lx ly)

      down : (x : ℕ) → x < s.n → Dec ((x ≡ a) × (x ≡ b)) → (lose s a b).link x x ≡ 0
      down x lx (yes p) = (lose_link s a b x x).at p.0 p.1
      down x lx (no f) = (lose_link s a b x x).other (λ i j. f (i, j)) ∙ o.diagonal x lx

      view : (x y v : ℕ) → x < s.n → y < s.n → v < s.n → Dec ((x ≡ a) × (y ≡ b)) → (lose s a b).view x y v ≤ s.n
      view x y v lx ly lv (yes p) = le_of_eq ((lose_view s a b x y v).at p.0 p.1)
      view x y v lx ly lv (no f) = rw ((lose_view s a b x y v).other (λ i j. f (i, j))) (o.views x y v lx ly lv)

      down_view : (x y v : ℕ) → x < s.n → y < s.n → v < s.n → (lose s a b).link x y ≢ 1 → Dec ((x ≡ a) × (y ≡ b)) → (lose s a b).view x y v ≡ s.n
      down_view x y v lx ly lv k (yes p) = (lose_view s a b x y v).at p.0 p.1
      down_view x y v lx ly lv k (no f) = (lose_view s a b x y v).other (λ i j. f (i, j)) ∙ o.down_views x y v lx ly lv (λ q. k ((lose_link s a b x y).other (λ i j. f (i, j)) ∙ q))

      down_queue : (x y : ℕ) → x < s.n → y < s.n → (Sends (lose s a b) y x → ⊥) → Dec (Between a b y x) → (lose s a b).queue y x ≡ []
      down_queue x y lx ly k (yes h) = (lose_queue s a b y x).at h
      down_queue x y lx ly k (no f) = (lose_queue s a b y x).other f ∙ o.down_queues x y lx ly (λ q. k (sent_after x y f q))

      same : (x v : ℕ) → x ≢ a → Alike s (lose s a b) x v
      same x v f = same_alike s (lose s a b) x v refl (λ y l. (lose_link s a b x y).other (λ i. absurd (f i))) (λ y l. (lose_view s a b x y v).other (λ i. absurd (f i)))

module _ (s : State) (a b : ℕ) where
  pub notice_n : (notice s a b).n ≡ s.n
  unfolding notice lose
  notice_n = recompute_all_n (lose s a b) a

  pub notice_keeps_sound : Sound s → a < s.n → Sound (notice s a b)
  unfolding notice lose
  notice_keeps_sound o la = but_sound _ _ (λ x v lx lv p. p.1 p.0) (recompute_all_mends _ (lose s a b) a la (lose_stale s a b o))

  pub missing_n : (missing s a b).n ≡ s.n
  missing_n = go (decides (tells_up s a b))
    where
      go : Dec (Linked s a b) → (missing s a b).n ≡ s.n
      go (yes e) = ap (λ t. t.n) (missing_given s a b e) ∙ notice_n
      go (no f) = ap (λ t. t.n) (missing_none s a b f)

  missing_keeps_sound : Sound s → a < s.n → Sound (missing s a b)
  missing_keeps_sound o la = go (decides (tells_up s a b))
    where
      go : Dec (Linked s a b) → Sound (missing s a b)
      go (yes e) = subst Sound (sym (missing_given s a b e)) (notice_keeps_sound o la)
      go (no f) = subst Sound (sym (missing_none s a b f)) o

pub down_n : (s : State) (a b : ℕ) → (link_down s a b).n ≡ s.n
down_n s a b = go (dec_lt a b)
  where
    go : Dec (a < b) → (link_down s a b).n ≡ s.n
    go (yes l) = ap (λ t. t.n) (down_ascending s a b l) ∙ missing_n (missing s a b) b a ∙ missing_n s a b
    go (no f) = ap (λ t. t.n) (down_descending s a b f) ∙ missing_n (missing s b a) a b ∙ missing_n s b a

pub down_keeps_sound : (s : State) (a b : ℕ) → Sound s → a < s.n → b < s.n → Sound (link_down s a b)
down_keeps_sound s a b o la lb = go (dec_lt a b)
  where
    go : Dec (a < b) → Sound (link_down s a b)
    go (yes l) = subst Sound (sym (down_ascending s a b l)) (missing_keeps_sound (missing s a b) b a (missing_keeps_sound s a b o la) (rw (missing_n s a b) lb))
    go (no f) = subst Sound (sym (down_descending s a b f)) (missing_keeps_sound (missing s b a) a b (missing_keeps_sound s b a o lb) (rw (missing_n s b a) la))

-- ---- link up

module _ (s : State) (a b : ℕ) (o : Sound s) (la : a < s.n) (lb : b < s.n) (apart : a ≢ b) (down : s.link a b ≢ 1) (other-down : s.link b a ≢ 1) where
  was_down : (x y : ℕ) → Between a b x y → s.link x y ≢ 1
  was_down x y (inl p) q = down (rw (← p.0, ← p.1) q)
  was_down x y (inr p) q = other-down (rw (← p.0, ← p.1) q)

  -- Elsewhere both ends are as they were.
  up_sends : (x y : ℕ) → (Between a b y x → ⊥) → Sends (link_up s a b) y x → Sends s y x
  up_sends x y f q = (sym ((up_link s a b y x).other f) ∙ q.0, sym ((up_link s a b x y).other (λ h. f (between_back h))) ∙ q.1)

  up_brings : (x y : ℕ) → x < s.n → y < s.n → Sends (link_up s a b) y x → Dec (Between a b y x) → Brings s.n (s.distance y) (s.view x y) ((link_up s a b).queue y x)
  up_brings x y lx ly q (yes h) = rw ((up_queue s a b y x).at h) (brings_all s.n (s.distance y) (s.view x y))
  up_brings x y lx ly q (no f) = rw ((up_queue s a b y x).other f) ((sound_steady o).brings x y lx ly (up_sends x y f q))

  -- The views on it are n, so that recompute finds what it found.
  up_alike : (x v : ℕ) → x < s.n → v < s.n → Alike s (link_up s a b) x v
  unfolding link_up
  up_alike x v lx lv = record {
    n = refl;
    there = λ y l q k. (still y q (decides (tells_between a b x y)), refl);
    back = λ y l q k. (before y l q k (decides (tells_between a b x y)), refl);
  }
    where
      still : (y : ℕ) → s.link x y ≡ 1 → Dec (Between a b x y) → (link_up s a b).link x y ≡ 1
      still y q (yes h) = (up_link s a b x y).at h
      still y q (no f) = (up_link s a b x y).other f ∙ q

      before : (y : ℕ) → y < s.n → (link_up s a b).link x y ≡ 1 → s.view x y v < s.n → Dec (Between a b x y) → s.link x y ≡ 1
      before y l q k (yes h) = absurd (omega (arith, o.down_views x y v lx l lv (was_down x y h)))
      before y l q k (no f) = sym ((up_link s a b x y).other f) ∙ q

  pub up_keeps_sound : Sound (link_up s a b)
  unfolding link_up
  up_keeps_sound = but_sound (λ x v. ⊥) (link_up s a b) (λ x v lx lv p. p) (record {
    steady = record {
      bits = λ x y lx ly. bit x y lx ly (decides (tells_between a b x y));
      diagonal = λ x lx. (up_link s a b x x).other (λ h. elim h [ inl p ↦ apart (sym p.0 ∙ p.1) | inr p ↦ apart (sym p.1 ∙ p.0) ]) ∙ o.diagonal x lx;
      views = o.views;
      down_views = λ x y v lx ly lv k. o.down_views x y v lx ly lv (λ q. k ((up_link s a b x y).other (off x y k) ∙ q));
      down_queues = λ x y lx ly k.
          let f : Between a b y x → ⊥ = λ h. k ((up_link s a b y x).at h, (up_link s a b x y).at (between_back h)) in
          (up_queue s a b y x).other f ∙ o.down_queues x y lx ly (λ q. k ((up_link s a b y x).other f ∙ q.0, (up_link s a b x y).other (λ h. f (between_back h)) ∙ q.1));
      brings = λ x y lx ly q. up_brings x y lx ly q (decides (tells_between a b y x));
    };
    current = λ x v lx lv f. current_alike (up_alike x v lx lv) refl refl (sound_current o x v lx lv);
  })
    where
      bit : (x y : ℕ) → x < s.n → y < s.n → Dec (Between a b x y) → (link_up s a b).link x y ≤ 1
      bit x y lx ly (yes h) = omega (arith, (up_link s a b x y).at h)
      bit x y lx ly (no f) = omega (arith, (up_link s a b x y).other f, o.bits x y lx ly)

      off : (x y : ℕ) → (link_up s a b).link x y ≢ 1 → Between a b x y → ⊥
      off x y k h = k ((up_link s a b x y).at h)

-- ---- pass and passes

-- What deliveries between nodes keep, a pass keeps.
pub pass_keeps : (P : State → Type 0) (s : State) → P s → ((t : State) (w u : ℕ) → w < s.n → u < s.n → P t → P (deliver t w u)) → P (pass s)
unfolding pass
pass_keeps P s p h =
    loop_keeps P s.n _ s p (λ w x lw px. loop_keeps P s.n _ x px (λ u y lu py. loop_keeps P (length (s.queue w u)) _ y py (λ i z li pz. h z w u lw lu pz)))

pub pass_keeps_sound : (s : State) → Sound s → Sound (pass s) × ((pass s).n ≡ s.n)
pass_keeps_sound s o = pass_keeps (λ t. Sound t × (t.n ≡ s.n)) s (o, refl) (λ t w u lw lu p. (deliver_keeps_sound t w u p.0 (omega arith) (omega arith), deliver_n t w u ∙ p.1))

pub passes_keeps_sound : (s : State) (k : ℕ) → Sound s → Sound (passes s k) × ((passes s k).n ≡ s.n)
unfolding passes
passes_keeps_sound s k o =
    loop_keeps (λ t. Sound t × (t.n ≡ s.n)) k _ s (o, refl) (λ i t l p. let r = pass_keeps_sound t p.0 in (r.0, r.1 ∙ p.1))
