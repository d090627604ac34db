-- Two notices, one right after the other, come to what both ends do at one moment, and so do they in the other order: at the first end nothing is different for the second to notice too, and all else is as the cut leaves it. Where the ends of each link agree that is 01's link down, as a node then sends by its own end. Assumes nothing.
use mathlib.Core.Path.{◌≡◌, refl, sym, ap, subst, ◌∙◌}
use mathlib.Core.Logic.{inl, inr, ◌≢◌}
use mathlib.Core.Bool.{Bool, not, cond, ◌&&◌}
use mathlib.Core.List.{[]}
use Prim.Native.Nat.{ℕ, ◌<◌}
use native.Mathlib.Decide.{ℕ_discrete, dec_lt}
use native.Mathlib.Omega.{arith}
use lib.Dec.{eqb}
use Rattle.hop_rule.specs.Words.{loop}
use Rattle.hop_rule.specs.State.{State}
use Rattle.hop_rule.specs.Rule.{up, sends, distance_of, send, recompute, recompute_all}
use Rattle.hop_rule.specs.Sound.{Linked, Sends}
use Rattle.hop_rule.specs.Notice.{EndsAgree, lose, notice, missing, link_down}
use Rattle.hop_laws.specs.Same.{Same}
use Rattle.hop_laws.specs.AtOnce.{recompute01, recompute_all01, cut, link_down01}
use Rattle.hop_laws.proofs.Tests.{decides, tells_false, tells_same, tells_as}
use Rattle.hop_laws.proofs.Sound.{tells_up, tells_sends}
use Rattle.hop_laws.proofs.Words.{loop_both}
use Rattle.hop_laws.proofs.Rule.{Between, tells_between, between_back, Both, both, both_same, both_either}
use Rattle.hop_laws.proofs.Same.{same_refl, same_sym, same_trans}
use Rattle.hop_laws.proofs.Notice.{One, lose_link, lose_view, lose_queue, missing_given, missing_none, down_ascending, down_descending}
use Rattle.hop_rest.specs.Frame.{EveryNoticeRewritesOnly}
use Rattle.hop_rest.proofs.Mended.{recompute_all_n}
use Rattle.hop_rest.proofs.Kept.{notice_n}
use Rattle.hop_rest.proofs.Same.{recompute_same}
use Rattle.hop_rest.proofs.Parts.{SameAt, same_at_sym, same_at_trans, all_same, all_own, all_other, all_link, all_view, all_distance, all_downstream, all_queue, all_unsent}

-- ---- which cells the cut changes

module _ (s : State) (a b x y : ℕ) where
  cut_link : Both a b x y ((cut s a b).link x y) 0 (s.link x y)
  unfolding cut
  cut_link = both a b x y 0 0 0 (s.link x y) (λ i. refl) (λ i. refl)

  cut_view : (v : ℕ) → Both a b x y ((cut s a b).view x y v) s.n (s.view x y v)
  unfolding cut
  cut_view v = both a b x y s.n s.n s.n (s.view x y v) (λ i. refl) (λ i. refl)

  cut_queue : Both a b x y ((cut s a b).queue x y) [] (s.queue x y)
  unfolding cut
  cut_queue = both a b x y [] [] [] (s.queue x y) (λ i. refl) (λ i. refl)

cut_either : (s : State) (a b x : ℕ) → SameAt x (cut s a b) (cut s b a)
unfolding cut
cut_either s a b x = record {
  n = refl;
  link = λ y ly. link x y;
  sends = λ y ly. rw (link x y, link y x);
  distance = λ v lv. refl;
  downstream = λ v lv. refl;
  view = λ y v ly lv. both_same (cut_view s a b x y v) (both_either (cut_view s b a x y v)) refl refl;
  queue = λ y ly. both_same (cut_queue s a b x y) (both_either (cut_queue s b a x y)) refl refl;
}
  where
    link : (x y : ℕ) → (cut s a b).link x y ≡ (cut s b a).link x y
    link x y = both_same (cut_link s a b x y) (both_either (cut_link s b a x y)) refl refl

-- Both ends at one moment, each sending as R-5 has it.
once : State → ℕ → ℕ → State
once s a b = recompute_all (recompute_all (cut s a b) a) b

-- ---- b notices right after a

module _ (s : State) (a b x y : ℕ) where
  pub notice_link : One a b x y ((notice s a b).link x y) 0 (s.link x y)
  unfolding notice
  notice_link = let e = all_link (lose s a b) a x y in record { at = λ i j. e ∙ (lose_link s a b x y).at i j; other = λ f. e ∙ (lose_link s a b x y).other f }

  pub notice_view : (v : ℕ) → (x ≡ a → y ≢ b) → (notice s a b).view x y v ≡ s.view x y v
  unfolding notice
  notice_view v f = all_view (lose s a b) a x y v ∙ (lose_view s a b x y v).other f

-- a's notice leaves b's end as it was.
pub other_end : (s : State) (a b : ℕ) → a ≢ b → (notice s a b).link b a ≡ s.link b a
other_end s a b apart = (notice_link s a b b a).other (λ i. absurd (apart (sym i)))

module _ (s : State) (a b : ℕ) (apart : a ≢ b) where
  -- a's part, before it recomputes, is that of the cut.
  lost_first : SameAt a (lose s a b) (cut s a b)
  unfolding lose cut
  lost_first = record {
    n = refl;
    link = λ y ly. link y (ℕ_discrete y b);
    sends = λ y ly. sent y (ℕ_discrete y b);
    distance = λ v lv. refl;
    downstream = λ v lv. refl;
    view = λ y v ly lv. view y v (ℕ_discrete y b);
    queue = λ y ly. both_same (lose_queue s a b a y) (cut_queue s a b a y) refl refl;
  }
    where
      link : (y : ℕ) → Dec (y ≡ b) → (lose s a b).link a y ≡ (cut s a b).link a y
      link y (yes j) = (lose_link s a b a y).at refl j ∙ sym ((cut_link s a b a y).at (inl (refl, j)))
      link y (no f) = (lose_link s a b a y).other (λ i. f) ∙ sym ((cut_link s a b a y).other (λ h. elim h [ inl p ↦ f p.1 | inr p ↦ apart p.0 ]))

      view : (y v : ℕ) → Dec (y ≡ b) → (lose s a b).view a y v ≡ (cut s a b).view a y v
      view y v (yes j) = (lose_view s a b a y v).at refl j ∙ sym ((cut_view s a b a y v).at (inl (refl, j)))
      view y v (no f) = (lose_view s a b a y v).other (λ i. f) ∙ sym ((cut_view s a b a y v).other (λ h. elim h [ inl p ↦ f p.1 | inr p ↦ apart p.0 ]))

      back : (y : ℕ) → y ≢ b → (lose s a b).link y a ≡ (cut s a b).link y a
      back y f = (lose_link s a b y a).other (λ i j. apart j) ∙ sym ((cut_link s a b y a).other (λ h. elim h [ inl p ↦ apart p.1 | inr p ↦ f p.0 ]))

      sent : (y : ℕ) → Dec (y ≡ b) → sends (lose s a b) a y ≡ sends (cut s a b) a y
      sent y (yes j) =
          tells_false (tells_sends (lose s a b) a y) (λ q. omega (arith, q.0, (lose_link s a b a y).at refl j))
          ∙ sym (tells_false (tells_sends (cut s a b) a y) (λ q. omega (arith, q.0, (cut_link s a b a y).at (inl (refl, j)))))
      sent y (no f) = λ i. eqb (link y (no f) i) 1 && eqb (back y f i) 1

  -- a has no entry for b: its end is down.
  own_queue : (y : ℕ) → y ≡ b → (notice s a b).queue a y ≡ []
  unfolding notice
  own_queue y j = all_unsent (lose s a b) a y (λ q. omega (arith, q.0, (lose_link s a b a y).at refl j)) ∙ (lose_queue s a b a y).at (inl (refl, j))

  -- Once b has noticed too, a's part is what a left,
  lost_again : SameAt a (lose (notice s a b) b a) (notice s a b)
  unfolding lose
  lost_again = record {
    n = refl;
    link = λ y ly. link y;
    sends = λ y ly. sent y (ℕ_discrete y b);
    distance = λ v lv. refl;
    downstream = λ v lv. refl;
    view = λ y v ly lv. (lose_view (notice s a b) b a a y v).other (λ i. absurd (apart i));
    queue = λ y ly. queue y (ℕ_discrete y b);
  }
    where
      link : (y : ℕ) → (lose (notice s a b) b a).link a y ≡ (notice s a b).link a y
      link y = (lose_link (notice s a b) b a a y).other (λ i. absurd (apart i))

      sent : (y : ℕ) → Dec (y ≡ b) → sends (lose (notice s a b) b a) a y ≡ sends (notice s a b) a y
      sent y (yes j) =
          tells_false (tells_sends (lose (notice s a b) b a) a y) (λ q. omega (arith, q.0, link y, (notice_link s a b a y).at refl j))
          ∙ sym (tells_false (tells_sends (notice s a b) a y) (λ q. omega (arith, q.0, (notice_link s a b a y).at refl j)))
      sent y (no f) = rw (link y, (lose_link (notice s a b) b a y a).other (λ i. absurd (f i)))

      queue : (y : ℕ) → Dec (y ≡ b) → (lose (notice s a b) b a).queue a y ≡ (notice s a b).queue a y
      queue y (yes j) = (lose_queue (notice s a b) b a a y).at (inr (refl, j)) ∙ sym (own_queue y j)
      queue y (no f) = (lose_queue (notice s a b) b a a y).other (λ h. elim h [ inl p ↦ apart p.0 | inr p ↦ f p.1 ])

  -- and every other part is as the cut leaves it.
  second_link : (x y : ℕ) → (lose (notice s a b) b a).link x y ≡ (cut s a b).link x y
  unfolding lose notice cut
  second_link x y = ap (λ z. cond (eqb x b && eqb y a) 0 z) (all_link (lose s a b) a x y)

  second_view : (x y v : ℕ) → (lose (notice s a b) b a).view x y v ≡ (cut s a b).view x y v
  unfolding lose notice cut
  second_view x y v = λ i. cond (eqb x b && eqb y a) (recompute_all_n (lose s a b) a i) (all_view (lose s a b) a x y v i)

  lost_rest : (x : ℕ) → x ≢ a → SameAt x (lose (notice s a b) b a) (cut s a b)
  unfolding lose notice cut
  lost_rest x f = record {
    n = notice_n s a b;
    link = λ y ly. second_link x y;
    sends = λ y ly. rw (second_link x y, second_link y x);
    distance = λ v lv. before.distance v (omega (arith, before.n, lv));
    downstream = λ v lv. before.downstream v (omega (arith, before.n, lv));
    view = λ y v ly lv. second_view x y v;
    queue = λ y ly. queue y ly (decides (tells_between a b x y));
  }
    where
      before : SameAt x (notice s a b) (lose s a b)
      before = all_other (lose s a b) a x f

      queue : (y : ℕ) → y < (notice s a b).n → Dec (Between a b x y) → (lose (notice s a b) b a).queue x y ≡ (cut s a b).queue x y
      queue y ly (yes h) = (both_either (lose_queue (notice s a b) b a x y)).at h ∙ sym ((cut_queue s a b x y).at h)
      queue y ly (no g) = (both_either (lose_queue (notice s a b) b a x y)).other g ∙ before.queue y ly ∙ (lose_queue s a b x y).other g ∙ sym ((cut_queue s a b x y).other g)

  -- So the two notices are both ends at one moment.
  parts : (x : ℕ) → Dec (x ≡ a) → Dec (x ≡ b) → SameAt x (notice (notice s a b) b a) (once s a b)
  unfolding notice once
  parts x (yes i) j =
      subst (λ (y : ℕ). SameAt y (notice (notice s a b) b a) (once s a b)) (sym i)
      (same_at_trans (all_other (lose (notice s a b) b a) b a apart) (same_at_trans lost_again (same_at_trans (all_own a lost_first) (same_at_sym (all_other (recompute_all (cut s a b) a) b a apart)))))
  parts x (no f) (yes j) =
      subst (λ (y : ℕ). SameAt y (notice (notice s a b) b a) (once s a b)) (sym j)
      (let g : b ≢ a = λ i. apart (sym i) in all_own b (same_at_trans (lost_rest b g) (same_at_sym (all_other (cut s a b) a b g))))
  parts x (no f) (no g) =
      same_at_trans (all_other (lose (notice s a b) b a) b x g)
      (same_at_trans (lost_rest x f) (same_at_sym (same_at_trans (all_other (recompute_all (cut s a b) a) b x g) (all_other (cut s a b) a x f))))

  notices_at_once : Same (notice (notice s a b) b a) (once s a b)
  notices_at_once = let at : (x : ℕ) → SameAt x (notice (notice s a b) b a) (once s a b) = λ x. parts x (ℕ_discrete x a) (ℕ_discrete x b) in all_same (at a).n at

-- ---- either end first

module _ (s : State) where
  -- Each end's part is what it alone recomputes; every other part is as the cut left it.
  once_first : (a b : ℕ) → a ≢ b → SameAt a (once s a b) (recompute_all (cut s a b) a)
  unfolding once
  once_first a b f = all_other (recompute_all (cut s a b) a) b a f

  once_second : (a b : ℕ) → a ≢ b → SameAt b (once s a b) (recompute_all (cut s a b) b)
  unfolding once
  once_second a b f = all_own b (all_other (cut s a b) a b (λ i. f (sym i)))

  once_others : (a b x : ℕ) → x ≢ a → x ≢ b → SameAt x (once s a b) (cut s a b)
  unfolding once
  once_others a b x f g = same_at_trans (all_other (recompute_all (cut s a b) a) b x g) (all_other (cut s a b) a x f)

  once_parts : (a b : ℕ) → a ≢ b → (x : ℕ) → Dec (x ≡ a) → Dec (x ≡ b) → SameAt x (once s a b) (once s b a)
  once_parts a b f x (yes i) j =
      subst (λ (y : ℕ). SameAt y (once s a b) (once s b a)) (sym i)
      (same_at_trans (once_first a b f) (same_at_trans (all_own a (cut_either s a b a)) (same_at_sym (once_second b a (λ k. f (sym k))))))
  once_parts a b f x (no i) (yes j) =
      subst (λ (y : ℕ). SameAt y (once s a b) (once s b a)) (sym j)
      (same_at_trans (once_second a b f) (same_at_trans (all_own b (cut_either s a b b)) (same_at_sym (once_first b a (λ k. f (sym k))))))
  once_parts a b f x (no i) (no j) = same_at_trans (once_others a b x i j) (same_at_trans (cut_either s a b x) (same_at_sym (once_others b a x j i)))

  once_either : (a b : ℕ) → a ≢ b → Same (once s a b) (once s b a)
  once_either a b f =
      let at : (x : ℕ) → SameAt x (once s a b) (once s b a) = λ x. once_parts a b f x (ℕ_discrete x a) (ℕ_discrete x b) in
      all_same (at a).n at

-- ---- link down

module _ (s : State) (a b : ℕ) (apart : a ≢ b) where
  -- Both notices are missing.
  pub both_missing : Sends s a b → missing (missing s a b) b a ≡ notice (notice s a b) b a
  both_missing q = ap (λ t. missing t b a) (missing_given s a b q.0) ∙ missing_given (notice s a b) b a (other_end s a b apart ∙ q.1)

  -- a's is missing, and b's is given.
  one_missing : Linked s a b → (Linked s b a → ⊥) → (missing (missing s a b) b a ≡ notice s a b) × (missing (missing s b a) a b ≡ notice s a b)
  one_missing q f = (
    ap (λ t. missing t b a) (missing_given s a b q) ∙ missing_none (notice s a b) b a (λ r. f (sym (other_end s a b apart) ∙ r)),
    ap (λ t. missing t a b) (missing_none s b a f) ∙ missing_given s a b q,
  )

-- Whichever end is named first, it is one state.
pub down_either : (s : State) (a b : ℕ) → link_down s a b ≡ link_down s b a
down_either s a b = go (ℕ_discrete a b) (dec_lt a b)
  where
    go : Dec (a ≡ b) → Dec (a < b) → link_down s a b ≡ link_down s b a
    go (yes i) l = rw i refl
    go (no f) (yes l) = down_ascending s a b l ∙ sym (down_descending s b a (λ m. omega arith))
    go (no f) (no l) = down_descending s a b l ∙ sym (down_ascending s b a (omega arith))

-- With both ends up it is both at one moment;
down_at_once : (s : State) (a b : ℕ) → a ≢ b → Sends s a b → Same (link_down s a b) (once s a b)
down_at_once s a b apart q = go (dec_lt a b)
  where
    go : Dec (a < b) → Same (link_down s a b) (once s a b)
    go (yes l) = rw (down_ascending s a b l, both_missing s a b apart q) (notices_at_once s a b apart)
    go (no f) =
        let back : b ≢ a = λ i. apart (sym i) in
        rw (down_descending s a b f, both_missing s b a back (q.1, q.0)) (same_trans (notices_at_once s b a back) (once_either s b a back))

-- and the two notices are link down, whichever end is first;
pub notices_down : (s : State) (a b : ℕ) → a ≢ b → Sends s a b → Same (notice (notice s a b) b a) (link_down s a b)
notices_down s a b apart q = same_trans (notices_at_once s a b apart) (same_sym (down_at_once s a b apart q))

-- with a's end alone up it is a's notice.
pub down_one : (s : State) (a b : ℕ) → a ≢ b → Linked s a b → (Linked s b a → ⊥) → link_down s a b ≡ notice s a b
down_one s a b apart q f = go (dec_lt a b)
  where
    go : Dec (a < b) → link_down s a b ≡ notice s a b
    go (yes l) = down_ascending s a b l ∙ (one_missing s a b apart q f).0
    go (no k) = down_descending s a b k ∙ (one_missing s a b apart q f).1

-- ---- what a notice rewrites

pub notice_rewrites_only : EveryNoticeRewritesOnly
unfolding notice lose
notice_rewrites_only s a b = record {
  nodes = notice_n s a b;
  links = λ x y f. (notice_link s a b x y).other f;
  own_end = (notice_link s a b a b).at refl refl;
  views = λ x y v f. notice_view s a b x y v f;
  own_views = λ v. all_view (lose s a b) a a b v ∙ (lose_view s a b a b v).at refl refl;
  distances = λ x v f. all_distance (lose s a b) a x v f;
  downstreams = λ x v f. all_downstream (lose s a b) a x v f;
  queues = λ x y f g. all_queue (lose s a b) a x y f ∙ (lose_queue s a b x y).other (λ h. elim h [ inl p ↦ f p.0 | inr p ↦ g p.0 p.1 ]);
  emptied = (unsent, back (ℕ_discrete b a));
}
  where
    unsent : (notice s a b).queue a b ≡ []
    unsent = all_unsent (lose s a b) a b (λ q. omega (arith, q.0, (lose_link s a b a b).at refl refl)) ∙ (lose_queue s a b a b).at (inl (refl, refl))

    back : Dec (b ≡ a) → (notice s a b).queue b a ≡ []
    back (yes i) = subst (λ (x : ℕ). (notice s a b).queue x a ≡ []) (sym i) (subst (λ (x : ℕ). (notice s a b).queue a x ≡ []) i unsent)
    back (no f) = all_queue (lose s a b) a b a f ∙ (lose_queue s a b b a).at (inr (refl, refl))

-- ---- where the ends of each link agree, both at one moment are 01's link down

agree_same : {s t : State} → Same s t → EndsAgree s → EndsAgree t
agree_same {s} {t} e agree a b la lb =
    let la : a < s.n = omega (arith, e.n) in
    let lb : b < s.n = omega (arith, e.n) in
    sym (e.link a b la lb) ∙ agree a b la lb ∙ e.link b a lb la

module _ (s : State) (agree : EndsAgree s) (u : ℕ) (lu : u < s.n) where
  -- What is sent by the node's own end gets through.
  own_end : (b : ℕ) → b < s.n → sends s u b ≡ up s u b
  own_end b lb = tells_same (tells_sends s u b) (tells_as (λ e. (e, agree b u lb lu ∙ e)) (λ q. q.0) (tells_up s u b))

  recompute_01 : (v : ℕ) → Same (recompute s u v) (recompute01 s u v)
  unfolding recompute recompute01
  recompute_01 v = record {
    n = refl;
    link = λ a b la lb. refl;
    distance = λ a c la lc. refl;
    downstream = λ a c la lc. refl;
    view = λ a b c la lb lc. refl;
    queue = λ a b la lb. ap (λ (c : Bool). cond (eqb a u && (c && not (eqb (distance_of s u v) (s.distance u v)))) (send (record { destination = v; value = distance_of s u v }) (s.queue a b)) (s.queue a b)) (own_end b lb);
  }

all_01 : {s t : State} → Same s t → EndsAgree s → (u : ℕ) → u < s.n → Same (recompute_all s u) (recompute_all01 t u)
unfolding recompute_all recompute_all01 recompute
all_01 {s} {t} e agree u lu =
    let step : ℕ → State → State = λ v x. recompute x u v in
    let step01 : ℕ → State → State = λ v x. recompute01 x u v in
    subst (λ (m : ℕ). Same (recompute_all s u) (loop m step01 t)) e.n
    (loop_both (λ x y. Same x y × (x.n ≡ s.n) × EndsAgree x) s.n step step01 s t (e, refl, agree) (λ v x y l p.
    (same_trans (recompute_same p.0 u v (omega (arith, p.1)) (omega (arith, p.1))) (recompute_01 y (agree_same p.0 p.2) u (omega (arith, p.0.n, p.1)) v), p.1, p.2))).0

once_01 : (s : State) (a b : ℕ) → EndsAgree s → a < s.n → b < s.n → Same (once s a b) (link_down01 s a b)
unfolding once link_down01 cut
once_01 s a b agree la lb =
    let n = recompute_all_n (cut s a b) a in
    all_01 (all_01 (same_refl (cut s a b)) cut_agrees a la) (λ x y lx ly. all_link (cut s a b) a x y ∙ cut_agrees x y (omega arith) (omega arith) ∙ sym (all_link (cut s a b) a y x)) b (omega arith)
  where
    cut_agrees : EndsAgree (cut s a b)
    cut_agrees x y lx ly = go (decides (tells_between a b x y))
      where
        go : Dec (Between a b x y) → (cut s a b).link x y ≡ (cut s a b).link y x
        go (yes h) = (cut_link s a b x y).at h ∙ sym ((cut_link s a b y x).at (between_back h))
        go (no f) = (cut_link s a b x y).other f ∙ agree x y lx ly ∙ sym ((cut_link s a b y x).other (λ h. f (between_back h)))

pub down_01 : (s : State) (a b : ℕ) → EndsAgree s → a < s.n → b < s.n → a ≢ b → Sends s a b → Same (link_down s a b) (link_down01 s a b)
down_01 s a b agree la lb apart q = same_trans (down_at_once s a b apart q) (once_01 s a b agree la lb)
