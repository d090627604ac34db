-- R-1's lines: the turned state is sound, so that its trial comes to rest; every number fits; of the two states, before and after, one has a link more and trusts the same views, so that none of its distances is larger; and where no link has just one end up the distances are true hop counts. Assumes nothing.
use mathlib.Core.Path.{◌≡◌, refl, sym, ap, subst, ◌∙◌}
use mathlib.Core.Logic.{inl, inr, ◌≢◌}
use mathlib.Core.Bool.{Bool, true}
use Prim.Native.Nat.{ℕ, ◌*◌, ◌-◌, ◌≤◌, ◌<◌}
use native.Mathlib.Nat.{mul-le-mul, le_trans}
use native.Mathlib.Decide.{ℕ_discrete}
use native.Mathlib.Omega.{arith}
use Rattle.hop_rule.specs.State.{State}
use Rattle.hop_rule.specs.Rule.{link_up, total}
use Rattle.hop_rule.specs.Sound.{Linked, Sound}
use Rattle.hop_rule.specs.Notice.{EndsAgree, notice, link_down}
use Rattle.hop_rule.specs.Route.{routed}
use Rattle.hop_rule.specs.Worth.{turned, trial_passes, trial, table_of, lost, gained, line, tried}
use Rattle.hop_laws.proofs.Tests.{decides, tells_eq, tells_same, choose_so, choose_else}
use Rattle.hop_laws.proofs.Rule.{Between, tells_between, between_back, Both, up_link}
use Rattle.hop_laws.proofs.Notice.{down_ascending}
use Rattle.hop_laws.proofs.Worth.{tells_tried}
use Rattle.hop_rest.specs.Walks.{HopCount}
use Rattle.hop_rest.specs.Rest.{AtRest, ComesToRest, Settled}
use Rattle.hop_rest.specs.Right.{Right}
use Rattle.hop_rest.specs.Delivered.{Over}
use Rattle.hop_rest.specs.Worth.{HopCounts, Joins, LineRuns, EveryLineRuns, EveryLineFits, LineTells, EveryLineTells}
use Rattle.hop_rest.proofs.Kept.{down_n, down_keeps_sound, up_keeps_sound}
use Rattle.hop_rest.proofs.AtOnce.{notice_link, notice_view, both_missing}
use Rattle.hop_rest.proofs.Walks.{hop_count_same, hop_count_tells}
use Rattle.hop_rest.proofs.Right.{over_self, distance_most}
use Rattle.hop_rest.proofs.Rest.{rest_right, rest_hop_count}
use Rattle.hop_rest.proofs.Settling.{total_rest, passes_over}
use Rattle.hop_rest.proofs.Comes.{comes_to_rest}
use Rattle.hop_rest.proofs.Changes.{Agree, NoLarger, keeps, no_longer, lost_parted, lost_most, lost_none, change_same, change_most, change_not_above, change_not_below, change_above, change_below, change_none}
use Rattle.hop_rest.proofs.Bridges.{Adds, no_larger, link_shows, another_way, only_way, keeps_distance, never_both}

-- ---- a link taken down at both ends

module _ (s : State) (a b : ℕ) (ascends : a < b) (first : Linked s a b) (second : Linked s b a) where
  down_notices : link_down s a b ≡ notice (notice s a b) b a
  down_notices = down_ascending s a b ascends ∙ both_missing s a b (λ i. omega arith) (first, second)

  down_link : (x y : ℕ) → Both a b x y ((link_down s a b).link x y) 0 (s.link x y)
  down_link x y = rw down_notices (record { at = taken; other = λ f. kept (λ i j. f (inr (i, j))) ∙ (notice_link s a b x y).other (λ i j. f (inl (i, j))) })
    where
      kept : (x ≡ b → y ≢ a) → (notice (notice s a b) b a).link x y ≡ (notice s a b).link x y
      kept = (notice_link (notice s a b) b a x y).other

      taken : Between a b x y → (notice (notice s a b) b a).link x y ≡ 0
      taken (inl p) = kept (λ i. absurd (omega (arith, i, p.0))) ∙ (notice_link s a b x y).at p.0 p.1
      taken (inr p) = (notice_link (notice s a b) b a x y).at p.0 p.1

  down_view : (x y v : ℕ) → (Between a b x y → ⊥) → (link_down s a b).view x y v ≡ s.view x y v
  down_view x y v f = rw down_notices (notice_view (notice s a b) b a x y v (λ i j. f (inr (i, j))) ∙ notice_view s a b x y v (λ i j. f (inl (i, j))))

-- ---- the turned state

module _ (s : State) (a b : ℕ) where
  -- What holds of both moves, each where it is made, holds of it.
  turned_by : (P : State → Type 0) → (s.link a b ≡ 1 → P (link_down s a b)) → (s.link a b ≢ 1 → P (link_up s a b)) → P (turned s a b)
  unfolding turned
  turned_by P away added = go (ℕ_discrete (s.link a b) 1)
    where
      go : Dec (s.link a b ≡ 1) → P (turned s a b)
      go (yes q) = subst P (sym (choose_so (tells_eq (s.link a b) 1) _ _ q)) (away q)
      go (no f) = subst P (sym (choose_else (tells_eq (s.link a b) 1) _ _ f)) (added f)

  pub turned_nodes : (turned s a b).n ≡ s.n
  unfolding link_up
  turned_nodes = turned_by (λ t. t.n ≡ s.n) (λ q. down_n s a b) (λ f. refl)

  module _ (so : tried s a b ≡ true) where
    pub ascends : a < b
    ascends = ((tells_tried s a b).shows so).0

    ends_same : s.link a b ≡ s.link b a
    ends_same = ((tells_tried s a b).shows so).1

    pub turned_sound : Sound s → b < s.n → Sound (turned s a b)
    turned_sound o inside =
        let up = ascends in
        turned_by Sound (λ q. down_keeps_sound s a b o (omega arith) inside) (λ f. up_keeps_sound s a b o (omega arith) inside (λ e. omega arith) f (λ q. f (ends_same ∙ q)))

    -- Its links are those of s, but for the pair's, which is turned at both ends; and views elsewhere stay.
    turned_link : s.link a b ≤ 1 → (x y : ℕ) → Both a b x y ((turned s a b).link x y) (1 - s.link a b) (s.link x y)
    turned_link bit x y = turned_by (λ t. Both a b x y (t.link x y) (1 - s.link a b) (s.link x y))
        (λ q. let down = down_link s a b ascends q (sym ends_same ∙ q) x y in record { at = λ h. omega (arith, q, down.at h); other = down.other })
        (λ f. record { at = λ h. omega (arith, f, bit, (up_link s a b x y).at h); other = (up_link s a b x y).other })

    turned_view : (x y v : ℕ) → (Between a b x y → ⊥) → (turned s a b).view x y v ≡ s.view x y v
    unfolding link_up
    turned_view x y v f = turned_by (λ t. t.view x y v ≡ s.view x y v) (λ q. down_view s a b ascends q (sym ends_same ∙ q) x y v f) (λ g. refl)

-- ---- the trial

module _ (s : State) (a b : ℕ) (o : Sound s) (so : tried s a b ≡ true) (inside : b < s.n) where
  sound : Sound (turned s a b)
  sound = turned_sound s a b so o inside

  rests : ComesToRest (turned s a b)
  rests = comes_to_rest (turned s a b) sound

  passes_most : (line s a b).passes ≤ s.n
  unfolding line trial_passes
  passes_most = subst (λ (m : ℕ). trial_passes s a b ≤ m) (turned_nodes s a b) (rests.made_most 255)

  deliveries_most : (line s a b).deliveries ≤ s.n * s.n * s.n * (s.n - 1)
  unfolding line trial_passes
  deliveries_most = subst (λ (m : ℕ). (line s a b).deliveries ≤ m * m * m * (m - 1)) (turned_nodes s a b) (rests.delivered_most 255)

  trial_over : Over (turned s a b) (trial s a b)
  unfolding trial trial_passes
  trial_over = passes_over (turned s a b) sound (trial_passes s a b) (rests.made_most 255)

  -- It is at rest, and nothing waits.
  pub trial_rests : s.n ≤ 255 → total (trial s a b) ≡ 0
  unfolding trial trial_passes
  trial_rests few = rests.run_rests 255 (omega (arith, turned_nodes s a b))

  trial_settled : s.n ≤ 255 → EndsAgree (turned s a b) → Settled (turned s a b) (trial s a b)
  unfolding trial trial_passes
  trial_settled few agree = rests.run_settles agree 255 (omega (arith, turned_nodes s a b))

-- ---- every number fits, also where s itself is not at rest

pub line_fits : EveryLineFits
unfolding line
line_fits s o few a b so inside =
    let two : s.n * s.n ≤ 1600 = mul-le-mul few few in
    let three : s.n * s.n * s.n ≤ 64000 = mul-le-mul two few in
    let less : s.n - 1 ≤ 39 = omega arith in
    let four : s.n * s.n * s.n * (s.n - 1) ≤ 2496000 = mul-le-mul three less in
    record {
      low_most = omega (arith, ascends s a b so);
      high_most = omega arith;
      passes_most = le_trans (passes_most s a b o so inside) few;
      deliveries_most = le_trans (deliveries_most s a b o so inside) four;
      lost_most = le_trans (lost_most s.n _ _) two;
      gained_most = le_trans (lost_most s.n _ _) two;
      change_most = le_trans (change_most s.n _ _) three;
    }

-- ---- what a line tells of a state that is at rest

-- Whoever tells whether two nodes are joined tells it as their hop count does.
joins_routed : {g : State} {j : ℕ → ℕ → Bool} {u v d : ℕ} → Joins g j → u < g.n → v < g.n → (n : ℕ) → g.n ≡ n → HopCount g u v d → routed n d ≡ j u v
joins_routed {u = u} {v} joins lu lv n e h =
    rw (← e) (tells_same (hop_count_tells h) (record { shows = joins.only u v lu lv; if_so = λ w. joins.so u v w.0 lu lv w.1 }))

module _ (s : State) (o : Sound s) (rest : AtRest s) (few : s.n ≤ 255) (a b : ℕ) (so : tried s a b ≡ true) (inside : b < s.n) where
  nodes : (turned s a b).n ≡ s.n
  nodes = turned_nodes s a b

  bit : s.link a b ≤ 1
  bit = o.bits a b (omega (arith, ascends s a b so)) inside

  link_at : (x y : ℕ) → Both a b x y ((turned s a b).link x y) (1 - s.link a b) (s.link x y)
  link_at = turned_link s a b so bit

  abbrev before : ℕ → ℕ → ℕ
  before = table_of s

  abbrev after : ℕ → ℕ → ℕ
  after = table_of (trial s a b)

  after_rests : AtRest (trial s a b)
  after_rests = total_rest (trial s a b) (trial_rests s a b o so inside few)

  -- Both tables are of shortest trails.
  before_right : (u v : ℕ) → u < s.n → v < s.n → Right s s.n (before u v) u v
  before_right = rest_right s s (over_self o) rest

  after_right : (u v : ℕ) → u < s.n → v < s.n → Right (turned s a b) s.n (after u v) u v
  after_right u v lu lv = subst (λ (m : ℕ). Right (turned s a b) m (after u v) u v) nodes (rest_right (turned s a b) (trial s a b) (trial_over s a b o so inside) after_rests u v (rw nodes lu) (rw nodes lv))

  before_most : (u v : ℕ) → u < s.n → v < s.n → before u v ≤ s.n
  before_most = distance_most s s (over_self o)

  after_most : (u v : ℕ) → u < s.n → v < s.n → after u v ≤ s.n
  after_most u v lu lv = subst (λ (m : ℕ). after u v ≤ m) nodes (distance_most (turned s a b) (trial s a b) (trial_over s a b o so inside) u v (rw nodes lu) (rw nodes lv))

  -- One of the two has the link besides.
  either_end : (P : ℕ → Type 0) → P (s.link a b) → (x y : ℕ) → Between a b x y → P (s.link x y)
  either_end P h x y (inl p) = rw (p.0, p.1) h
  either_end P h x y (inr p) = rw (p.0, p.1) (subst P ((tells_tried s a b).shows so).1 h)

  away_adds : s.link a b ≡ 1 → Adds s.n (turned s a b) s a b
  away_adds q = record {
    nodes = nodes;
    nodes_too = refl;
    ascends = ascends s a b so;
    inside = inside;
    links = λ x y. record { at = either_end (λ e. e ≡ 1) q x y; other = λ f. sym ((link_at x y).other f) };
    unlinked = λ x y h e. omega (arith, q, (link_at x y).at h);
    views = λ x y v f. sym (turned_view s a b so x y v f);
  }

  added_adds : s.link a b ≢ 1 → Adds s.n s (turned s a b) a b
  added_adds f = record {
    nodes = refl;
    nodes_too = nodes;
    ascends = ascends s a b so;
    inside = inside;
    links = λ x y. record { at = λ h. omega (arith, f, bit, (link_at x y).at h); other = (link_at x y).other };
    unlinked = either_end (λ e. e ≢ 1) f;
    views = turned_view s a b so;
  }

  -- The pair itself has no end that is alone up, so that no view that one trusts is touched.
  trusts_still : (x y v : ℕ) → x < s.n → y < s.n → v < s.n → s.link x y ≡ 1 → s.link y x ≢ 1 → (trial s a b).view x y v ≡ s.view x y v
  trusts_still x y v lx ly lv q f =
      let off : Between a b x y → ⊥ = λ h. f (either_end (λ e. e ≡ 1) (alone h) y x (between_back h)) in
      (trial_over s a b o so inside).trusted x y v (rw nodes lx) (rw nodes ly) (rw nodes lv) (λ k. f (sym ((link_at y x).other (λ h. off (between_back h))) ∙ k))
      ∙ turned_view s a b so x y v off
    where
      alone : Between a b x y → s.link a b ≡ 1
      alone (inl p) = rw (← p.0, ← p.1) q
      alone (inr p) = ((tells_tried s a b).shows so).1 ∙ rw (← p.0, ← p.1) q

  away_no_larger : s.link a b ≡ 1 → NoLarger s.n after before
  away_no_larger q = no_larger (away_adds q) after_right before_right before_most

  added_no_larger : s.link a b ≢ 1 → NoLarger s.n before after
  added_no_larger f = no_larger (added_adds f) before_right after_right after_most

  away_gains_none : s.link a b ≡ 1 → gained s.n before after ≡ 0
  away_gains_none q = lost_none s.n after before (keeps (away_no_larger q))

  added_loses_none : s.link a b ≢ 1 → lost s.n before after ≡ 0
  added_loses_none f = lost_none s.n before after (keeps (added_no_larger f))

  line_runs : LineRuns s a b
  unfolding line
  line_runs = record {
    same_nodes = nodes;
    first_end = (link_at a b).at (inl (refl, refl));
    second_end = (link_at b a).at (inr (refl, refl)) ∙ ap (λ x. 1 - x) ((tells_tried s a b).shows so).1;
    other_links = λ x y f g. (link_at x y).other (λ h. elim h [ inl p ↦ f p | inr p ↦ g p ]);
    rests = after_rests;
    trusted = trusts_still;
    away_gained = away_gains_none;
    away_no_shorter = away_no_larger;
    away_change = λ q. change_not_below s.n after before (no_longer (away_no_larger q));
    added_lost = added_loses_none;
    added_no_longer = added_no_larger;
    added_change = λ f. change_not_above s.n before after (no_longer (added_no_larger f));
    passes_most = passes_most s a b o so inside;
    deliveries_most = deliveries_most s a b o so inside;
    lost_most = lost_most s.n _ _;
    gained_most = lost_most s.n _ _;
    change_most = change_most s.n _ _;
  }

  -- ---- and where no link has just one end up

  module _ (agree : EndsAgree s) where
    turned_agree : EndsAgree (turned s a b)
    turned_agree x y lx ly = go (decides (tells_between a b x y))
      where
        go : Dec (Between a b x y) → (turned s a b).link x y ≡ (turned s a b).link y x
        go (yes h) = (link_at x y).at h ∙ sym ((link_at y x).at (between_back h))
        go (no f) = (link_at x y).other f ∙ agree x y (omega (arith, nodes)) (omega (arith, nodes)) ∙ sym ((link_at y x).other (λ h. f (between_back h)))

    -- The tables before and after are those of the hop counts.
    settled : Settled (turned s a b) (trial s a b)
    settled = trial_settled s a b o so inside few turned_agree

    before_counts : HopCounts s before
    before_counts = rest_hop_count s s (over_self o) rest agree

    after_counts : (u v : ℕ) → u < s.n → v < s.n → HopCount (turned s a b) u v (after u v)
    after_counts u v lu lv = settled.distances u v (rw nodes lu) (rw nodes lv)

    before_agree : (d : ℕ → ℕ → ℕ) → HopCounts s d → Agree s.n before d
    before_agree d h u v lu lv = hop_count_same (before_counts u v lu lv) (h u v lu lv)

    after_agree : (d : ℕ → ℕ → ℕ) → HopCounts (turned s a b) d → Agree s.n after d
    after_agree d h u v lu lv = hop_count_same (after_counts u v lu lv) (h u v (rw nodes lu) (rw nodes lv))

    before_routed : (j : ℕ → ℕ → Bool) → Joins s j → (u v : ℕ) → u < s.n → v < s.n → routed s.n (before u v) ≡ j u v
    before_routed j h u v lu lv = joins_routed h lu lv s.n refl (before_counts u v lu lv)

    after_routed : (j : ℕ → ℕ → Bool) → Joins (turned s a b) j → (u v : ℕ) → u < s.n → v < s.n → routed s.n (after u v) ≡ j u v
    after_routed j h u v lu lv = joins_routed h (rw nodes lu) (rw nodes lv) s.n nodes (after_counts u v lu lv)

    -- Pairs lose a route only where the link is up, and gain one only where it is not.
    lost_up : lost s.n before after ≢ 0 → s.link a b ≡ 1
    lost_up some = elim (ℕ_discrete (s.link a b) 1) [ yes q ↦ q | no f ↦ absurd (some (added_loses_none f)) ]

    gained_down : gained s.n before after ≢ 0 → s.link a b ≢ 1
    gained_down some q = some (away_gains_none q)

    line_tells : LineTells s a b
    unfolding line
    line_tells = record {
      ends_agree = turned_agree;
      settled = settled;
      before_true = before_counts;
      lost_true = λ j k h i. lost_parted s.n before after j k (before_routed j h) (after_routed k i);
      gained_true = λ j k h i. lost_parted s.n after before k j (after_routed k i) (before_routed j h);
      change_true = λ d e h i. change_same s.n before after d e (before_agree d h) (after_agree e i);
      away_shows = λ q. elim (link_shows (away_adds q) after_counts before_counts (away_no_larger q)) [ inl l ↦ inl l | inr l ↦ inr (change_above s.n before after l) ];
      added_shows = λ f. elim (link_shows (added_adds f) before_counts after_counts (added_no_larger f)) [ inl l ↦ inl l | inr l ↦ inr (change_below s.n before after l) ];
      lost_alone = λ some. let q = lost_up some in change_none s.n before after (sym (never_both (away_adds q) after_counts before_counts (away_no_larger q) some));
      gained_alone = λ some. let f = gained_down some in change_none s.n before after (never_both (added_adds f) before_counts after_counts (added_no_larger f) some);
      lost_keeps = λ some u v lu lv l k. let q = lost_up some in sym (keeps_distance (away_adds q) after_counts before_counts (away_no_larger q) some u v lu lv k l);
      gained_keeps = λ some. let f = gained_down some in keeps_distance (added_adds f) before_counts after_counts (added_no_larger f) some;
      away_only_way = λ q some d w. only_way (away_adds q) after_counts before_counts (away_no_larger q) some (d, w);
      away_way_round = λ q none. another_way (away_adds q) after_counts before_counts (away_no_larger q) none;
      added_apart = λ f some d w. only_way (added_adds f) before_counts after_counts (added_no_larger f) some (d, w);
      added_joined = λ f none. another_way (added_adds f) before_counts after_counts (added_no_larger f) none;
    }

pub lines_run : EveryLineRuns
lines_run = line_runs

-- Where no link has just one end up every pair that ascends is tried.
pub lines_tell : EveryLineTells
lines_tell s o rest agree few a b up inside = line_tells s o rest few a b ((tells_tried s a b).if_so (up, agree a b (omega arith) inside)) inside agree
