-- The rule does not tell apart what is the same below n: from two such states its moves lead to two such states, and its counts are equal. Assumes nothing.
use mathlib.Core.Path.{◌≡◌, refl, sym, ap, subst, ◌∙◌}
use mathlib.Core.List.{List, [], ◌∷◌}
use Prim.Native.Nat.{ℕ, ◌<◌}
use native.Mathlib.Decide.{dec_lt}
use native.Mathlib.Omega.{arith}
use lib.Dec.{eqb}
use lib.ListN.{length}
use Rattle.hop_rule.specs.Words.{loop, listed}
use Rattle.hop_rule.specs.State.{State, Entry}
use Rattle.hop_rule.specs.Rule.{recompute, hear, deliver, link_up, recompute_all, pass, total, waiting_for, waiting_from, reached, passes, made, delivered}
use Rattle.hop_rule.specs.Sound.{Linked, Sound}
use Rattle.hop_rule.specs.Notice.{lose, notice, missing, link_down}
use Rattle.hop_laws.specs.Same.{Same}
use Rattle.hop_laws.proofs.Tests.{decides}
use Rattle.hop_laws.proofs.Words.{loop_both, sum_same, listed_same, joined_same, first_same}
use Rattle.hop_laws.proofs.Rule.{Alike, distance_of_alike, downstream_of_alike, deliver_head, deliver_none, both_same, up_queue}
use Rattle.hop_laws.proofs.Sound.{tells_up}
use Rattle.hop_laws.proofs.Notice.{missing_given, missing_none, down_ascending, down_descending}
use Rattle.hop_laws.proofs.Same.{same_reads}
use Rattle.hop_rest.specs.Orders.{Queue, Nodes, deliveries, ascending}
use Rattle.hop_rest.proofs.Frame.{deliver_n}
use Rattle.hop_rest.proofs.Kept.{waiting_below, deliver_keeps_sound, missing_n, pass_keeps_sound}
use Rattle.hop_rest.proofs.Ascending.{ascending_pass, ascending_deliveries}

module _ {s t : State} (e : Same s t) where
  pub recompute_same : (u v : ℕ) → u < s.n → v < s.n → Same (recompute s u v) (recompute t u v)
  unfolding recompute
  recompute_same u v lu lv = record {
    n = e.n;
    link = e.link;
    distance = λ a c la lc. rw (distance_of_alike reads, e.distance a c la lc);
    downstream = λ a c la lc. rw (downstream_of_alike reads, e.downstream a c la lc);
    view = e.view;
    queue = λ a b la lb. rw (distance_of_alike reads, e.link u b lu lb, e.link b u lb lu, e.distance u v lu lv, e.queue a b la lb);
  }
    where
      reads : Alike s t u v
      reads = same_reads e u v lu lv

  hear_same : (w u : ℕ) (head : Entry) (rest : List Entry) → w < s.n → u < s.n → Same (hear s w u head rest) (hear t w u head rest)
  unfolding hear
  hear_same w u head rest lw lu = record {
    n = e.n;
    link = e.link;
    distance = e.distance;
    downstream = e.downstream;
    view = λ a b c la lb lc. rw (e.view u w c lu lw lc, e.view a b c la lb lc);
    queue = λ a b la lb. rw (e.queue a b la lb);
  }

pub deliver_same : {s t : State} (w u : ℕ) → Sound s → w < s.n → u < s.n → Same s t → Same (deliver s w u) (deliver t w u)
unfolding hear
deliver_same {s} {t} w u o lw lu e = go (s.queue w u) refl
  where
    go : (q : List Entry) → s.queue w u ≡ q → Same (deliver s w u) (deliver t w u)
    go [] i = rw (deliver_none s w u i, deliver_none t w u (sym (e.queue w u lw lu) ∙ i)) e
    go (head ∷ rest) i =
        rw (deliver_head s w u head rest i, deliver_head t w u head rest (sym (e.queue w u lw lu) ∙ i))
        (recompute_same (hear_same e w u head rest lw lu) u head.destination lu (waiting_below s w u o lw lu head rest i))

pub deliveries_same : {s t : State} (qs : List Queue) → Sound s → Nodes s.n qs → Same s t → Same (deliveries s qs) (deliveries t qs)
unfolding deliveries
deliveries_same [] o l e = e
deliveries_same {s = s} {t = t} (q ∷ qs) o l e =
    deliveries_same {s = deliver s q.sender q.receiver} {t = deliver t q.sender q.receiver} qs (deliver_keeps_sound s q.sender q.receiver o l.0 l.1) (subst (λ (m : ℕ). Nodes m qs) (sym (deliver_n s q.sender q.receiver)) l.2)
    (deliver_same q.sender q.receiver o l.0 l.1 e)

-- ---- links

module _ {s t : State} (e : Same s t) (a b : ℕ) where
  pub up_same : Same (link_up s a b) (link_up t a b)
  unfolding link_up
  up_same = record {
    n = e.n;
    link = λ x y lx ly. rw (e.link x y lx ly);
    distance = e.distance;
    downstream = e.downstream;
    view = e.view;
    queue = λ x y lx ly. both_same (up_queue s a b x y) (up_queue t a b x y) (all x lx) (e.queue x y lx ly);
  }
    where
      -- All that x announces.
      all : (x : ℕ) → x < s.n → listed {A = Entry} s.n (λ v. record { destination = v; value = s.distance x v }) ≡ listed t.n (λ v. record { destination = v; value = t.distance x v })
      all x lx = rw (← e.n) (listed_same s.n _ _ (λ v lv. rw (e.distance x v lx lv)))

  lose_same : Same (lose s a b) (lose t a b)
  unfolding lose
  lose_same = record {
    n = e.n;
    link = λ x y lx ly. rw (e.link x y lx ly);
    distance = e.distance;
    downstream = e.downstream;
    view = λ x y v lx ly lv. rw (e.n, e.view x y v lx ly lv);
    queue = λ x y lx ly. rw (e.queue x y lx ly);
  }

pub recompute_all_same : {s t : State} → Same s t → (u : ℕ) → u < s.n → Same (recompute_all s u) (recompute_all t u)
unfolding recompute_all recompute
recompute_all_same {s} {t} e u lu =
    let step : ℕ → State → State = λ v x. recompute x u v in
    subst (λ (m : ℕ). Same (recompute_all s u) (loop m step t)) e.n
    (loop_both (λ x y. Same x y × (x.n ≡ s.n)) s.n step step s t (e, refl) (λ v x y l p. (recompute_same p.0 u v (omega arith) (omega arith), p.1))).0

pub notice_same : {s t : State} → Same s t → (a b : ℕ) → a < s.n → Same (notice s a b) (notice t a b)
unfolding notice lose
notice_same e a b la = recompute_all_same (lose_same e a b) a la

missing_same : {s t : State} → Same s t → (a b : ℕ) → a < s.n → b < s.n → Same (missing s a b) (missing t a b)
missing_same {s} {t} e a b la lb = go (decides (tells_up s a b))
  where
    go : Dec (Linked s a b) → Same (missing s a b) (missing t a b)
    go (yes q) = rw (missing_given s a b q, missing_given t a b (sym (e.link a b la lb) ∙ q)) (notice_same e a b la)
    go (no f) = rw (missing_none s a b f, missing_none t a b (λ q. f (e.link a b la lb ∙ q))) e

pub down_same : {s t : State} → Same s t → (a b : ℕ) → a < s.n → b < s.n → Same (link_down s a b) (link_down t a b)
down_same {s} {t} e a b la lb = go (dec_lt a b)
  where
    both : (x y : ℕ) → x < s.n → y < s.n → Same (missing (missing s x y) y x) (missing (missing t x y) y x)
    both x y lx ly = missing_same (missing_same e x y lx ly) y x (rw (missing_n s x y) ly) (rw (missing_n s x y) lx)

    go : Dec (a < b) → Same (link_down s a b) (link_down t a b)
    go (yes l) = rw (down_ascending s a b l, down_ascending t a b l) (both a b la lb)
    go (no f) = rw (down_descending s a b f, down_descending t a b f) (both b a lb la)

-- ---- passes

module _ {s t : State} (o : Sound s) (e : Same s t) where
  -- A pass is its deliveries, in ascending order.
  pub pass_same : Same (pass s) (pass t)
  unfolding ascending
  pass_same =
      let all : ascending s ≡ ascending t = rw (← e.n) (joined_same s.n _ _ (λ w lw. joined_same s.n _ _ (λ u lu. rw (e.queue w u lw lu)))) in
      rw (← ascending_deliveries s, ← ascending_deliveries t, ← all) (deliveries_same (ascending s) o (ascending_pass s).nodes e)

pub passes_same : {s t : State} → Sound s → Same s t → (k : ℕ) → Same (passes s k) (passes t k)
unfolding passes
passes_same {s} {t} o e k =
    (loop_both (λ x y. Same x y × Sound x) k (λ i. pass) (λ i. pass) s t (e, o) (λ i x y l p. (pass_same p.1 p.0, (pass_keeps_sound x p.1).0))).0

-- ---- counts

module _ {s t : State} (e : Same s t) where
  pub total_same : total s ≡ total t
  unfolding total
  total_same = rw (← e.n) (sum_same s.n _ _ (λ w lw. sum_same s.n _ _ (λ u lu. ap length (e.queue w u lw lu))))

  pub waiting_for_same : (u : ℕ) → u < s.n → waiting_for s u ≡ waiting_for t u
  unfolding waiting_for
  waiting_for_same u lu = rw (← e.n) (sum_same s.n _ _ (λ w lw. ap length (e.queue w u lw lu)))

  pub waiting_from_same : (u : ℕ) → u < s.n → waiting_from s u ≡ waiting_from t u
  unfolding waiting_from
  waiting_from_same u lu = rw (← e.n) (sum_same s.n _ _ (λ x lx. ap length (e.queue u x lu lx)))

  pub reached_same : (u : ℕ) → u < s.n → reached s u ≡ reached t u
  unfolding reached
  reached_same u lu = rw (← e.n) (sum_same s.n _ _ (λ v lv. rw (e.distance u v lu lv)))

module _ {s t : State} (o : Sound s) (e : Same s t) where
  pub made_same : (k : ℕ) → made s k ≡ made t k
  unfolding made
  made_same k = first_same k _ _ (λ j l. ap (λ m. eqb m 0) (total_same (passes_same o e j)))

  pub delivered_same : (k : ℕ) → delivered s k ≡ delivered t k
  unfolding delivered
  delivered_same k = sum_same k _ _ (λ j l. total_same (passes_same o e j))
