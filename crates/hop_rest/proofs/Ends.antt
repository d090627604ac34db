-- Which end of a link is named first does not matter, nor which one notices first; and link down of a link with both ends up is 01's, byte for byte. Assumes nothing.
use mathlib.Core.Path.{◌≡◌, refl, sym, ap, subst, ◌∙◌}
use mathlib.Core.Logic.{◌⊎◌, inl, inr, ◌≢◌}
use mathlib.Core.Bool.{Bool, true, false, not, ◌||◌}
use mathlib.Core.List.{List, [], ◌∷◌, ◌++◌}
use Prim.Native.Nat.{ℕ, ◌<◌}
use native.Mathlib.Decide.{ℕ_discrete}
use native.Mathlib.Omega.{arith}
use lib.Dec.{eqb}
use lib.ListN.{drop}
use Rattle.hop_rule.specs.State.{State}
use Rattle.hop_rule.specs.Rule as rule
use Rattle.hop_rule.specs.Rule.{link_up}
use Rattle.hop_rule.specs.Stored.{size, stored, nodes, read_as, read}
use Rattle.hop_rule.specs.Sound.{Linked, Sends, Sound}
use Rattle.hop_rule.specs.Notice.{one_ended, link_down}
use Rattle.hop_rule.specs.Notice as ends
use Rattle.hop_rule.specs.Calls.{Call, up, down, notice, Refusal, judge, no_node, one_node, is_up, still_up, is_down, end_down, on_state, refusals, refused, changed, restored, done, outcome}
use Rattle.hop_laws.specs.Same.{Same}
use Rattle.hop_laws.specs.Fine.{Fine}
use Rattle.hop_laws.proofs.Tests.{tells_eq, tells_or, tells_as, tells_same}
use Rattle.hop_laws.proofs.Sound.{tells_up, tells_sends}
use Rattle.hop_laws.proofs.Rule.{both_same, both_either, up_link, up_queue}
use Rattle.hop_laws.proofs.Notice.{tells_one_ended}
use Rattle.hop_laws.proofs.Stored.{nodes_stored}
use Rattle.hop_laws.proofs.Read.{read_stored}
use Rattle.hop_laws.proofs.Same.{same_refl, stored_same}
use Rattle.hop_laws.proofs.Calls.{judge_applies, judge_next, judge_rest, outcome_done, outcome_refused, state_refused, state_passed}
use Rattle.hop_laws.proofs.Accepted.{accepted_fine, fine_ends, stored_fine}
use Rattle.hop_rest.specs.Ends.{EndsAlike, NoticesMeetAtDown, DownGivesMissing}
use Rattle.hop_rest.proofs.Kept.{notice_n, notice_keeps_sound}
use Rattle.hop_rest.proofs.Same.{notice_same}
use Rattle.hop_rest.proofs.Delivering.{restored_same, restored_twice}
use Rattle.hop_rest.proofs.AtOnce.{other_end, down_either, notices_down, down_01, down_one}

-- ---- either end named first

up_either : (s : State) (a b : ℕ) → Same (link_up s a b) (link_up s b a)
unfolding link_up
up_either s a b = record {
  n = refl;
  link = λ x y lx ly. both_same (up_link s a b x y) (both_either (up_link s b a x y)) refl refl;
  distance = λ u v lu lv. refl;
  downstream = λ u v lu lv. refl;
  view = λ u w v lu lw lv. refl;
  queue = λ x y lx ly. both_same (up_queue s a b x y) (both_either (up_queue s b a x y)) refl refl;
}

-- ---- the calls

-- Of two refusals with one number either may come first.
judge_swap : (x y : Refusal) (rs qs : List Refusal) → x.number ≡ y.number → (x.applies ≡ false → y.applies ≡ false → judge rs ≡ judge qs) → judge (x ∷ y ∷ rs) ≡ judge (y ∷ x ∷ qs)
judge_swap x y rs qs e h = go x.applies y.applies refl refl
  where
    go : (b c : Bool) → x.applies ≡ b → y.applies ≡ c → judge (x ∷ y ∷ rs) ≡ judge (y ∷ x ∷ qs)
    go true true i j = judge_applies x _ i ∙ e ∙ sym (judge_applies y _ j)
    go true false i j = judge_applies x _ i ∙ sym (judge_next y _ j ∙ judge_applies x qs i)
    go false true i j = judge_next x _ i ∙ judge_applies y rs j ∙ sym (judge_applies y _ j)
    go false false i j = judge_next x _ i ∙ judge_next y rs j ∙ h i j ∙ sym (judge_next y _ j ∙ judge_next x qs i)

module _ (s out : List ℕ) (a b : ℕ) where
  ends_judged : (ps qs : List Refusal) → judge ps ≡ judge qs
      → judge (on_state s (no_node s a ∷ no_node s b ∷ one_node a b ∷ ps)) ≡ judge (on_state s (no_node s b ∷ no_node s a ∷ one_node b a ∷ qs))
  ends_judged ps qs h = go (ℕ_discrete (judge (on_state s [])) 0)
    where
      more : List Refusal
      more = no_node s a ∷ no_node s b ∷ one_node a b ∷ ps

      less : List Refusal
      less = no_node s b ∷ no_node s a ∷ one_node b a ∷ qs

      ends : eqb a b ≡ eqb b a
      ends = tells_same (tells_eq a b) (tells_as sym sym (tells_eq b a))

      go : Dec (judge (on_state s []) ≡ 0) → judge (on_state s more) ≡ judge (on_state s less)
      go (no k) = state_refused s more k ∙ sym (state_refused s less k)
      go (yes z) =
          state_passed s more z
          ∙ judge_swap (no_node s a) (no_node s b) _ _ refl (λ x y. rw ends (judge_rest (one_node b a) ps qs (λ e. h)))
          ∙ sym (state_passed s less z)

  -- What is judged of a link's two ends is judged of both alike.
  up_judged : judge (is_up s a b ∷ still_up s a b ∷ []) ≡ judge (is_up s b a ∷ still_up s b a ∷ [])
  up_judged =
      let both : rule.sends (read s) a b ≡ rule.sends (read s) b a = tells_same (tells_sends (read s) a b) (tells_as (λ q. (q.1, q.0)) (λ q. (q.1, q.0)) (tells_sends (read s) b a)) in
      let one : one_ended (read s) a b ≡ one_ended (read s) b a = tells_same (tells_one_ended (read s) a b) (tells_as (λ f e. f (sym e)) (λ f e. f (sym e)) (tells_one_ended (read s) b a)) in
      rw (both, one) refl

  down_judged : judge (is_down s a b ∷ []) ≡ judge (is_down s b a ∷ [])
  down_judged =
      let some : rule.up (read s) a b || rule.up (read s) b a ≡ rule.up (read s) b a || rule.up (read s) a b =
      tells_same (tells_or (tells_up (read s) a b) (tells_up (read s) b a)) (tells_as either either (tells_or (tells_up (read s) b a) (tells_up (read s) a b))) in
      rw some refl
    where
      either : {P Q : Type 0} → P ⊎ Q → Q ⊎ P
      either (inl p) = inr p
      either (inr q) = inl q

  ends_outcome : (c d : Call) (t r : State) → judge (refusals c s out) ≡ judge (refusals d s out) → done c s out ≡ changed t [] s out → done d s out ≡ changed r [] s out → Same t r → outcome c s out ≡ outcome d s out
  ends_outcome c d t r e i j same = go (ℕ_discrete (judge (refusals c s out)) 0)
    where
      bytes : stored t ++ drop (size t.n) s ≡ stored r ++ drop (size r.n) s
      bytes = ap (λ z. z ++ drop (size t.n) s) (stored_same same) ∙ ap (λ m. stored r ++ drop (size m) s) same.n

      go : Dec (judge (refusals c s out) ≡ 0) → outcome c s out ≡ outcome d s out
      go (yes z) = outcome_done c s out z ∙ i ∙ (λ k. record { number = 0; answers = []; bytes = bytes k; output = out }) ∙ sym j ∙ sym (outcome_done d s out (sym e ∙ z))
      go (no k) = outcome_refused c s out k ∙ ap (λ m. refused m s out) e ∙ sym (outcome_refused d s out (λ z. k (e ∙ z)))

  pub ends_alike : EndsAlike s out a b
  unfolding refusals done
  ends_alike = record {
    up_either = ends_outcome (up a b) (up b a) _ _ (ends_judged _ _ up_judged) refl refl (up_either (read s) a b);
    down_either = ends_outcome (down a b) (down b a) _ _ (ends_judged _ _ down_judged) refl refl (subst (Same (link_down (read s) a b)) (down_either (read s) a b) (same_refl (link_down (read s) a b)));
  }

-- ---- notices

module _ (s : List ℕ) (f : Fine s) (a b : ℕ) (la : a < nodes s) (lb : b < nodes s) (apart : a ≢ b) where
  -- A notice of an end that is up is done; so is link down where one is.
  notice_done : Linked (read s) a b → outcome (notice a b) s [] ≡ done (notice a b) s []
  unfolding refusals judge
  notice_done q = outcome_done (notice a b) s [] (fine_ends s f a b (end_down s a b ∷ []) la lb apart ∙ judge_next (end_down s a b) [] (ap not ((tells_up (read s) a b).if_so q)))

  down_done : Linked (read s) a b → outcome (down a b) s [] ≡ done (down a b) s []
  unfolding refusals judge
  down_done q =
      outcome_done (down a b) s []
      (fine_ends s f a b (is_down s a b ∷ []) la lb apart ∙ judge_next (is_down s a b) [] (ap not ((tells_or (tells_up (read s) a b) (tells_up (read s) b a)).if_so (inl q))))

-- The buffer after a's notice.
module _ (s : List ℕ) (f : Fine s) (a b : ℕ) (la : a < nodes s) (lb : b < nodes s) (apart : a ≢ b) where
  abbrev left : State
  left = ends.notice (read s) a b

  left_sound : Sound left
  unfolding read_as
  left_sound = notice_keeps_sound (read s) a b f.sound.state la

  left_n : left.n ≡ nodes s
  unfolding read_as
  left_n = notice_n (read s) a b

  left_fine : Fine (restored left s)
  left_fine = stored_fine left left_sound (drop (size left.n) s) (omega (arith, left_n, f.least)) (omega (arith, left_n, f.most))

  left_nodes : nodes (restored left s) ≡ nodes s
  left_nodes = nodes_stored left (drop (size left.n) s) ∙ left_n

  left_read : Same (read (restored left s)) left
  left_read = read_stored left_sound (drop (size left.n) s)

  second_up : Linked (read s) b a → Linked (read (restored left s)) b a
  unfolding read_as
  second_up q = left_read.link b a (rw left_nodes lb) (rw left_nodes la) ∙ other_end (read s) a b apart ∙ q

  second_leaves : Linked (read s) b a → outcome (notice b a) (restored left s) [] ≡ changed (ends.notice left b a) [] s []
  unfolding done read_as
  second_leaves q =
      let bytes = restored_same (restored left s) (notice_same left_read b a (rw left_nodes lb)) ∙ restored_twice s left (ends.notice left b a) (notice_n left b a) in
      notice_done (restored left s) left_fine b a (rw left_nodes lb) (rw left_nodes la) (λ i. apart (sym i)) (second_up q)
      ∙ (λ i. record { number = 0; answers = []; bytes = bytes i; output = [] })

-- A node has no link to itself.
ends_differ : (s : List ℕ) → Fine s → (a b : ℕ) → a < nodes s → Sends (read s) a b → a ≢ b
unfolding read_as
ends_differ s f a b la q e = omega (arith, subst (λ (x : ℕ). Linked (read s) a x) (sym e) q.0, f.sound.state.diagonal a la)

pub notices_meet : NoticesMeetAtDown
unfolding done read_as
notices_meet s accepted a b la lb q =
    let f = accepted_fine s accepted in
    let apart = ends_differ s f a b la q in
    let first = notice_done s f a b la lb apart q.0 in
    let down = down_done s f a b la lb apart q.0 in
    record {
      done = ap (λ o. o.number) down;
      first = ap (λ o. o.number) first;
      both = rw (first, down) (second_leaves s f a b la lb apart q.1 ∙ (λ i. record { number = 0; answers = []; bytes = restored_same s (notices_down (read s) a b apart q) i; output = [] }));
      at_once = λ agree. ap (λ o. o.bytes) down ∙ restored_same s (down_01 (read s) a b agree la lb apart q);
    }

pub down_gives_missing : DownGivesMissing
unfolding refusals done
down_gives_missing s out a b q f =
    let apart : a ≢ b = λ e. f (subst (λ (x : ℕ). Linked (read s) b x) (sym e) (subst (λ (x : ℕ). Linked (read s) x b) e q)) in
    ends_outcome s out a b (down a b) (notice a b) (link_down (read s) a b) (ends.notice (read s) a b) (rw ((tells_up (read s) a b).if_so q) refl) refl refl
    (subst (Same (link_down (read s) a b)) (down_one (read s) a b apart q f) (same_refl (link_down (read s) a b)))
