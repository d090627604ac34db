-- The call: where it is refused before the list is looked at; where it goes on, that the path stays inside; and that a reason handed over, or refused because the list is short, is the call's result. Assumes nothing.
use Rattle.std.specs.Prelude.{Result, Ok, Err}
use mathlib.Core.Path.{◌≡◌, sym, ap, ◌∙◌}
use mathlib.Core.Logic.{◌≢◌}
use mathlib.Core.List.{List, [], ◌∷◌}
use Prim.Native.Nat.{ℕ, ◌≤◌, ◌<◌}
use native.Mathlib.Decide.{dec_lt}
use native.Mathlib.Omega.{arith}
use lib.ListN.{length}
use lib.Seq.{sets}
use Rattle.hop_rule.specs.declared.Refused.{Refused}
use Rattle.hop_rule.specs.declared.Refused.TheVariants.{Short}
use Rattle.hop_rule.specs.Route.{route}
use Rattle.hop_rule.specs.Stored.{nodes, read_as, read}
use Rattle.hop_rule.specs.Records.{written}
use Rattle.hop_rule.specs.Calls.{Refusal, judge, no_node, not_at_rest, some_one_ended, short}
use Rattle.hop_rule.specs.Why.{along, joined_to, Reason, path, set, reason, kind, shown, before_list, why_refusals, why_done, why}
use Rattle.hop_laws.proofs.Tests.{tells_lt, tells_false, choose_so, choose_else}
use Rattle.hop_laws.proofs.Lists.{sets_written}
use Rattle.hop_laws.proofs.Calls.{judge_applies, judge_next, judge_first, judge_passed}
use Rattle.hop_laws.proofs.Why.{reason_path, reason_set, why_is_done, why_refused}
use Rattle.hop_rest.proofs.WhyCall.{known}
use Rattle.hop_cells.specs.Cells.{Room}
use Rattle.hop_judge.specs.Verdict.{Judges}
use Rattle.hop_judge.proofs.Judging.{gone, stopped}
use Rattle.hop_judge.proofs.Known.{claim_known, ends_ready}
use Rattle.hop_why.specs.declared.Reason.TheVariants as given
use Rattle.hop_why.specs.Answers.{explained}
use Rattle.hop_why.specs.Writing.{Stays, handed}
use Rattle.hop_why.proofs.Paths.{rest_inside}

-- ---- a reason is handed over

module _ (r : Reason) (list : List ℕ) where
  -- The list does not hold it,
  pub handed_short : length list < length (shown r) → explained (Err Short) list ≡ handed r list
  unfolding handed
  handed_short l = sym (choose_so (tells_lt (length list) (length (shown r))) _ _ l)

  -- or it does.
  held : length (shown r) ≤ length list → handed r list ≡ record { number = 0; answers = kind r ∷ length (shown r) ∷ []; list = written (shown r) list }
  unfolding handed
  held l = choose_else (tells_lt (length list) (length (shown r))) _ _ (λ k. omega arith)

pub path_handed : (l list : List ℕ) {left : List ℕ} {k : ℕ} → length l ≤ length list → k ≡ length l → left ≡ sets list 0 l → explained (Ok (given.Path k)) left ≡ handed (path l) list
unfolding kind shown
path_handed l list room count put = rw (count, put, sets_written l list room) (sym (held (path l) list room))

pub set_handed : (l list : List ℕ) {left : List ℕ} {k : ℕ} → length l ≤ length list → k ≡ length l → left ≡ sets list 0 l → explained (Ok (given.Set k)) left ≡ handed (set l) list
unfolding kind shown
set_handed l list room count put = rw (count, put, sets_written l list room) (sym (held (set l) list room))

-- ---- the call

module _ (u v : ℕ) (s : List ℕ) {j : Result ℕ Refused} (e : Judges (judge (before_list u v s)) (nodes s) j) {n : ℕ} (g : j ≡ Ok n) where
  pub ready : Room n s × (u < n) × (v < n)
  ready = ends_ready s u v (not_at_rest s ∷ some_one_ended s ∷ []) e g

  -- The state is sound and at rest and no link has just one end up, so that a path does not leave it.
  pub path_inside : {d : ℕ} → d ≡ (route (read_as n s) u v).distance → d < n → Stays (read_as n s) u v d
  unfolding read_as
  path_inside {d} at l =
      let k = known u v s [] (gone _ _ e g).0 in
      let claim = claim_known s _ e g in
      rw (at, claim) (rest_inside (read s) k.fine.sound.state k.rest k.agree u v k.node k.destination (rw (at, claim) at l))

module _ (u v : ℕ) (s list : List ℕ) {j : Result ℕ Refused} (e : Judges (judge (before_list u v s)) (nodes s) j) where
  abbrev last : List Refusal
  last = short list (length (shown (reason (read s) u v))) ∷ []

  -- A refusal, whose number is judged, leaves the list.
  refuses : {c : ℕ} → judge (why_refusals u v s list) ≡ c → c ≢ 0 → record { number = c; answers = []; list = list } ≡ why u v s list
  refuses all some = ap (λ c. record { number = c; answers = []; list = list }) (sym all) ∙ sym (why_refused u v s list (λ z. some (sym all ∙ z)))

  pub why_stopped : {r : Refused} → j ≡ Err r → explained (Err r) list ≡ why u v s list
  unfolding why_refusals
  why_stopped {r} f =
      let (same, some) = stopped _ _ e f in
      refuses (judge_first (before_list u v s) last some ∙ sym same) (λ z. some (sym same ∙ z))

  module _ {n : ℕ} (g : j ≡ Ok n) where
    -- All that is left to do is to hand over the reason:
    why_handed : handed (reason (read_as n s) u v) list ≡ why u v s list
    unfolding why_refusals why_done judge
    why_handed = rw (claim_known s (no_node s u ∷ no_node s v ∷ not_at_rest s ∷ some_one_ended s ∷ []) e g) (go (dec_lt (length list) (length (shown (reason (read s) u v)))))
      where
        left : judge (why_refusals u v s list) ≡ judge last
        left = judge_passed (before_list u v s) last (omega arith) (gone _ _ e g).0

        go : Dec (length list < length (shown (reason (read s) u v))) → handed (reason (read s) u v) list ≡ why u v s list
        go (yes l) =
            let all : judge (why_refusals u v s list) ≡ 2 = left ∙ judge_applies _ [] ((tells_lt _ _).if_so l) in
            sym (handed_short (reason (read s) u v) list l) ∙ refuses all (λ z. omega arith)
        go (no f) =
            let all : judge (why_refusals u v s list) ≡ 0 = left ∙ judge_next _ [] (tells_false (tells_lt _ _) f) in
            held (reason (read s) u v) list (omega arith) ∙ sym (why_is_done u v s list all)

    -- the path where there is a route, and the set where there is none.
    module _ {d : ℕ} (at : d ≡ (route (read_as n s) u v).distance) where
      pub path_given : d < n → handed (path (along (read_as n s) u v d)) list ≡ why u v s list
      unfolding read_as
      path_given l = ap (λ r. handed r list) (ap (λ k. path (along (read_as n s) u v k)) at ∙ sym (reason_path (read_as n s) u v (omega (arith, at, l)))) ∙ why_handed

      pub set_given : n ≤ d → handed (set (joined_to (read_as n s) u)) list ≡ why u v s list
      unfolding read_as
      set_given l = ap (λ r. handed r list) (sym (reason_set (read_as n s) u v (omega (arith, at, l)))) ∙ why_handed
