-- R-3's call on bytes. Where none of its refusals but the last applies the state is sound and at rest and no link has just one end up, so that its reason explains and fits n bytes; and a reason does not tell apart what is the same below n, so no byte behind the form is looked at. Assumes nothing.
use mathlib.Core.Path.{◌≡◌, refl, sym, ap, ◌∙◌}
use mathlib.Core.Logic.{◌⊎◌, inl, inr}
use mathlib.Core.Bool.{not, false}
use mathlib.Core.List.{List, [], ◌∷◌, ◌++◌}
use Prim.Native.Nat.{ℕ, ◌≤◌, ◌<◌}
use native.Mathlib.Decide.{ℕ_discrete, dec_lt}
use native.Mathlib.Omega.{arith}
use lib.Dec.{ltb}
use lib.ListN.{length, drop}
use lib.Seq.{take-append_seam}
use borrow.Author.Tests.{leb-false, le-ltb, not-false}
use Rattle.hop_rule.specs.Words.{those}
use Rattle.hop_rule.specs.State.{State}
use Rattle.hop_rule.specs.Sound.{Sound}
use Rattle.hop_rule.specs.Stored.{size, nodes, read_as, read}
use Rattle.hop_rule.specs.Records.{written}
use Rattle.hop_rule.specs.Notice.{EndsAgree, ends_agree}
use Rattle.hop_rule.specs.Calls.{Refusal, judge, no_node, not_at_rest, some_one_ended, short}
use Rattle.hop_rule.specs.Route.{routed}
use Rattle.hop_rule.specs.Why.{along, joined_to, Reason, path, set, reason, kind, shown, before_list, why_refusals, Explained, why_done, why}
use Rattle.hop_laws.specs.Same.{Same}
use Rattle.hop_laws.specs.Fine.{Fine}
use Rattle.hop_laws.proofs.Tests.{tells_same, tells_as, tells_lt, choose_else}
use Rattle.hop_laws.proofs.Words.{those_same}
use Rattle.hop_laws.proofs.Tails.{read_same}
use Rattle.hop_laws.proofs.Calls.{judge_next, judge_none, judge_rest, judge_first, judge_passed, state_fine}
use Rattle.hop_laws.proofs.Notice.{agree_tells}
use Rattle.hop_laws.proofs.Why.{why_is_done, why_refused, why_number}
use Rattle.hop_rest.specs.Rest.{AtRest}
use Rattle.hop_rest.specs.Why.{IsPath, IsSet, Shows, Explains, Given, EveryWhyTells, ListOfNFits}
use Rattle.hop_rest.proofs.Settling.{judged_rest}
use Rattle.hop_rest.proofs.Same.{total_same}
use Rattle.hop_rest.proofs.Tails.{state_judged, nodes_judged}
use Rattle.hop_rest.proofs.Why.{along_route, reasons_show}

-- ---- what is known where no refusal before the last applies

pub record Known (u v : ℕ) (s : List ℕ) : Type 0 where
  pub fine : Fine s
  pub rest : AtRest (read s)
  pub agree : EndsAgree (read s)
  pub node : u < nodes s
  pub destination : v < nodes s

judged_agree : (s : State) → not (ends_agree s) ≡ false → EndsAgree s
judged_agree s none = (agree_tells s).shows (not-false _ none)

module _ (u v : ℕ) (s : List ℕ) where
  pub known : (more : List Refusal) → judge (before_list u v s ++ more) ≡ 0 → Known u v s
  known more z =
      let (fine, z₁) = state_fine s _ z in
      let (first, z₂) = judge_none (no_node s u) _ (omega arith) z₁ in
      let (second, z₃) = judge_none (no_node s v) _ (omega arith) z₂ in
      let (none, z₄) = judge_none (not_at_rest s) _ (omega arith) z₃ in
      let (both, z₅) = judge_none (some_one_ended s) more (omega arith) z₄ in
      record { fine = fine; rest = judged_rest (read s) none; agree = judged_agree (read s) both; node = leb-false (nodes s) u first; destination = leb-false (nodes s) v second }

  explained : Known u v s → Explains (read s) u v
  unfolding read_as
  explained k = reasons_show (read s) k.fine.sound.state k.rest k.agree u v k.node k.destination

-- ---- where it is done

-- The first bytes of the list, as many as the reason has, are the reason.
given : (u v : ℕ) (s : State) (list : List ℕ) (r : Reason) → Shows s u v r
    → let e : Explained = record { number = 0; answers = kind r ∷ length (shown r) ∷ []; list = written (shown r) list } in Given e 1 (IsPath s u v) ⊎ Given e 2 (IsSet s u v)
unfolding kind shown written
given u v s list (path l) h = inl (length l, refl, ap length (take-append_seam l _), rw (take-append_seam l (drop (length l) list)) h)
given u v s list (set l) h = inr (length l, refl, ap length (take-append_seam l _), rw (take-append_seam l (drop (length l) list)) h)

pub why_tells : EveryWhyTells
unfolding why_refusals why_done
why_tells u v s list done =
    let z : judge (why_refusals u v s list) ≡ 0 = sym (why_number u v s list) ∙ done in
    let k = known u v s _ z in
    let x = explained u v s k in
    record { ends_agree = k.agree; explains = x; given = rw (why_is_done u v s list z) (given u v (read s) list (reason (read s) u v) x.shows) }

pub list_of_n_fits : ListOfNFits
unfolding why_refusals judge read_as
list_of_n_fits u v s list room = why_number u v s list ∙ go (ℕ_discrete (judge (before_list u v s)) 0)
  where
    last : List Refusal
    last = short list (length (shown (reason (read s) u v))) ∷ []

    go : Dec (judge (before_list u v s) ≡ 0) → judge (before_list u v s ++ last) ≡ judge (before_list u v s)
    go (yes z) =
        let enough : length (shown (reason (read s) u v)) ≤ length list = omega (arith, (explained u v s (known u v s [] z)).most, room) in
        judge_passed (before_list u v s) last (omega arith) z ∙ judge_next (short list _) [] (le-ltb _ _ enough) ∙ sym z
    go (no f) = judge_first (before_list u v s) last f

-- ---- reasons of states that are the same below n

agree_same : {s t : State} → Same s t → ends_agree s ≡ ends_agree t
agree_same {s} {t} e = tells_same (agree_tells s) (tells_as there back (agree_tells t))
  where
    there : EndsAgree t → EndsAgree s
    there h a b la lb = e.link a b la lb ∙ h a b (omega (arith, e.n)) (omega (arith, e.n)) ∙ sym (e.link b a lb la)

    back : EndsAgree s → EndsAgree t
    back h a b la lb =
        let ka : a < s.n = omega (arith, e.n) in
        let kb : b < s.n = omega (arith, e.n) in
        sym (e.link a b ka kb) ∙ h a b ka kb ∙ e.link b a kb ka

module _ {s t : State} (o : Sound s) (rest : AtRest s) (agree : EndsAgree s) (e : Same s t) (u v : ℕ) (lu : u < s.n) (lv : v < s.n) where
  along_same : s.distance u v < s.n → along s u v (s.distance u v) ≡ along t u v (s.distance u v)
  unfolding along
  along_same l = along_route s o rest agree v lv (λ x d. along s x v d ≡ along t x v d) refl (λ x d lx lw q f h. ap (λ m. x ∷ m) (h ∙ ap (λ w. along t w v d) (e.downstream x v lx lv))) _ u lu l refl

  joined_to_same : joined_to s u ≡ joined_to t u
  unfolding joined_to
  joined_to_same =
      those_same s.n _ _ (λ x lx. ap (λ (d : ℕ). ltb d s.n) (e.distance u x lu lx))
      ∙ ap (λ m. those m (λ x. routed m (t.distance u x))) e.n

  reason_same : reason s u v ≡ reason t u v
  unfolding reason
  reason_same = go (dec_lt (s.distance u v) s.n)
    where
      go : Dec (s.distance u v < s.n) → reason s u v ≡ reason t u v
      go (yes l) = rw (along_same l, joined_to_same, e.distance u v lu lv, e.n)
      go (no f) =
          choose_else (tells_lt (s.distance u v) s.n) _ _ f
          ∙ ap set joined_to_same
          ∙ sym (choose_else (tells_lt (t.distance u v) t.n) _ _ (λ l. f (omega (arith, e.distance u v lu lv, e.n))))

-- ---- bytes behind the form

module _ (u v : ℕ) (f r list : List ℕ) (room : size (nodes f) ≤ length f) where
  same : Known u v f → reason (read (f ++ r)) u v ≡ reason (read f) u v
  unfolding read_as
  same k = sym (reason_same k.fine.sound.state k.rest k.agree (read_same f r room k.fine.sound) u v k.node k.destination)

  judged : judge (why_refusals u v (f ++ r) list) ≡ judge (why_refusals u v f list)
  unfolding why_refusals
  judged = state_judged f r room _ _ (λ h. nodes_judged f r room u v _ _ (λ lu lv.
      let e = read_same f r room h.sound in
      rw (← total_same e, ← agree_same e)
      (judge_rest (not_at_rest f) _ _ (λ none. judge_rest (some_one_ended f) _ _ (λ both.
      rw (same (record { fine = h; rest = judged_rest (read f) none; agree = judged_agree (read f) both; node = lu; destination = lv })))))))

  does : Known u v f → why_done u v (f ++ r) list ≡ why_done u v f list
  unfolding why_done
  does k = rw (same k)

  pub why_tail_unread : why u v (f ++ r) list ≡ why u v f list
  unfolding why_refusals
  why_tail_unread = go (ℕ_discrete (judge (why_refusals u v f list)) 0)
    where
      go : Dec (judge (why_refusals u v f list) ≡ 0) → why u v (f ++ r) list ≡ why u v f list
      go (yes z) = why_is_done u v (f ++ r) list (judged ∙ z) ∙ does (known u v f _ z) ∙ sym (why_is_done u v f list z)
      go (no k) =
          why_refused u v (f ++ r) list (λ z. k (sym judged ∙ z))
          ∙ ap (λ j. record { number = j; answers = []; list = list }) judged
          ∙ sym (why_refused u v f list k)
