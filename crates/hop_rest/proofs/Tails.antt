-- What stands behind the form is not looked at: the form and the whole buffer are read as states that are the same below n, and the rule does not tell these apart. Assumes nothing.
use mathlib.Core.Path.{◌≡◌, refl, sym, ap, ◌∙◌}
use mathlib.Core.List.{List, [], ◌∷◌, ◌++◌, append_assoc}
use Prim.Native.Nat.{ℕ, ◌≤◌, ◌<◌}
use native.Mathlib.Decide.{ℕ_discrete}
use native.Mathlib.Omega.{arith}
use lib.Dec.{ltb}
use lib.ListN.{length, drop, length-append, length-drop}
use lib.Seq.{drop-append-le}
use borrow.Author.Tests.{leb-false, ne_eqb, le-ltb}
use Rattle.hop_rule.specs.declared.Event.{Event}
use Rattle.hop_rule.specs.State.{State}
use Rattle.hop_rule.specs.Rule as rule
use Rattle.hop_rule.specs.Notice as ends
use Rattle.hop_rule.specs.Stored.{size, stored, nodes, read_as, read}
use Rattle.hop_rule.specs.Sound.{SoundBytes}
use Rattle.hop_rule.specs.Records.{status_record}
use Rattle.hop_rule.specs.Calls.{Call, make, check, up, down, notice, deliver, pass, run, route, queue_length, total_queued, status, write_event, Refusal, judge, bad_count, no_node, one_node, is_up, still_up, is_down, end_down, not_sending, nothing_waits, on_state, refusals, Outcome, refused, answered, changed, done, outcome}
use Rattle.hop_laws.specs.Same.{Same}
use Rattle.hop_laws.specs.Fine.{Fine}
use Rattle.hop_laws.proofs.Stored.{length_stored}
use Rattle.hop_laws.proofs.Same.{same_refl, stored_same}
use Rattle.hop_laws.proofs.Tails.{some, nodes_same, test_same, read_same}
use Rattle.hop_laws.proofs.Calls.{judge_rest, judge_none, outcome_done, outcome_refused, state_fine, state_refused, state_passed}
use Rattle.hop_rest.specs.Tails.{form, TailsUnread, NothingRead}
use Rattle.hop_rest.proofs.Frame.{deliver_n}
use Rattle.hop_rest.proofs.Kept.{notice_n, down_n, pass_keeps_sound, passes_keeps_sound}
use Rattle.hop_rest.proofs.Same.{deliver_same, up_same, notice_same, down_same, pass_same, passes_same, total_same, waiting_for_same, waiting_from_same, reached_same, made_same, delivered_same}

-- ---- refusals

module _ (f r : List ℕ) (room : size (nodes f) ≤ length f) where
  -- The state's own refusals are the same; where none applies the others decide.
  own_same : on_state (f ++ r) [] ≡ on_state f []
  own_same =
      let some = some f r room in
      let longer : length f ≤ length (f ++ r) = omega (arith, length-append f r) in
      rw (
        ne_eqb (length (f ++ r)) 0 (λ z. omega arith),
        ne_eqb (length f) 0 (λ z. omega arith),
        test_same f r room,
        nodes_same f r room,
        le-ltb (length (f ++ r)) (size (nodes f)) (omega arith),
        le-ltb (length f) (size (nodes f)) room,
      )

  pub state_judged : (more less : List Refusal) → (Fine f → judge more ≡ judge less) → judge (on_state (f ++ r) more) ≡ judge (on_state f less)
  state_judged more less h = go (ℕ_discrete (judge (on_state f [])) 0)
    where
      own : judge (on_state (f ++ r) []) ≡ judge (on_state f [])
      own = ap judge own_same

      go : Dec (judge (on_state f []) ≡ 0) → judge (on_state (f ++ r) more) ≡ judge (on_state f less)
      go (yes z) = state_passed (f ++ r) more (own ∙ z) ∙ h (state_fine f [] z).0 ∙ sym (state_passed f less z)
      go (no k) = state_refused (f ++ r) more (λ z. k (sym own ∙ z)) ∙ own ∙ sym (state_refused f less k)

  -- Arguments are compared only where both are nodes.
  pub nodes_judged : (a b : ℕ) (more less : List Refusal) → (a < nodes f → b < nodes f → judge more ≡ judge less)
      → judge (no_node (f ++ r) a ∷ no_node (f ++ r) b ∷ more) ≡ judge (no_node f a ∷ no_node f b ∷ less)
  nodes_judged a b more less h =
      rw (nodes_same f r room) (judge_rest (no_node f a) _ _ (λ x. judge_rest (no_node f b) more less (λ y. h (leb-false (nodes f) a x) (leb-false (nodes f) b y))))

nodes_inside : (f : List ℕ) (a b : ℕ) (more : List Refusal) → judge (no_node f a ∷ no_node f b ∷ more) ≡ 0 → (a < nodes f) × (b < nodes f)
nodes_inside f a b more z =
    let (x, z₁) = judge_none (no_node f a) _ (omega arith) z in
    let (y, z₂) = judge_none (no_node f b) more (omega arith) z₁ in
    (leb-false (nodes f) a x, leb-false (nodes f) b y)

-- ---- what a call gives of f, and of f with r behind it

-- An outcome with r behind its bytes.
abbrev followed : Outcome → List ℕ → Outcome
followed o r = record { number = o.number; answers = o.answers; bytes = o.bytes ++ r; output = o.output }

-- What is to be shown of a call that is done: it does the same, and leaves as many bytes.
abbrev Does : Call → List ℕ → List ℕ → List ℕ → Type 0
Does c f r out = (done c (f ++ r) out ≡ followed (done c f out) r) × (length (done c f out).bytes ≡ length f)

record Alike (c : Call) (f r out : List ℕ) : Type 0 where
  judged : judge (refusals c (f ++ r) out) ≡ judge (refusals c f out)
  does : judge (refusals c f out) ≡ 0 → Does c f r out

alike_outcome : (c : Call) (f r out : List ℕ) → Alike c f r out → (outcome c (f ++ r) out ≡ followed (outcome c f out) r) × (length (outcome c f out).bytes ≡ length f)
alike_outcome c f r out h = go (ℕ_discrete (judge (refusals c f out)) 0)
  where
    go : Dec (judge (refusals c f out) ≡ 0) → (outcome c (f ++ r) out ≡ followed (outcome c f out) r) × (length (outcome c f out).bytes ≡ length f)
    go (yes z) =
        let e = outcome_done c f out z in (
          outcome_done c (f ++ r) out (h.judged ∙ z) ∙ (h.does z).0 ∙ ap (λ (o : Outcome). followed o r) (sym e),
          ap (λ (o : Outcome). length o.bytes) e ∙ (h.does z).1,
        )
    go (no k) =
        let e = outcome_refused c f out k in (
          outcome_refused c (f ++ r) out (λ z. k (sym h.judged ∙ z)) ∙ ap (λ j. refused j (f ++ r) out) h.judged ∙ ap (λ (o : Outcome). followed o r) (sym e),
          ap (λ (o : Outcome). length o.bytes) e,
        )

-- A new state is stored over the old, in both.
changed_alike : (f r out : List ℕ) (t t' : State) {xs xs' : List ℕ} → size t.n ≤ length f → Same t t' → xs ≡ xs'
    → (changed t' xs' (f ++ r) out ≡ followed (changed t xs f out) r) × (length (changed t xs f out).bytes ≡ length f)
changed_alike f r out t t' room e x =
    let bytes : stored t' ++ drop (size t'.n) (f ++ r) ≡ (stored t ++ drop (size t.n) f) ++ r =
    ap (λ z. z ++ drop (size t'.n) (f ++ r)) (sym (stored_same e))
    ∙ ap (λ m. stored t ++ drop (size m) (f ++ r)) (sym e.n)
    ∙ ap (λ z. stored t ++ z) (drop-append-le (size t.n) f r room)
    ∙ sym (append_assoc (stored t) (drop (size t.n) f) r) in (
      λ i. record { number = 0; answers = sym x i; bytes = bytes i; output = out },
      omega (arith, length-append (stored t) (drop (size t.n) f), length_stored t, length-drop (size t.n) f),
    )

-- ---- every call

make_alike : (n : ℕ) (f r out : List ℕ) → size n ≤ length f → Alike (make n) f r out
unfolding refusals done rule.fresh
make_alike n f r out room = record {
  judged = rw (le-ltb (length (f ++ r)) (size n) (omega (arith, length-append f r)), le-ltb (length f) (size n) room);
  does = λ z. changed_alike f r out (rule.fresh n) (rule.fresh n) room (same_refl (rule.fresh n)) refl;
}

write_alike : (e : Event) (f r out : List ℕ) → Alike (write_event e) f r out
unfolding refusals done
write_alike e f r out = record { judged = refl; does = λ z. (refl, refl) }

module _ (f r out : List ℕ) (room : size (nodes f) ≤ length f) where
  -- The refusals of a call on a state, and what it does where none applies.
  state_alike : (c : Call) (more less : List Refusal) → refusals c (f ++ r) out ≡ on_state (f ++ r) more → refusals c f out ≡ on_state f less
      → (SoundBytes f → judge more ≡ judge less)
      → (SoundBytes f → judge less ≡ 0 → Does c f r out)
      → Alike c f r out
  state_alike c more less e i j d = record {
    judged = ap judge e ∙ state_judged f r room more less (λ h. j h.sound) ∙ sym (ap judge i);
    does = λ z. let h = state_fine f less (sym (ap judge i) ∙ z) in d h.0.sound h.1;
  }

  -- A state of as many nodes has room.
  fits : {m : ℕ} → m ≡ nodes f → size m ≤ length f
  fits e = rw e room

  link_same : SoundBytes f → (a b : ℕ) → a < nodes f → b < nodes f → (read (f ++ r)).link a b ≡ (read f).link a b
  unfolding read_as
  link_same h a b la lb = sym ((read_same f r room h).link a b la lb)

  up_alike : (a b : ℕ) → Alike (up a b) f r out
  unfolding refusals done read_as rule.link_up
  up_alike a b = state_alike (up a b) _ _ refl refl
      (λ h. nodes_judged f r room a b (one_node a b ∷ is_up (f ++ r) a b ∷ still_up (f ++ r) a b ∷ []) (one_node a b ∷ is_up f a b ∷ still_up f a b ∷ []) (λ la lb. rw (link_same h a b la lb, link_same h b a lb la)))
      (λ h z. changed_alike f r out (rule.link_up (read f) a b) (rule.link_up (read (f ++ r)) a b) room (up_same (read_same f r room h) a b) refl)

  down_alike : (a b : ℕ) → Alike (down a b) f r out
  unfolding refusals done read_as
  down_alike a b = state_alike (down a b) _ _ refl refl
      (λ h. nodes_judged f r room a b (one_node a b ∷ is_down (f ++ r) a b ∷ []) (one_node a b ∷ is_down f a b ∷ []) (λ la lb. rw (link_same h a b la lb, link_same h b a lb la)))
      (λ h z.
      let l = nodes_inside f a b _ z in
      changed_alike f r out (ends.link_down (read f) a b) (ends.link_down (read (f ++ r)) a b) (fits (down_n (read f) a b)) (down_same (read_same f r room h) a b l.0 l.1) refl)

  notice_alike : (a b : ℕ) → Alike (notice a b) f r out
  unfolding refusals done read_as
  notice_alike a b = state_alike (notice a b) _ _ refl refl
      (λ h. nodes_judged f r room a b (one_node a b ∷ end_down (f ++ r) a b ∷ []) (one_node a b ∷ end_down f a b ∷ []) (λ la lb. rw (link_same h a b la lb)))
      (λ h z.
      let l = nodes_inside f a b _ z in
      changed_alike f r out (ends.notice (read f) a b) (ends.notice (read (f ++ r)) a b) (fits (notice_n (read f) a b)) (notice_same (read_same f r room h) a b l.0) refl)

  deliver_alike : (w u : ℕ) → Alike (deliver w u) f r out
  unfolding refusals done read_as
  deliver_alike w u = state_alike (deliver w u) _ _ refl refl
      (λ h. nodes_judged f r room w u (one_node w u ∷ not_sending (f ++ r) w u ∷ nothing_waits (f ++ r) w u ∷ []) (one_node w u ∷ not_sending f w u ∷ nothing_waits f w u ∷ [])
      (λ lw lu. rw (link_same h w u lw lu, link_same h u w lu lw, queue_length_same h w u lw lu)))
      (λ h z.
      let l = nodes_inside f w u _ z in
      changed_alike f r out (rule.deliver (read f) w u) (rule.deliver (read (f ++ r)) w u) (fits (deliver_n (read f) w u)) (deliver_same w u h.state l.0 l.1 (read_same f r room h)) refl)
    where
      queue_length_same : SoundBytes f → (w u : ℕ) → w < nodes f → u < nodes f → length ((read (f ++ r)).queue w u) ≡ length ((read f).queue w u)
      queue_length_same h w u lw lu = ap length (sym ((read_same f r room h).queue w u lw lu))

  pass_alike : Alike pass f r out
  unfolding refusals done read_as
  pass_alike = state_alike pass [] [] refl refl (λ h. refl) (λ h z.
      let e = read_same f r room h in
      changed_alike f r out (rule.pass (read f)) (rule.pass (read (f ++ r))) (fits (pass_keeps_sound (read f) h.state).1) (pass_same h.state e) (ap (λ x. x ∷ []) (total_same e)))

  run_alike : (k : ℕ) → Alike (run k) f r out
  unfolding refusals done read_as
  run_alike k = state_alike (run k) [] [] refl refl (λ h. refl) (λ h z.
      let e = read_same f r room h in
      let m = rule.made (read f) k in
      let same : rule.made (read (f ++ r)) k ≡ m = sym (made_same h.state e k) in
      rw same (changed_alike f r out (rule.passes (read f) m) (rule.passes (read (f ++ r)) m) (fits (passes_keeps_sound (read f) m h.state).1) (passes_same h.state e m)
      (ap (λ x. m ∷ x ∷ []) (delivered_same h.state e m))))

  -- A question about two nodes, answered from the state.
  asked_alike : (c : Call) (a b : ℕ) (more : List Refusal) (answers : State → List ℕ) → refusals c (f ++ r) out ≡ on_state (f ++ r) (no_node (f ++ r) a ∷ no_node (f ++ r) b ∷ more) → refusals c f out ≡ on_state f (no_node f a ∷ no_node f b ∷ more)
      → ((s : List ℕ) → done c s out ≡ answered (answers (read s)) s out)
      → ((s t : State) → Same s t → a < s.n → b < s.n → answers s ≡ answers t)
      → Alike c f r out
  unfolding read_as
  asked_alike c a b more answers e i d same = state_alike c _ _ e i (λ h. nodes_judged f r room a b more more (λ la lb. refl)) (λ h z.
      let l = nodes_inside f a b more z in (
        d (f ++ r) ∙ ap (λ xs. answered xs (f ++ r) out) (sym (same _ _ (read_same f r room h) l.0 l.1)) ∙ ap (λ (o : Outcome). followed o r) (sym (d f)),
        ap (λ (o : Outcome). length o.bytes) (d f),
      ))

  status_alike : (u : ℕ) → Alike (status u) f r out
  unfolding refusals done read_as status_record
  status_alike u = state_alike (status u) _ _ refl refl (λ h. rw (nodes_same f r room)) (λ h z.
      let e = read_same f r room h in
      let l = leb-false (nodes f) u (judge_none (no_node f u) _ (omega arith) z).0 in
      (rw (waiting_for_same e u l, waiting_from_same e u l, reached_same e u l, total_same e), refl))

  check_alike : Alike check f r out
  unfolding refusals done
  check_alike = state_alike check [] [] refl refl (λ h. refl) (λ h z. (refl, refl))

  total_alike : Alike total_queued f r out
  unfolding refusals done
  total_alike = state_alike total_queued [] [] refl refl (λ h. refl) (λ h z. (ap (λ x. answered (x ∷ []) (f ++ r) out) (sym (total_same (read_same f r room h))), refl))

alike : (c : Call) (f r out : List ℕ) → form c f ≤ length f → Alike c f r out
unfolding form refusals done
alike (make n) f r out room = make_alike n f r out room
alike check f r out room = check_alike f r out room
alike (up a b) f r out room = up_alike f r out room a b
alike (down a b) f r out room = down_alike f r out room a b
alike (notice a b) f r out room = notice_alike f r out room a b
alike (deliver w u) f r out room = deliver_alike f r out room w u
alike pass f r out room = pass_alike f r out room
alike (run k) f r out room = run_alike f r out room k
alike (route u v) f r out room = asked_alike f r out room (route u v) u v [] (λ s. s.distance u v ∷ s.downstream u v ∷ []) refl refl (λ s. refl) (λ s t e lu lv. rw (e.distance u v lu lv, e.downstream u v lu lv))
alike (queue_length w u) f r out room = asked_alike f r out room (queue_length w u) w u (one_node w u ∷ []) (λ s. length (s.queue w u) ∷ []) refl refl (λ s. refl) (λ s t e lw lu. rw (e.queue w u lw lu))
alike total_queued f r out room = total_alike f r out room
alike (status u) f r out room = status_alike f r out room u
alike (write_event e) f r out room = write_alike e f r out

pub tails_unread : TailsUnread
tails_unread c f out room = record {
  number = λ r. ap (λ (o : Outcome). o.number) (said r);
  answers = λ r. ap (λ (o : Outcome). o.answers) (said r);
  output = λ r. ap (λ (o : Outcome). o.output) (said r);
  bytes = λ r. ap (λ (o : Outcome). o.bytes) (said r);
  length_kept = (alike_outcome c f [] out (alike c f [] out room)).1;
}
  where
    said : (r : List ℕ) → outcome c (f ++ r) out ≡ followed (outcome c f out) r
    said r = (alike_outcome c f r out (alike c f r out room)).0

-- ---- making a state

-- What it gives: there are no answers, and its output stays.
record Makes (n : ℕ) (s out : List ℕ) : Type 0 where
  number : (outcome (make n) s out).number ≡ judge (refusals (make n) s out)
  answers : (outcome (make n) s out).answers ≡ []
  output : (outcome (make n) s out).output ≡ out
  bytes : (outcome (make n) s out).number ≡ 0 → (outcome (make n) s out).bytes ≡ stored (rule.fresh n) ++ drop (size n) s

makes : (n : ℕ) (s out : List ℕ) → Makes n s out
unfolding done rule.fresh
makes n s out = go (ℕ_discrete (judge (refusals (make n) s out)) 0)
  where
    go : Dec (judge (refusals (make n) s out) ≡ 0) → Makes n s out
    go (yes z) =
        let e = outcome_done (make n) s out z in
        record {
          number = ap (λ (o : Outcome). o.number) e ∙ sym z;
          answers = ap (λ (o : Outcome). o.answers) e;
          output = ap (λ (o : Outcome). o.output) e;
          bytes = λ y. ap (λ (o : Outcome). o.bytes) e;
        }
    go (no k) =
        let e = outcome_refused (make n) s out k in
        let number = ap (λ (o : Outcome). o.number) e in
        record { number = number; answers = ap (λ (o : Outcome). o.answers) e; output = ap (λ (o : Outcome). o.output) e; bytes = λ y. absurd (k (sym number ∙ y)) }

-- Its refusals look at the buffer's length alone.
pub nothing_read : (n : ℕ) (s out : List ℕ) → NothingRead n s out
unfolding refusals
nothing_read n s out = record {
  number = λ t e. (makes n t out).number ∙ ap (λ m. judge (bad_count n ∷ record { number = 2; applies = ltb m (size n) } ∷ [])) e ∙ sym (makes n s out).number;
  answers = λ t e. (makes n t out).answers ∙ sym (makes n s out).answers;
  output = λ t e. (makes n t out).output ∙ sym (makes n s out).output;
  bytes = (makes n s out).bytes;
}
