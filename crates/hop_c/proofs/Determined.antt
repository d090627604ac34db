-- Each line of specs/Determined: the law for the call's type of answer, at its outcome. Assumes nothing.
use Rattle.std.specs.Prelude.{if◌then◌else◌}
use mathlib.Core.Path.{◌≡◌, refl, sym, ap, ap₂, ◌∙◌}
use mathlib.Core.Logic.{◌≢◌}
use mathlib.Core.Bool.{Bool, true, false}
use mathlib.Core.List.{List, []}
use Prim.Native.Nat.{ℕ, ◌<◌}
use native.Mathlib.Omega.{arith}
use lib.ListN.{length}
use Rattle.hop_rule.specs.Fixed.{Fixed, FixedAnswer}
use Rattle.hop_rule.specs.declared.Event.{Event}
use Rattle.hop_rule.specs.Records.{place_after, known, event_of}
use Rattle.hop_rule.specs.Calls as call
use Rattle.hop_rule.specs.Calls.{Call, Outcome, refused, done, outcome}
use Rattle.hop_rule.specs.Worth.{Valued, worth_done}
use Rattle.hop_rule.specs.Why.{Explained, why_done}
use Rattle.hop_laws.proofs.Calls.{done_answers}
use Rattle.hop_laws.proofs.Refused.{number_some}
use Rattle.hop_laws.proofs.Why.{why_is_done, why_number}
use Rattle.hop_laws.proofs.Worth.{worth_is_done, worth_number}
use Rattle.hop_records.specs.Writing.{wrote_event}
use Rattle.hop_records.proofs.Answers.{wrote_fixed}
use Rattle.hop_core.proofs.Answers.{told_fixed, told_fixed_answer, passed_fixed, ran_fixed}
use Rattle.hop_ask.proofs.Answers.{asked_fixed, asked_fixed_answer, directed_fixed}
use Rattle.hop_worth.proofs.Answers.{worth_fixed}
use Rattle.hop_why.proofs.Answers.{why_fixed}
use Rattle.hop_c.specs.Determined.{Determined, DeterminedForC, NoneRefusedWith0, NoneDoneWithoutAnswer}

-- A contract that says what the answer is, and one that says so of the answer and of what is left.
is_fixed : {R : Type 0} (x : R) → FixedAnswer (λ (r : R). r ≡ x)
is_fixed x r s p q = p ∙ sym q

both_fixed : {R L : Type 0} (x : R) (y : L) → Fixed (λ (r : R) (l : L). (r ≡ x) × (l ≡ y))
both_fixed x y r s l m p q = (p.0 ∙ sym q.0, p.1 ∙ sym q.1)

-- And one that says it by the outcome that the number and the bytes left make.
number_fixed : (o : Outcome) → Fixed (λ (c : ℕ) (t : List ℕ). record { number = c; answers = []; bytes = t; output = [] } ≡ o)
number_fixed o c d s t p q = let same = p ∙ sym q in (ap (λ (x : Outcome). x.number) same, ap (λ (x : Outcome). x.bytes) same)

pub determined : Determined
determined = record {
  make = λ s n. told_fixed _;
  check = λ s. told_fixed_answer _ _;
  up = λ s a b. told_fixed _;
  down = λ s a b. told_fixed _;
  notice = λ s a b. told_fixed _;
  deliver = λ s w u. told_fixed _;
  pass = λ s. passed_fixed _;
  run = λ s k. ran_fixed _;
  route = λ s u v. directed_fixed _ _;
  queue_length = λ s w u. asked_fixed_answer _ _ _;
  total_queued = λ s. asked_fixed_answer _ _ _;
  status = λ s out u. asked_fixed _ _;
  worth = worth_fixed;
  why = λ s list u v. why_fixed u v s list;
  write_event = λ out e. wrote_fixed _;
  write_kind = λ out kind first second. wrote_fixed _;
  numbers_of = λ e. is_fixed _;
  read_event = λ s p. is_fixed _;
  reader_at = λ src p. both_fixed _ _;
  read_next = λ s src p x y l m h k.
      let same = h.0 ∙ sym k.0 in
      (same, ap₂ (λ kept place. (kept, place)) (h.1 ∙ sym k.1) (h.2 ∙ ap (λ r. place_after r p) same ∙ sym k.2));
  read_from = λ s p. is_fixed _;
}

pub determined_for_c : DeterminedForC
determined_for_c = record {
  hop_make = λ s n. number_fixed _;
  hop_check = λ s c d p q. (number_fixed _ c d s s p q).0;
  hop_up = λ s a b. number_fixed _;
  hop_down = λ s a b. number_fixed _;
  hop_notice = λ s a b. number_fixed _;
  hop_deliver = λ s w u. number_fixed _;
  hop_size = λ n. is_fixed _;
  hop_pass = λ s. both_fixed _ _;
  hop_run = λ s k. both_fixed _ _;
  hop_route = λ s u v. is_fixed _;
  hop_queue_length = λ s w u. is_fixed _;
  hop_total_queued = λ s. is_fixed _;
  hop_status = λ s out u. both_fixed _ _;
  hop_worth = λ s trial list a b l m p q. (p.0 ∙ sym q.0, ap₂ (λ x y. (x, y)) (p.1 ∙ sym q.1) (p.2 ∙ sym q.2));
  hop_why = λ s list u v. both_fixed _ _;
  hop_write_event = λ out kind first second. both_fixed _ _;
  hop_read_event = λ s p. both_fixed _ _;
}

-- The number of what was refused is the refusal's, and none is 0.
pub none_refused_with_0 : NoneRefusedWith0
none_refused_with_0 = record {
  pass = λ s t r h z. number_some r (ap (λ (o : Outcome). o.number) h ∙ z);
  run = λ s t k r h z. number_some r (ap (λ (o : Outcome). o.number) h ∙ z);
  route = λ s u v r h z. number_some r (ap (λ (o : Outcome). o.number) h ∙ z);
  queue_length = λ s w u r h z. number_some r (ap (λ (o : Outcome). o.number) h ∙ z);
  total_queued = λ s r h z. number_some r (ap (λ (o : Outcome). o.number) h ∙ z);
  status = λ s out left u r h z. number_some r (ap (λ (o : Outcome). o.number) h ∙ z);
  worth = λ s trial x list l r h z. number_some r (ap (λ (v : Valued). v.number) h ∙ z);
  why = λ s list l u v r h z. number_some r (ap (λ (e : Explained). e.number) h ∙ z);
  write_event = λ out left e r h z. number_some r (ap (λ (o : Outcome). o.number) h ∙ z);
  write_kind = λ out left kind first second r h z. number_some r (ap (λ (o : Outcome). o.number) h ∙ z);
}

-- An outcome with the number 0 and no answer is not that of a call that has one when it is done.
has_answer : (c : Call) (s out : List ℕ) {o : Outcome} → 0 < length (done c s out).answers → o.number ≡ 0 → length o.answers ≡ 0 → o ≢ outcome c s out
has_answer c s out some z none e =
    let answers = ap (λ (p : Outcome). p.answers) e ∙ done_answers c s out (sym (ap (λ (p : Outcome). p.number) e) ∙ z) in
    omega (arith, ap length answers)

-- An event in plain numbers is written, or its kind is refused with 10.
kind_has_answer : (out left : List ℕ) (b : Bool) (e : Event) → refused 0 [] left ≢ (if b then outcome (call.write_event e) [] out else refused 10 [] out)
unfolding done
kind_has_answer out left true e = has_answer (call.write_event e) [] out (omega arith) refl refl
kind_has_answer out left false e = λ h. omega (arith, ap (λ (o : Outcome). o.number) h)

pub none_done_without_answer : NoneDoneWithoutAnswer
unfolding done worth_done why_done wrote_event
none_done_without_answer = record {
  pass = λ s t. has_answer _ s [] (omega arith) refl refl;
  run = λ s t k. has_answer (call.run k) s [] (omega arith) refl refl;
  route = λ s u v. has_answer (call.route u v) s [] (omega arith) refl refl;
  queue_length = λ s w u. has_answer (call.queue_length w u) s [] (omega arith) refl refl;
  total_queued = λ s. has_answer call.total_queued s [] (omega arith) refl refl;
  status = λ s out left u. has_answer (call.status u) s out (omega arith) refl refl;
  worth = λ s trial x list l e.
      let z = sym (worth_number s trial list) ∙ sym (ap (λ (v : Valued). v.number) e) in
      omega (arith, ap (λ (v : Valued). length v.answers) (e ∙ worth_is_done s trial list z));
  why = λ s list l u v e.
      let z = sym (why_number u v s list) ∙ sym (ap (λ (x : Explained). x.number) e) in
      omega (arith, ap (λ (x : Explained). length x.answers) (e ∙ why_is_done u v s list z));
  write_event = λ out left e. has_answer (call.write_event e) [] out (omega arith) refl refl;
  write_kind = λ out left kind first second. kind_has_answer out left (known kind) (event_of kind first second);
}
