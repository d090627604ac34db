-- 01, 'What the contracts have to settle', for every public call: two answers, and two sets of bytes left in the buffers that it may write to, that its contract allows at the same entry are equal.
-- One line for each call; what stands behind `Fixed` is the contract that the call's source cites, at its arguments. A buffer that is lent to be read only has one set of bytes. Proved in proofs/Determined.
use Rattle.std.specs.Prelude.{◌≡◌, ◌≢◌, List, [], ℕ, ℤ, ⊤, Result, Err}
use Rattle.hop_rule.specs.declared.Event.{Event}
use Rattle.hop_rule.specs.declared.Refused.{Refused}
use Rattle.hop_rule.specs.Records.{Reading, read_event}
use Rattle.hop_rule.specs.Calls as call
use Rattle.hop_rule.specs.Calls.{refused, outcome}
use Rattle.hop_rule.specs.Fixed.{Fixed, FixedAnswer}
use Rattle.hop_rule.specs.Worth.{worth}
use Rattle.hop_rule.specs.Why.{why}
use Rattle.hop_records.specs.declared.Numbers.{Numbers}
use Rattle.hop_records.specs.Writing.{Writes, numbers_of, wrote_event}
use Rattle.hop_reader.specs.declared.Step.{Step}
use Rattle.hop_reader.specs.Stepping.{MadeAt, ReadsNext, step_at}
use Rattle.hop_core.specs.Answers.{Told, Passed, Ran}
use Rattle.hop_ask.specs.Answers.{Asked, Directed, Wrote}
use Rattle.hop_worth.specs.Answers.{Worth}
use Rattle.hop_why.specs.Answers.{Why}
use Rattle.hop_c.specs.declared.HopAnswer.{HopAnswer}
use Rattle.hop_c.specs.declared.HopWay.{HopWay}
use Rattle.hop_c.specs.Edge as edge
use Rattle.hop_c.specs.Edge.{size_of, answer, way}

-- The calls of the core, with its own types.
pub record Determined : Type 1 where
  pub make : (s : List ℕ) (n : ℕ) → Fixed (Told (call.make n) s)
  pub check : (s : List ℕ) → FixedAnswer (λ (r : Result ⊤ Refused). Told call.check s r s)
  pub up : (s : List ℕ) (a b : ℕ) → Fixed (Told (call.up a b) s)
  pub down : (s : List ℕ) (a b : ℕ) → Fixed (Told (call.down a b) s)
  pub notice : (s : List ℕ) (a b : ℕ) → Fixed (Told (call.notice a b) s)
  pub deliver : (s : List ℕ) (w u : ℕ) → Fixed (Told (call.deliver w u) s)
  pub pass : (s : List ℕ) → Fixed (Passed s)
  pub run : (s : List ℕ) (k : ℕ) → Fixed (Ran k s)
  pub route : (s : List ℕ) (u v : ℕ) → FixedAnswer (Directed u v s)
  pub queue_length : (s : List ℕ) (w u : ℕ) → FixedAnswer (Asked (call.queue_length w u) s)
  pub total_queued : (s : List ℕ) → FixedAnswer (Asked call.total_queued s)
  pub status : (s out : List ℕ) (u : ℕ) → Fixed (Wrote (call.status u) s out)
  -- of R-1's call, the trial buffer and the list are what is left
  pub worth : (s trial : List ℕ) (list : List ℤ) → Fixed (λ (a : Result ℕ Refused) (left : List ℕ × List ℤ). Worth s trial list a left.0 left.1)
  -- of R-3's, the list
  pub why : (s list : List ℕ) (u v : ℕ) → Fixed (Why u v s list)
  pub write_event : (out : List ℕ) (e : Event) → Fixed (Writes (outcome (call.write_event e) [] out))
  pub write_kind : (out : List ℕ) (kind first second : ℕ) → Fixed (Writes (wrote_event kind first second out))
  pub numbers_of : (e : Event) → FixedAnswer (λ (p : Numbers). p ≡ numbers_of e)
  pub read_event : (s : List ℕ) (p : ℕ) → FixedAnswer (λ (x : Reading). x ≡ read_event s p)
  -- of a reader, what it refers to and its place are what is left
  pub reader_at : {S : Type 0} (src : S) (p : ℕ) → Fixed (MadeAt src p)
  pub read_next : {S : Type 0} (s : List ℕ) (src : S) (p : ℕ) → Fixed (λ (x : Reading) (left : S × ℕ). ReadsNext s src p x left.0 left.1)
  pub read_from : (s : List ℕ) (p : ℕ) → FixedAnswer (λ (x : Step). x ≡ step_at s p)

-- The exports.
pub record DeterminedForC : Type 0 where
  pub hop_make : (s : List ℕ) (n : ℕ) → Fixed (edge.Told (call.make n) s)
  pub hop_check : (s : List ℕ) → FixedAnswer (λ (number : ℕ). edge.Told call.check s number s)
  pub hop_up : (s : List ℕ) (a b : ℕ) → Fixed (edge.Told (call.up a b) s)
  pub hop_down : (s : List ℕ) (a b : ℕ) → Fixed (edge.Told (call.down a b) s)
  pub hop_notice : (s : List ℕ) (a b : ℕ) → Fixed (edge.Told (call.notice a b) s)
  pub hop_deliver : (s : List ℕ) (w u : ℕ) → Fixed (edge.Told (call.deliver w u) s)
  pub hop_size : (n : ℕ) → FixedAnswer (λ (r : ℕ). r ≡ size_of n)
  pub hop_pass : (s : List ℕ) → Fixed (edge.Answered (outcome call.pass s []))
  pub hop_run : (s : List ℕ) (k : ℕ) → Fixed (edge.Ran (outcome (call.run k) s []))
  pub hop_route : (s : List ℕ) (u v : ℕ) → FixedAnswer (λ (a : HopWay). a ≡ way (outcome (call.route u v) s []))
  pub hop_queue_length : (s : List ℕ) (w u : ℕ) → FixedAnswer (λ (a : HopAnswer). a ≡ answer (outcome (call.queue_length w u) s []))
  pub hop_total_queued : (s : List ℕ) → FixedAnswer (λ (a : HopAnswer). a ≡ answer (outcome call.total_queued s []))
  pub hop_status : (s out : List ℕ) (u : ℕ) → Fixed (edge.Wrote (outcome (call.status u) s out))
  pub hop_worth : (s trial : List ℕ) (list : List ℤ) → Fixed (λ (a : HopAnswer) (left : List ℕ × List ℤ). edge.Worth (worth s trial list) a left.0 left.1)
  pub hop_why : (s list : List ℕ) (u v : ℕ) → Fixed (edge.Why (why u v s list))
  pub hop_write_event : (out : List ℕ) (kind first second : ℕ) → Fixed (edge.Wrote (wrote_event kind first second out))
  pub hop_read_event : (s : List ℕ) (p : ℕ) → Fixed (edge.Read s p)

-- And no contract lets a call be refused whose number is 0, which means done: a node's route to itself, an empty queue, a pass at rest are values.
pub record NoneRefusedWith0 : Type 0 where
  pub pass : (s t : List ℕ) (r : Refused) → Passed s (Err r) t → (outcome call.pass s []).number ≢ 0
  pub run : (s t : List ℕ) (k : ℕ) (r : Refused) → Ran k s (Err r) t → (outcome (call.run k) s []).number ≢ 0
  pub route : (s : List ℕ) (u v : ℕ) (r : Refused) → Directed u v s (Err r) → (outcome (call.route u v) s []).number ≢ 0
  pub queue_length : (s : List ℕ) (w u : ℕ) (r : Refused) → Asked (call.queue_length w u) s (Err r) → (outcome (call.queue_length w u) s []).number ≢ 0
  pub total_queued : (s : List ℕ) (r : Refused) → Asked call.total_queued s (Err r) → (outcome call.total_queued s []).number ≢ 0
  pub status : (s out left : List ℕ) (u : ℕ) (r : Refused) → Wrote (call.status u) s out (Err r) left → (outcome (call.status u) s out).number ≢ 0
  pub worth : (s trial x : List ℕ) (list l : List ℤ) (r : Refused) → Worth s trial list (Err r) x l → (worth s trial list).number ≢ 0
  pub why : (s list l : List ℕ) (u v : ℕ) (r : Refused) → Why u v s list (Err r) l → (why u v s list).number ≢ 0
  pub write_event : (out left : List ℕ) (e : Event) (r : Refused) → Writes (outcome (call.write_event e) [] out) (Err r) left → (outcome (call.write_event e) [] out).number ≢ 0
  pub write_kind : (out left : List ℕ) (kind first second : ℕ) (r : Refused) → Writes (wrote_event kind first second out) (Err r) left → (wrote_event kind first second out).number ≢ 0

-- And no outcome of these is 'done' without its answer, as a refusal has none: what a route to itself, an empty queue, a pass at rest give cannot be taken for that of a call that was refused. (Reading is done without one at the plain end.)
pub record NoneDoneWithoutAnswer : Type 0 where
  pub pass : (s t : List ℕ) → refused 0 t [] ≢ outcome call.pass s []
  pub run : (s t : List ℕ) (k : ℕ) → refused 0 t [] ≢ outcome (call.run k) s []
  pub route : (s : List ℕ) (u v : ℕ) → refused 0 s [] ≢ outcome (call.route u v) s []
  pub queue_length : (s : List ℕ) (w u : ℕ) → refused 0 s [] ≢ outcome (call.queue_length w u) s []
  pub total_queued : (s : List ℕ) → refused 0 s [] ≢ outcome call.total_queued s []
  pub status : (s out left : List ℕ) (u : ℕ) → refused 0 s left ≢ outcome (call.status u) s out
  pub worth : (s trial x : List ℕ) (list l : List ℤ) → record { number = 0; answers = []; trial = x; list = l } ≢ worth s trial list
  pub why : (s list l : List ℕ) (u v : ℕ) → record { number = 0; answers = []; list = l } ≢ why u v s list
  pub write_event : (out left : List ℕ) (e : Event) → refused 0 [] left ≢ outcome (call.write_event e) [] out
  pub write_kind : (out left : List ℕ) (kind first second : ℕ) → refused 0 [] left ≢ wrote_event kind first second out
