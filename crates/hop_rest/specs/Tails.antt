-- Bytes behind the form: no call looks at them and none changes them; and making a state looks at no byte at all. Uses hop_rule's Rule, Stored and Calls.
use Rattle.std.specs.Prelude.{◌≡◌, List, ◌++◌, ℕ, ◌≤◌, length, drop}
use Rattle.hop_rule.specs.Rule.{fresh}
use Rattle.hop_rule.specs.Stored.{size, stored, nodes}
use Rattle.hop_rule.specs.Calls.{Call, make, check, up, down, notice, deliver, pass, run, route, queue_length, total_queued, status, write_event, outcome}

-- How many bytes of the buffer are a call's form: those of the n asked for where a state is made, none where an event is written, and otherwise those of the n that the first byte claims.
unfoldable pub form : Call → List ℕ → ℕ
form (make n) s = size n
form check s = size (nodes s)
form (up a b) s = size (nodes s)
form (down a b) s = size (nodes s)
form (notice a b) s = size (nodes s)
form (deliver w u) s = size (nodes s)
form pass s = size (nodes s)
form (run k) s = size (nodes s)
form (route u v) s = size (nodes s)
form (queue_length w u) s = size (nodes s)
form total_queued s = size (nodes s)
form (status u) s = size (nodes s)
form (write_event e) s = 0

-- A call on f with any bytes r behind it:
pub record TailUnread (c : Call) (f out : List ℕ) : Type 0 where
  -- its number, its answers and its output are those of f alone;
  pub number : (r : List ℕ) → (outcome c (f ++ r) out).number ≡ (outcome c f out).number
  pub answers : (r : List ℕ) → (outcome c (f ++ r) out).answers ≡ (outcome c f out).answers
  pub output : (r : List ℕ) → (outcome c (f ++ r) out).output ≡ (outcome c f out).output
  -- so are the bytes that it leaves, as many as f has, and behind them stands r.
  pub bytes : (r : List ℕ) → (outcome c (f ++ r) out).bytes ≡ (outcome c f out).bytes ++ r
  pub length_kept : length (outcome c f out).bytes ≡ length f

-- Of every call, and every buffer with room for the call's form. So one form has one answer, whatever follows it.
abbrev pub TailsUnread : Type 0
TailsUnread = (c : Call) (f out : List ℕ) → form c f ≤ length f → TailUnread c f out

-- The same of two tails r and t behind one form:
pub record OneAnswer (c : Call) (f r t out : List ℕ) : Type 0 where
  pub number : (outcome c (f ++ r) out).number ≡ (outcome c (f ++ t) out).number
  pub answers : (outcome c (f ++ r) out).answers ≡ (outcome c (f ++ t) out).answers
  pub output : (outcome c (f ++ r) out).output ≡ (outcome c (f ++ t) out).output
  -- one list stands in the place of f, before each its own tail
  pub left : List ℕ
  pub length_left : length left ≡ length f
  pub first : (outcome c (f ++ r) out).bytes ≡ left ++ r
  pub second : (outcome c (f ++ t) out).bytes ≡ left ++ t

abbrev pub TwoTailsOneAnswer : Type 0
TwoTailsOneAnswer = (c : Call) (f r t out : List ℕ) → form c f ≤ length f → OneAnswer c f r t out

-- Making a state of n nodes in a buffer s:
pub record NothingRead (n : ℕ) (s out : List ℕ) : Type 0 where
  -- in any other buffer t of the same length its number, its answers and its output are the same;
  pub number : (t : List ℕ) → length t ≡ length s → (outcome (make n) t out).number ≡ (outcome (make n) s out).number
  pub answers : (t : List ℕ) → length t ≡ length s → (outcome (make n) t out).answers ≡ (outcome (make n) s out).answers
  pub output : (t : List ℕ) → length t ≡ length s → (outcome (make n) t out).output ≡ (outcome (make n) s out).output
  -- and where it is made, the bytes are those of the fresh state, and behind them what stood there.
  pub bytes : (outcome (make n) s out).number ≡ 0 → (outcome (make n) s out).bytes ≡ stored (fresh n) ++ drop (size n) s

abbrev pub MakeReadsNothing : Type 0
MakeReadsNothing = (n : ℕ) (s out : List ℕ) → NothingRead n s out
