-- A buffer that check accepts stays accepted, whatever is called; and a state that is made is accepted. Uses hop_rule's Calls.
use Rattle.std.specs.Prelude.{◌≡◌, List, [], ℕ}
use Rattle.hop_rule.specs.Calls.{Call, make, check, outcome}

-- Check accepts a buffer.
abbrev pub Accepted : List ℕ → Type 0
Accepted s = (outcome check s []).number ≡ 0

-- Every call, with all arguments and any output, done or refused: what it leaves of an accepted buffer is accepted.
abbrev pub AcceptedStays : Type 0
AcceptedStays = (c : Call) (s out : List ℕ) → Accepted s → Accepted (outcome c s out).bytes

-- Making a state, where it is not refused, whatever stood in the buffer: what it leaves is accepted.
abbrev pub MadeAccepted : Type 0
MadeAccepted = (n : ℕ) (s out : List ℕ) → (outcome (make n) s out).number ≡ 0 → Accepted (outcome (make n) s out).bytes
