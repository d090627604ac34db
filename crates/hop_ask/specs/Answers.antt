-- What the questions answer, as document 01's numbers: the number, the other answers, and the outcome that they make with the state's bytes, which stay, and the output's.
-- Asked, Directed and Wrote are the contracts: of a buffer s the answer, and with it the bytes left in the output, make the call's outcome.
use Rattle.std.specs.Prelude.{◌≡◌, List, [], ◌∷◌, ℕ, Result, Ok, Err}
use Rattle.hop_rule.specs.declared.Refused.{Refused}
use Rattle.hop_rule.specs.Refused.{code}
use Rattle.hop_rule.specs.Calls as call
use Rattle.hop_rule.specs.Calls.{Call, Outcome, outcome}
use Rattle.hop_cells.specs.declared.Way.{Way}

-- A value, also where it is 0.
abbrev pub answers : Result ℕ Refused → List ℕ
answers (Ok x) = x ∷ []
answers (Err r) = []

abbrev pub asked : Result ℕ Refused → List ℕ → List ℕ → Outcome
asked a s out = record { number = code a; answers = answers a; bytes = s; output = out }

abbrev pub Asked : Call → List ℕ → Result ℕ Refused → Type 0
Asked c s a = asked a s [] ≡ outcome c s []

abbrev pub Wrote : Call → List ℕ → List ℕ → Result ℕ Refused → List ℕ → Type 0
Wrote c s out a left = asked a s left ≡ outcome c s out

-- A route: its distance, and its downstream.
abbrev pub route_answers : Result Way Refused → List ℕ
route_answers (Ok way) = way.distance ∷ way.downstream ∷ []
route_answers (Err e) = []

abbrev pub directed : Result Way Refused → List ℕ → Outcome
directed a s = record { number = code a; answers = route_answers a; bytes = s; output = [] }

abbrev pub Directed : ℕ → ℕ → List ℕ → Result Way Refused → Type 0
Directed u v s a = directed a s ≡ outcome (call.route u v) s []
