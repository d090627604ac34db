-- What the events answer, as document 01's numbers: its number, its other answers, and the outcome that they make with the bytes that the call leaves.
-- Told, Passed and Ran are the contracts: on a buffer s, the answer and the bytes t that the call leaves make its outcome.
use Rattle.std.specs.Prelude.{◌≡◌, List, [], ◌∷◌, ℕ, ⊤, Result, Ok, Err}
use Rattle.hop_rule.specs.declared.Refused.{Refused}
use Rattle.hop_rule.specs.Refused.{code}
use Rattle.hop_rule.specs.Calls as call
use Rattle.hop_rule.specs.Calls.{Call, Outcome, outcome}
use Rattle.hop_runs.specs.declared.Ran as did

-- make, check, up, down, notice and deliver answer their number only.
abbrev pub told : Result ⊤ Refused → List ℕ → Outcome
told r s = record { number = code r; answers = []; bytes = s; output = [] }

abbrev pub Told : Call → List ℕ → Result ⊤ Refused → List ℕ → Type 0
Told c s r t = told r t ≡ outcome c s []

-- A pass: the entries delivered.
abbrev pub pass_answers : Result ℕ Refused → List ℕ
pass_answers (Ok d) = d ∷ []
pass_answers (Err r) = []

abbrev pub passed : Result ℕ Refused → List ℕ → Outcome
passed a s = record { number = code a; answers = pass_answers a; bytes = s; output = [] }

abbrev pub Passed : List ℕ → Result ℕ Refused → List ℕ → Type 0
Passed s a t = passed a t ≡ outcome call.pass s []

-- A run: the passes made, and the entries delivered.
abbrev pub run_answers : Result did.Ran Refused → List ℕ
run_answers (Ok r) = r.passes ∷ r.deliveries ∷ []
run_answers (Err r) = []

abbrev pub ran : Result did.Ran Refused → List ℕ → Outcome
ran a s = record { number = code a; answers = run_answers a; bytes = s; output = [] }

abbrev pub Ran : ℕ → List ℕ → Result did.Ran Refused → List ℕ → Type 0
Ran allowance s a t = ran a t ≡ outcome (call.run allowance) s []
