-- What the call of R-1 answers, as the buyer's numbers: with the trial buffer and the list that it leaves, the answer makes the call's result. Worth is the contract.
use Rattle.std.specs.Prelude.{◌≡◌, List, ℕ, ℤ, Result}
use Rattle.hop_rule.specs.declared.Refused.{Refused}
use Rattle.hop_rule.specs.Refused.{code}
use Rattle.hop_rule.specs.Worth.{Valued, worth}
use Rattle.hop_ask.specs.Answers.{answers}

abbrev pub valued : Result ℕ Refused → List ℕ → List ℤ → Valued
valued a trial list = record { number = code a; answers = answers a; trial = trial; list = list }

abbrev pub Worth : List ℕ → List ℕ → List ℤ → Result ℕ Refused → List ℕ → List ℤ → Type 0
Worth s trial list a trialLeft listLeft = valued a trialLeft listLeft ≡ worth s trial list
