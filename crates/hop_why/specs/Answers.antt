-- What the call of R-3 answers, as the buyer's numbers: with the list that it leaves, the answer makes the call's result. Why is the contract.
use Rattle.std.specs.Prelude.{◌≡◌, List, [], ◌∷◌, ℕ, Result, Ok, Err}
use Rattle.hop_rule.specs.declared.Refused.{Refused}
use Rattle.hop_rule.specs.Refused.{code}
use Rattle.hop_rule.specs.Why.{Explained, why}
use Rattle.hop_why.specs.declared.Reason.{Reason}
use Rattle.hop_why.specs.declared.Reason.TheVariants.{Path, Set}

-- Which reason it is, and how many bytes.
abbrev pub answers : Result Reason Refused → List ℕ
answers (Ok (Path k)) = 1 ∷ k ∷ []
answers (Ok (Set k)) = 2 ∷ k ∷ []
answers (Err r) = []

abbrev pub explained : Result Reason Refused → List ℕ → Explained
explained a list = record { number = code a; answers = answers a; list = list }

abbrev pub Why : ℕ → ℕ → List ℕ → List ℕ → Result Reason Refused → List ℕ → Type 0
Why u v s list a left = explained a left ≡ why u v s list
