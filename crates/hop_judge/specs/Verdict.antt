-- What is judged of a call, by the number c of the first of its refusals that applies: at 0 it goes on, with a state of n nodes; at any other it is refused with that number.
use Rattle.std.specs.Prelude.{◌≡◌, ℕ, Result, Ok}
use Rattle.hop_rule.specs.declared.Refused.{Refused}
use Rattle.hop_rule.specs.Refused.{code}

pub record Judges (c n : ℕ) (judged : Result ℕ Refused) : Type 0 where
  pub number : code judged ≡ c
  pub count : (m : ℕ) → judged ≡ Ok m → m ≡ n
