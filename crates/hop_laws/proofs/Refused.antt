-- A refusal's number is not 0, which is 'done', and no two refusals have one number. Assumes nothing.
use Rattle.std.specs.Prelude.{Result, Ok, Err}
use mathlib.Core.Path.{◌≡◌, refl, sym, ap, ◌∙◌}
use mathlib.Core.Logic.{◌≢◌}
use mathlib.Core.List.{List, [], ◌∷◌}
use Prim.Native.Nat.{ℕ, ◌≤◌}
use native.Mathlib.Omega.{arith}
use lib.ListN.{get_or}
use Rattle.hop_rule.specs.declared.Refused.{Refused}
use Rattle.hop_rule.specs.declared.Refused.TheVariants.{BadCount, Short, NotSound, NoNode, OneNode, IsUp, IsDown, NothingWaits, CutShort, UnknownKind, WrongLength, NotAtRest, OneEnded}
use Rattle.hop_rule.specs.Refused.{number, code}

-- The numbers run from 1 to 13, in the order in which the refusals are declared; so a number tells its refusal.
named : ℕ → Refused
named k = get_or (BadCount ∷ BadCount ∷ Short ∷ NotSound ∷ NoNode ∷ OneNode ∷ IsUp ∷ IsDown ∷ NothingWaits ∷ CutShort ∷ UnknownKind ∷ WrongLength ∷ NotAtRest ∷ OneEnded ∷ []) k BadCount

pub number_within : (r : Refused) → (1 ≤ number r) × (number r ≤ 13)
number_within r = elim r as (λ r. (1 ≤ number r) × (number r ≤ 13)) [
  | BadCount ↦ (omega arith, omega arith)
  | Short ↦ (omega arith, omega arith)
  | NotSound ↦ (omega arith, omega arith)
  | NoNode ↦ (omega arith, omega arith)
  | OneNode ↦ (omega arith, omega arith)
  | IsUp ↦ (omega arith, omega arith)
  | IsDown ↦ (omega arith, omega arith)
  | NothingWaits ↦ (omega arith, omega arith)
  | CutShort ↦ (omega arith, omega arith)
  | UnknownKind ↦ (omega arith, omega arith)
  | WrongLength ↦ (omega arith, omega arith)
  | NotAtRest ↦ (omega arith, omega arith)
  | OneEnded ↦ (omega arith, omega arith)
]

pub number_some : (r : Refused) → number r ≢ 0
number_some r z = omega (arith, number_within r)

named_number : (r : Refused) → named (number r) ≡ r
unfolding named
named_number r = elim r as (λ r. named (number r) ≡ r) [
  | BadCount ↦ refl
  | Short ↦ refl
  | NotSound ↦ refl
  | NoNode ↦ refl
  | OneNode ↦ refl
  | IsUp ↦ refl
  | IsDown ↦ refl
  | NothingWaits ↦ refl
  | CutShort ↦ refl
  | UnknownKind ↦ refl
  | WrongLength ↦ refl
  | NotAtRest ↦ refl
  | OneEnded ↦ refl
]

pub number_fixes : (r t : Refused) → number r ≡ number t → r ≡ t
number_fixes r t h = sym (named_number r) ∙ ap named h ∙ named_number t

-- What a call answers is fixed by its number and its other answers, if those of a value fix it.
pub result_fixed : {A : Type 0} (answers : Result A Refused → List ℕ) (a b : Result A Refused) → code a ≡ code b → answers a ≡ answers b → ((x y : A) → answers (Ok x) ≡ answers (Ok y) → x ≡ y) → a ≡ b
result_fixed answers (Ok x) (Ok y) n l h = ap Ok (h x y l)
result_fixed answers (Ok x) (Err r) n l h = absurd (number_some r (sym n))
result_fixed answers (Err r) (Ok x) n l h = absurd (number_some r n)
result_fixed answers (Err r) (Err t) n l h = ap Err (number_fixes r t n)
