-- The call's result fixes its answer, the trial buffer and the list. Assumes nothing.
use Rattle.std.specs.Prelude.{Result}
use mathlib.Core.Path.{sym, ap, ap₂, ◌∙◌}
use mathlib.Core.List.{List}
use Prim.Native.Nat.{ℕ}
use lib.IntN.{ℤ}
use Rattle.hop_rule.specs.declared.Refused.{Refused}
use Rattle.hop_rule.specs.Fixed.{Fixed}
use Rattle.hop_rule.specs.Worth.{Valued}
use Rattle.hop_ask.proofs.Answers.{told}
use Rattle.hop_worth.specs.Answers.{Worth}

pub worth_fixed : (s trial : List ℕ) (list : List ℤ) → Fixed (λ (a : Result ℕ Refused) (left : List ℕ × List ℤ). Worth s trial list a left.0 left.1)
worth_fixed s trial list a b l m p q =
    let same = p ∙ sym q in (
      told a b (ap (λ (v : Valued). v.number) same) (ap (λ (v : Valued). v.answers) same),
      ap₂ (λ x y. (x, y)) (ap (λ (v : Valued). v.trial) same) (ap (λ (v : Valued). v.list) same),
    )
