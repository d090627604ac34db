-- An outcome fixes a question's answer: the number tells the case, and equal lists have equal places. Assumes nothing.
use Rattle.std.specs.Prelude.{Result, Ok}
use mathlib.Core.Path.{◌≡◌, sym, ap, ap₂, ◌∙◌}
use mathlib.Core.List.{List}
use Prim.Native.Nat.{ℕ}
use lib.ListN.{get_or}
use Rattle.hop_rule.specs.declared.Refused.{Refused}
use Rattle.hop_rule.specs.Refused.{code}
use Rattle.hop_rule.specs.Fixed.{Fixed, FixedAnswer}
use Rattle.hop_rule.specs.Calls.{Outcome}
use Rattle.hop_laws.proofs.Refused.{result_fixed}
use Rattle.hop_cells.specs.declared.Way.{Way}
use Rattle.hop_ask.specs.Answers.{answers, asked, route_answers, directed}

-- Its number and its answers tell which it is.
pub told : (a b : Result ℕ Refused) → code a ≡ code b → answers a ≡ answers b → a ≡ b
told a b n l = result_fixed answers a b n l (λ x y h. ap (λ xs. get_or xs 0 0) h)

-- With the output's bytes, where there is one.
pub asked_fixed : (o : Outcome) (s : List ℕ) → Fixed (λ (a : Result ℕ Refused) (out : List ℕ). asked a s out ≡ o)
asked_fixed o s a b out rest p q =
    let same = p ∙ sym q in
    (told a b (ap (λ (x : Outcome). x.number) same) (ap (λ (x : Outcome). x.answers) same), ap (λ (x : Outcome). x.output) same)

pub asked_fixed_answer : (o : Outcome) (s out : List ℕ) → FixedAnswer (λ (a : Result ℕ Refused). asked a s out ≡ o)
asked_fixed_answer o s out a b p q = (asked_fixed o s a b out out p q).0

-- The same of a route's two answers.
pub directed_fixed : (o : Outcome) (s : List ℕ) → FixedAnswer (λ (a : Result Way Refused). directed a s ≡ o)
directed_fixed o s a b p q =
    let same = p ∙ sym q in
    result_fixed route_answers a b (ap (λ (x : Outcome). x.number) same) (ap (λ (x : Outcome). x.answers) same) both
  where
    both : (x y : Way) → route_answers (Ok x) ≡ route_answers (Ok y) → x ≡ y
    both x y l = ap₂ (λ d w. record { distance = d; downstream = w }) (ap (λ xs. get_or xs 0 0) l) (ap (λ xs. get_or xs 1 0) l)
