-- An outcome fixes the events' answers: the number tells the case, and equal lists have equal places. Assumes nothing.
use Rattle.std.specs.Prelude.{⊤, Result, Ok}
use mathlib.Core.Path.{◌≡◌, refl, sym, ap, ap₂, ◌∙◌}
use mathlib.Core.List.{List, []}
use Prim.Native.Nat.{ℕ}
use lib.ListN.{get_or}
use Rattle.hop_rule.specs.declared.Refused.{Refused}
use Rattle.hop_rule.specs.Fixed.{Fixed, FixedAnswer}
use Rattle.hop_rule.specs.Calls.{Outcome}
use Rattle.hop_runs.specs.declared.Ran.{Ran}
use Rattle.hop_laws.proofs.Refused.{result_fixed}
use Rattle.hop_core.specs.Answers.{told, pass_answers, passed, run_answers, ran}

pub told_fixed : (o : Outcome) → Fixed (λ (r : Result ⊤ Refused) (t : List ℕ). told r t ≡ o)
told_fixed o a b s t p q =
    let same = p ∙ sym q in
    (result_fixed (λ r. []) a b (ap (λ (x : Outcome). x.number) same) refl (λ x y l. refl), ap (λ (x : Outcome). x.bytes) same)

-- Of a call that leaves every byte.
pub told_fixed_answer : (o : Outcome) (s : List ℕ) → FixedAnswer (λ (r : Result ⊤ Refused). told r s ≡ o)
told_fixed_answer o s a b p q = (told_fixed o a b s s p q).0

pub passed_fixed : (o : Outcome) → Fixed (λ (a : Result ℕ Refused) (t : List ℕ). passed a t ≡ o)
passed_fixed o a b s t p q =
    let same = p ∙ sym q in
    (result_fixed pass_answers a b (ap (λ (x : Outcome). x.number) same) (ap (λ (x : Outcome). x.answers) same) (λ x y l. ap (λ xs. get_or xs 0 0) l), ap (λ (x : Outcome). x.bytes) same)

pub ran_fixed : (o : Outcome) → Fixed (λ (a : Result Ran Refused) (t : List ℕ). ran a t ≡ o)
ran_fixed o a b s t p q =
    let same = p ∙ sym q in
    (result_fixed run_answers a b (ap (λ (x : Outcome). x.number) same) (ap (λ (x : Outcome). x.answers) same) both, ap (λ (x : Outcome). x.bytes) same)
  where
    both : (x y : Ran) → run_answers (Ok x) ≡ run_answers (Ok y) → x ≡ y
    both x y l = ap₂ (λ m k. record { passes = m; deliveries = k }) (ap (λ xs. get_or xs 0 0) l) (ap (λ xs. get_or xs 1 0) l)
