-- The call's result fixes its answer and the list. Assumes nothing.
use Rattle.std.specs.Prelude.{Ok}
use mathlib.Core.Path.{◌≡◌, sym, ap, ◌∙◌}
use mathlib.Core.List.{List}
use Prim.Native.Nat.{ℕ}
use native.Mathlib.Omega.{arith}
use lib.ListN.{get_or}
use Rattle.hop_rule.specs.Fixed.{Fixed}
use Rattle.hop_rule.specs.Why.{Explained}
use Rattle.hop_laws.proofs.Refused.{result_fixed}
use Rattle.hop_why.specs.declared.Reason.{Reason}
use Rattle.hop_why.specs.declared.Reason.TheVariants.{Path, Set}
use Rattle.hop_why.specs.Answers.{answers, Why}

-- What is told of a reason is told of one.
one_reason : (a b : Reason) → answers (Ok a) ≡ answers (Ok b) → a ≡ b
one_reason (Path j) (Path k) e = ap (λ l. Path (get_or l 1 0)) e
one_reason (Set j) (Set k) e = ap (λ l. Set (get_or l 1 0)) e
one_reason (Path j) (Set k) e = absurd (omega (arith, ap (λ l. get_or l 0 0) e))
one_reason (Set j) (Path k) e = absurd (omega (arith, ap (λ l. get_or l 0 0) e))

pub why_fixed : (u v : ℕ) (s list : List ℕ) → Fixed (Why u v s list)
why_fixed u v s list a b l m p q =
    let same = p ∙ sym q in
    (result_fixed answers a b (ap (λ (e : Explained). e.number) same) (ap (λ (e : Explained). e.answers) same) one_reason, ap (λ (e : Explained). e.list) same)
