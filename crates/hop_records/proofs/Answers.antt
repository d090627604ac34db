-- An outcome fixes what a writer answers: bytes written are not a refusal, whose list of answers is empty, equal lists have equal places, and a number tells its refusal. Assumes nothing.
use mathlib.Core.Path.{◌≡◌, sym, ap, ◌∙◌}
use mathlib.Core.List.{List}
use Prim.Native.Nat.{ℕ}
use native.Mathlib.Omega.{arith}
use lib.ListN.{length, get_or}
use Rattle.std.specs.Prelude.{Result, Ok, Err}
use Rattle.hop_rule.specs.declared.Refused.{Refused}
use Rattle.hop_rule.specs.Refused.{code}
use Rattle.hop_rule.specs.Fixed.{Fixed}
use Rattle.hop_rule.specs.Calls.{Outcome}
use Rattle.hop_laws.proofs.Refused.{number_fixes}
use Rattle.hop_records.specs.Writing.{answers, wrote}

told : (a b : Result ℕ Refused) → code a ≡ code b → answers a ≡ answers b → a ≡ b
told (Ok k) (Ok m) n l = ap Ok (ap (λ xs. get_or xs 0 0) l)
told (Ok k) (Err r) n l = absurd (omega (arith, ap length l))
told (Err r) (Ok k) n l = absurd (omega (arith, ap length l))
told (Err r) (Err t) n l = ap Err (number_fixes r t n)

pub wrote_fixed : (o : Outcome) → Fixed (λ (w : Result ℕ Refused) (out : List ℕ). wrote w out ≡ o)
wrote_fixed o a b out rest p q =
    let same = p ∙ sym q in
    (told a b (ap (λ (x : Outcome). x.number) same) (ap (λ (x : Outcome). x.answers) same), ap (λ (x : Outcome). x.output) same)
