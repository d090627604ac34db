use Rattle.std.proofs.Common.{◌≡◌, ℕ, Bool}
use Rattle.hop_rule.specs.Words.{every}
use Rattle.hop_rows.specs.Rows.{byte}
use Rattle.hop_rows.proofs.each.Given as goal

abbrev pub invariant-loop-x : goal.invariant-loop-x
invariant-loop-x g l = (p : ℕ → Bool) → ((x : ℕ) (r : Bool) → goal.F-post g l.test x r → r ≡ p x) → l.ok ≡ every l.x-index (λ i. p (byte l.row 0 i))
