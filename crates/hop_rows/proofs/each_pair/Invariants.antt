use mathlib.Core.Path.{◌≡◌}
use Rattle.std.proofs.Common.{ℕ, Bool}
use Rattle.hop_rule.specs.Words.{every}
use Rattle.hop_rows.specs.Rows.{byte}
use Rattle.hop_rows.proofs.each_pair.Given as goal

-- What is passed is all before place i.
abbrev pub invariant-loop-i : goal.invariant-loop-i
invariant-loop-i g l =
    goal.F-IsAlwaysCallable g l.test
    × ((p : ℕ → ℕ → Bool) → ((x y : ℕ) (r : Bool) → goal.F-post g l.test x y r → r ≡ p x y) → l.ok ≡ every l.i (λ j. p (byte l.a 0 j) (byte l.b 0 j)))
