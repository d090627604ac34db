-- How a loop of the code meets a word of the definitions at its end; and a turn of a sum. Assumes nothing.
use mathlib.Core.Path.{◌≡◌, ap, ◌∙◌}
use Prim.Native.Nat.{ℕ, ◌+◌, ◌≤◌}
use native.Mathlib.Numerals.{add-one}
use native.Mathlib.Omega.{arith}
use Rattle.hop_rule.specs.Words.{loop, sum}
use Rattle.hop_laws.proofs.Words.{sum_more}

pub loop_end : {A : Type 0} (k n : ℕ) (f : ℕ → A → A) (a : A) {b : A} → b ≡ loop k f a → k ≤ n → n ≤ k → b ≡ loop n f a
loop_end k n f a e h l = let z : k ≡ n = omega arith in e ∙ ap (λ (x : ℕ). loop x f a) z

pub sum_turn : (k : ℕ) (f : ℕ → ℕ) {b d : ℕ} → b ≡ sum k f → d ≡ f k → b + d ≡ sum (k + 1) f
sum_turn k f e h = rw (add-one k, sum_more k f, ← e, ← h)
