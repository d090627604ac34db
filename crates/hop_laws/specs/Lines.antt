-- R-1's lines as they come one behind the other, and the pairs that have one, counted in the same order. May be used by every law about them, and by the contracts of the code that writes them.
use Rattle.std.specs.Prelude.{List, [], ◌∷◌, ℕ, if◌then◌else◌}
use Rattle.hop_rule.specs.Words.{sum, joined}
use Rattle.hop_rule.specs.State.{State}
use Rattle.hop_rule.specs.Worth.{Line, line, tried}

-- The lines of a with the nodes below k.
abbrev pub lines_of : State → ℕ → ℕ → List Line
lines_of s a k = joined k (λ b. if tried s a b then line s a b ∷ [] else [])

-- Those of the nodes below k with all nodes.
abbrev pub lines_below : State → ℕ → List Line
lines_below s k = joined k (λ a. lines_of s a s.n)

-- How many pairs a, b are tried with b below k.
abbrev pub tried_of : State → ℕ → ℕ → ℕ
tried_of s a k = sum k (λ b. if tried s a b then 1 else 0)

-- How many are with a below k.
abbrev pub tried_below : State → ℕ → ℕ
tried_below s k = sum k (λ a. tried_of s a s.n)
