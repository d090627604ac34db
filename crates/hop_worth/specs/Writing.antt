-- What the code writes to the list of R-1. Used by the code's own contracts; a buyer needs none of it.
use Rattle.std.specs.Prelude.{List, [], ◌∷◌, ℕ, ◌≤◌, ◌<◌, ℤ, pos, nat_abs, if◌then◌else◌}
use Rattle.hop_rule.specs.State.{State}
use Rattle.hop_rule.specs.Worth.{Line, line, tried}
use Rattle.hop_trial.specs.declared.Found.{Found}

-- The line of the pair a, b, if it is tried.
abbrev pub line_of : State → ℕ → ℕ → List Line
line_of s a b = if tried s a b then line s a b ∷ [] else []

-- What a trial found fits signed numbers of 32 bits.
pub record Small (f : Found) : Type 0 where
  pub passes : f.passes < 2147483648
  pub deliveries : f.deliveries < 2147483648
  pub lost : f.lost < 2147483648
  pub gained : f.gained < 2147483648
  pub change : nat_abs f.change ≤ 64000

-- The seven numbers of the pair a, b.
abbrev pub seven_of : ℕ → ℕ → Found → List ℤ
seven_of a b f = pos a ∷ pos b ∷ pos f.passes ∷ pos f.deliveries ∷ pos f.lost ∷ pos f.gained ∷ f.change ∷ []
