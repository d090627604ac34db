-- What the code of a trial starts from, does to the bytes and answers. Used by the code's own contracts; a buyer needs none of it.
use Rattle.std.specs.Prelude.{◌≡◌, List, ℕ, ◌≤◌, eqb, length, take, if◌then◌else◌}
use Rattle.hop_rule.specs.declared.Table.TheVariants.{Links}
use Rattle.hop_rule.specs.Rule.{total}
use Rattle.hop_rule.specs.Stored.{size, nodes, read}
use Rattle.hop_rule.specs.Worth.{Line}
use Rattle.hop_laws.specs.Fine.{Fine}
use Rattle.hop_cells.specs.Cells.{get2}
use Rattle.hop_steps.specs.Steps.{link_up, link_down}
use Rattle.hop_trial.specs.declared.Found.{Found}

-- s holds a state of n nodes that is sound and at rest, and x begins with a copy of it.
pub record Copied (n : ℕ) (s x : List ℕ) : Type 0 where
  pub claim : n ≡ nodes s
  pub fine : Fine s
  pub rests : total (read s) ≡ 0
  pub room : size n ≤ length x
  pub copy : take (size n) x ≡ take (size n) s

-- The link of a pair is turned.
unfoldable pub turned : ℕ → ℕ → ℕ → List ℕ → List ℕ
turned n a b x = if eqb (get2 n Links a b x) 1 then link_down n a b x else link_up n a b x

-- What a line tells of its pair.
unfoldable pub found : Line → Found
found l = record { passes = l.passes; deliveries = l.deliveries; lost = l.lost; gained = l.gained; change = l.change }
