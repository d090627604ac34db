-- 02, R-4, 'One question for hops and direction': what a node has for a destination, both answers of one state. The status record, the calls, R-1, R-3 and the program ask it. Uses State.
use Rattle.std.specs.Prelude.{Bool, ℕ, ltb}
use Rattle.hop_rule.specs.State.{State}

-- How many hops, and the neighbour to send through. For the node itself 0 and itself; with no route n and 255.
pub record Way : Type 0 where
  pub distance : ℕ
  pub downstream : ℕ

abbrev pub route : State → ℕ → ℕ → Way
route s u v = record { distance = s.distance u v; downstream = s.downstream u v }

-- A route is a distance below n.
abbrev pub routed : ℕ → ℕ → Bool
routed n distance = ltb distance n
