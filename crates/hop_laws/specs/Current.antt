-- A pair of node and destination is current: its distance and its downstream are what recompute gives. May be used by every law about states.
use Rattle.std.specs.Prelude.{◌≡◌, ℕ}
use Rattle.hop_rule.specs.State.{State}
use Rattle.hop_rule.specs.Rule.{distance_of}
use Rattle.hop_rule.specs.Sound.{Leads}

-- What u holds for v is what recompute gives.
pub record Current (s : State) (u v : ℕ) : Type 0 where
  pub distance : s.distance u v ≡ distance_of s u v
  pub downstream : Leads s u v
