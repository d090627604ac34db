-- The measure of coming to rest: how far a number is right as a distance, also where links have one end up. The proofs count passes by it; and it says what distances are at rest beside such links. Uses Rest and hop_rule's State and Sound.
use Rattle.std.specs.Prelude.{ℕ, zero, suc, ◌≤◌, ◌<◌}
use Rattle.hop_rule.specs.State.{State}
use Rattle.hop_rule.specs.Sound.{Linked, Sends, Sound}
use Rattle.hop_rest.specs.Rest.{AtRest}

-- A trail of d hops from u to v: a walk there, or to a node whose own end of a link is up and the other is not, which trusts what it last heard over it.
pub data Trail (s : State) : ℕ → ℕ → ℕ → Type 0 where
  arrives : {v : ℕ} → Trail s v v zero
  steps : {u w v d : ℕ} → u < s.n → w < s.n → Sends s u w → Trail s w v d → Trail s u v (suc d)
  trusts : {u w v : ℕ} → u < s.n → w < s.n → Linked s u w → (Linked s w u → ⊥) → Trail s u v (suc (s.view u w v))

-- a is right below k as a distance from u to v: if it is below k, a trail has that length; and every trail shorter than k is at least a.
pub record Right (g : State) (k a u v : ℕ) : Type 0 where
  pub trail : a < k → Trail g u v a
  pub least : (e : ℕ) → e < k → Trail g u v e → a ≤ e

-- All views over links with both ends up are right below k.
abbrev pub ViewsRight : State → ℕ → State → Type 0
ViewsRight g k s = (u w v : ℕ) → u < g.n → w < g.n → v < g.n → Sends g w u → Right g k (s.view u w v) w v

-- At rest, whatever links have just one end up: a distance below n is the length of a trail, and no trail is shorter.
abbrev pub EveryRestTrusts : Type 0
EveryRestTrusts = (s : State) → Sound s → AtRest s → (u v : ℕ) → u < s.n → v < s.n → Right s s.n (s.distance u v) u v
