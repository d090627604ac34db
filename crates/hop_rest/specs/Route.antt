-- Why forwarding may believe R-4's answer at any moment: of every buffer that check accepts, at rest or not, the two numbers are of one state and fit each other; at rest they are right; and a refusal gives neither. Uses Accepted, OnBytes and hop_rule's Route, Notice and Calls.
use Rattle.std.specs.Prelude.{◌≡◌, ◌↔◌, ◌≢◌, List, [], ℕ, suc, ◌≤◌, ◌<◌}
use Rattle.hop_rule.specs.State.{State}
use Rattle.hop_rule.specs.Route as question
use Rattle.hop_rule.specs.Sound.{Linked}
use Rattle.hop_rule.specs.Notice.{EndsAgree}
use Rattle.hop_rule.specs.Stored.{nodes, read}
use Rattle.hop_rule.specs.Calls.{route, total_queued, outcome}
use Rattle.hop_rest.specs.Accepted.{Accepted}
use Rattle.hop_rest.specs.OnBytes.{asked, asked_route, SettledBytes}

-- u sends to x for v: x is another node, u's end of their link is up, and x has said that it is one hop nearer than u.
pub record Onward (s : State) (u v x : ℕ) : Type 0 where
  pub below : x < s.n
  pub other : x ≢ u
  pub linked : Linked s u x
  pub said : suc (s.view u x v) ≡ s.distance u v

-- Asked about two nodes of the buffer s,
pub record RouteTells (s : List ℕ) (u v : ℕ) : Type 0 where
  -- it is done, and both answers are what the state has;
  pub done : (outcome (route u v) s []).number ≡ 0
  pub both : asked_route u v s ≡ question.route (read s) u v
  -- for the node itself they are 0 and itself, and 0 for no other;
  pub own : u ≡ v → asked_route u v s ≡ record { distance = 0; downstream = u }
  pub some : u ≢ v → 0 < (asked_route u v s).distance
  -- with no route n and 255, and neither without the other;
  pub most : (asked_route u v s).distance ≤ nodes s
  pub none : ((asked_route u v s).distance ≡ nodes s) ↔ ((asked_route u v s).downstream ≡ 255)
  -- and otherwise the downstream is a neighbour that leads on, the lowest-numbered that does.
  pub next : u ≢ v → (asked_route u v s).distance < nodes s → Onward (read s) u v (asked_route u v s).downstream
  pub lowest : u ≢ v → (asked_route u v s).distance < nodes s → (x : ℕ) → Onward (read s) u v x → (asked_route u v s).downstream ≤ x

abbrev pub EveryRouteTells : Type 0
EveryRouteTells = (s : List ℕ) → Accepted s → (u v : ℕ) → u < nodes s → v < nodes s → RouteTells s u v

-- Where nothing is queued and no link has just one end up, every route is right over the links of that very buffer, whoever brought it to rest.
abbrev pub RestingRoutesRight : Type 0
RestingRoutesRight = (s : List ℕ) → Accepted s → asked total_queued s ≡ 0 → EndsAgree (read s) → SettledBytes s s

-- Refused, whatever the bytes and the arguments: 0 and 0, and not n and 255.
abbrev pub RefusedRouteIs0 : Type 0
RefusedRouteIs0 = (s : List ℕ) (u v : ℕ) → (outcome (route u v) s []).number ≢ 0 → asked_route u v s ≡ record { distance = 0; downstream = 0 }
