-- Coming to rest, said of bytes and of the public calls alone: what a run, and what single deliveries in any order, leave of a buffer that check accepts; and right routes, where no link has just one end up. Uses Walks, Orders and hop_rule's Notice and Calls.
use Rattle.std.specs.Prelude.{◌≡◌, ◌↔◌, ℕ, suc, ◌*◌, ◌-◌, ◌≤◌, ◌<◌, length}
use mathlib.Core.List.{List, [], ◌∷◌, flatten}
use Rattle.hop_rule.specs.Stored.{nodes, read}
use Rattle.hop_rule.specs.Route.{Way}
use Rattle.hop_rule.specs.Notice.{EndsAgree}
use Rattle.hop_rule.specs.Calls.{Call, check, deliver, run, route, queue_length, total_queued, Outcome, answer_at, restored, outcome}
use Rattle.hop_rest.specs.Walks.{Walk, HopCount, Nearer}
use Rattle.hop_rest.specs.Orders.{Queue, deliveries, count, Pass, deliveries_in}

-- What a call answers of a buffer, 0 where it is refused.
abbrev pub asked : Call → List ℕ → ℕ
asked c s = answer_at 0 (outcome c s [])

-- What asking for a route answers, both numbers of it; 0 and 0 where it is refused.
abbrev pub asked_route : ℕ → ℕ → List ℕ → Way
asked_route u v s = let o = outcome (route u v) s [] in record { distance = answer_at 0 o; downstream = answer_at 1 o }

-- The buffer t is that of s come to rest: check accepts it, it has as many nodes, and nothing is queued there.
pub record RestedBytes (s t : List ℕ) : Type 0 where
  pub accepted : (outcome check t []).number ≡ 0
  pub same_nodes : nodes t ≡ nodes s
  pub nothing_queued : asked total_queued t ≡ 0

-- It has settled over the links of s:
pub record SettledBytes (s t : List ℕ) : Type 0 where
  pub rested : RestedBytes s t
  -- of each route asked for the distance is the hop count,
  pub distances : (u v : ℕ) → u < nodes s → v < nodes s → HopCount (read s) u v (asked_route u v t).distance
  -- and the downstream the node itself for itself, 255 without a path, and otherwise the lowest-numbered neighbour one hop nearer.
  pub own : (u : ℕ) → u < nodes s → (asked_route u u t).downstream ≡ u
  pub none : (u v : ℕ) → u < nodes s → v < nodes s → ((d : ℕ) → Walk (read s) u v d → ⊥) → (asked_route u v t).downstream ≡ 255
  pub next : (u v d : ℕ) → u < nodes s → v < nodes s → suc d < nodes s → HopCount (read s) u v (suc d) → Nearer (read s) u v d (asked_route u v t).downstream

-- ---- a run

-- A run with allowance k brings the buffer s to rest:
pub record RunSettles (s : List ℕ) (k : ℕ) : Type 0 where
  -- it answers 0, with at most n passes and n³(n − 1) deliveries,
  pub done : (outcome (run k) s []).number ≡ 0
  pub passes_most : answer_at 0 (outcome (run k) s []) ≤ nodes s
  pub deliveries_most : answer_at 1 (outcome (run k) s []) ≤ nodes s * nodes s * nodes s * (nodes s - 1)
  -- what it leaves is at rest, and has settled if no link has just one end up.
  pub rested : RestedBytes s (outcome (run k) s []).bytes
  pub settled : EndsAgree (read s) → SettledBytes s (outcome (run k) s []).bytes

-- ---- single deliveries

-- The call of deliver for a queue, the buffer after such calls one after another, and that none of them is refused.
abbrev pub delivery : List ℕ → Queue → Outcome
delivery s q = outcome (deliver q.sender q.receiver) s []

unfoldable pub delivering : List ℕ → List Queue → List ℕ
delivering s [] = s
delivering s (q ∷ qs) = delivering (delivery s q).bytes qs

abbrev pub NoneRefused : List ℕ → List Queue → Type 0
NoneRefused s [] = Unit {0}
NoneRefused s (q ∷ qs) = ((delivery s q).number ≡ 0) × NoneRefused (delivery s q).bytes qs

-- A pass in any order: each queue is named as often as its length is answered when the pass begins. For a node that is not there, or a node with itself, that question is refused and answers 0, so a pass names neither.
abbrev pub PassBytes : List ℕ → List Queue → Type 0
PassBytes s qs = (w u : ℕ) → count w u qs ≡ asked (queue_length w u) s

-- Passes one after another.
abbrev pub PassesBytes : List ℕ → List (List Queue) → Type 0
PassesBytes s [] = Unit {0}
PassesBytes s (p ∷ ps) = PassBytes s p × PassesBytes (delivering s p) ps

-- Single deliveries bring the buffer s to rest:
pub record DeliveriesSettle (s : List ℕ) : Type 0 where
  -- its passes are those of the state that it holds;
  pub passes : (qs : List Queue) → PassBytes s qs ↔ Pass (read s) qs
  -- no delivery of passes one after another is refused, and they are at most n³(n − 1);
  pub none_refused : (ps : List (List Queue)) → PassesBytes s ps → NoneRefused s (flatten ps)
  pub deliveries_most : (ps : List (List Queue)) → PassesBytes s ps → deliveries_in ps ≤ nodes s * nodes s * nodes s * (nodes s - 1)
  -- after n passes it is at rest, and has settled if no link has just one end up;
  pub rests : (ps : List (List Queue)) → PassesBytes s ps → nodes s ≤ length ps → RestedBytes s (delivering s (flatten ps))
  pub settles : EndsAgree (read s) → (ps : List (List Queue)) → PassesBytes s ps → nodes s ≤ length ps → SettledBytes s (delivering s (flatten ps))
  -- deliveries that are not refused, of passes or not, leave the rule's state after them, and the bytes behind it as they were;
  pub left : (qs : List Queue) → NoneRefused s qs → delivering s qs ≡ restored (deliveries (read s) qs) s
  -- and at every moment, whatever was called, check accepts the buffer and at most n²(n − 1) entries wait.
  pub accepted : (qs : List Queue) → (outcome check (delivering s qs) []).number ≡ 0
  pub waiting_most : (qs : List Queue) → asked total_queued (delivering s qs) ≤ nodes s * nodes s * (nodes s - 1)

-- ---- the claims, of every buffer that check accepts

abbrev pub EveryRunSettles : Type 0
EveryRunSettles = (s : List ℕ) (k : ℕ) → (outcome check s []).number ≡ 0 → nodes s ≤ k → RunSettles s k

abbrev pub EveryDeliverySettles : Type 0
EveryDeliverySettles = (s : List ℕ) → (outcome check s []).number ≡ 0 → DeliveriesSettle s
