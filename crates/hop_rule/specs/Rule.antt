-- 01, 'The rule': Tajibnapis's rule as functions from a state to a state, in 01's order. Uses State, Words and, for what a route is, Route.
use Rattle.std.specs.Prelude.{Bool, not, ◌&&◌, List, [], ◌∷◌, ℕ, zero, suc, min, eqb, length, if◌then◌else◌}
use Rattle.hop_rule.specs.Words.{loop, sum, listed, first}
use Rattle.hop_rule.specs.State.{State, Entry, with_link, with_route, with_view, with_queues, with_queue}
use Rattle.hop_rule.specs.Route.{route, routed}

-- u's own end of the link to w is up, where its byte is exactly 1. By it u looks at its views from w.
abbrev pub up : State → ℕ → ℕ → Bool
up s u w = eqb (s.link u w) 1

-- What w sends to u gets there: both ends of their link are up. By 02, R-5, what an end sends towards one that is down is dropped.
abbrev pub sends : State → ℕ → ℕ → Bool
sends s w u = up s w u && up s u w

-- 'Recompute': the smaller of n and 1 + the least view of v over u's up links to the first k nodes.
unfoldable pub least : State → ℕ → ℕ → ℕ → ℕ
least s u v zero = s.n
least s u v (suc w) = if up s u w then min (suc (s.view u w v)) (least s u v w) else least s u v w

-- The distance. If v = u: 0, always.
unfoldable pub distance_of : State → ℕ → ℕ → ℕ
distance_of s u v = if eqb u v then 0 else least s u v s.n

-- Does w give u the distance d to v?
abbrev pub gives : State → ℕ → ℕ → ℕ → ℕ → Bool
gives s u v d w = up s u w && eqb (suc (s.view u w v)) d

-- The downstream at the distance d. If v = u: u, always. Otherwise the lowest-numbered neighbour that gives this distance, or 255 (none) where the distance is n.
unfoldable pub downstream_of : State → ℕ → ℕ → ℕ → ℕ
downstream_of s u v d = if eqb u v then u else if eqb d s.n then 255 else first s.n (gives s u v d)

-- 'Sending': if v already waits, its value is replaced and it keeps its place; otherwise the entry joins the tail.
unfoldable pub send : Entry → List Entry → List Entry
send e [] = e ∷ []
send e (f ∷ q) = if eqb e.destination f.destination then e ∷ q else f ∷ send e q

-- 'Recompute' of v at u. If the distance changed, the entry (v, new distance) is sent on each up link of u, and dropped where the other end is down; a changed downstream alone sends nothing.
unfoldable pub recompute : State → ℕ → ℕ → State
recompute s u v =
    let d = distance_of s u v in
    let x = downstream_of s u v d in
    let changed = not (eqb d (s.distance u v)) in
    let entry : Entry = record { destination = v; value = d } in
    with_queues (with_route s u v d x) (λ a b. if eqb a u && (sends s u b && changed) then send entry (s.queue a b) else s.queue a b)

-- 'Deliver', its first half: the head entry leaves the queue from w to u, and u's view of its destination from w becomes its value.
unfoldable pub hear : State → ℕ → ℕ → Entry → List Entry → State
hear s w u head rest = with_view (with_queue s w u rest) u w head.destination head.value

-- 'Deliver' from w to u: the head entry is heard, and u recomputes its destination. From an empty queue there is nothing to deliver.
unfoldable pub deliver : State → ℕ → ℕ → State
deliver s w u = elim (s.queue w u) [ [] ↦ s | head ∷ rest ↦ recompute (hear s w u head rest) u head.destination ]

-- 'Link up' a, b: each end puts all n destinations, ascending, with its own distances, into its queue to the other, those of value n too. Views on it stay n. Nothing is recomputed.
abbrev pub up_end : State → ℕ → ℕ → State
up_end s u w = with_queue (with_link s u w 1) u w (listed s.n (λ v. record { destination = v; value = s.distance u v }))

unfoldable pub link_up : State → ℕ → ℕ → State
link_up s a b = up_end (up_end s a b) b a

-- u recomputes every destination, in ascending order. 'Link down' is on the page Notice: by 02, R-5, its ends do not see it at one moment.
unfoldable pub recompute_all : State → ℕ → State
recompute_all s u = loop s.n (λ v t. recompute t u v) s

-- 'Pass': queues in ascending order of sender, then receiver; each gives up as many entries as it held when the pass began.
unfoldable pub pass : State → State
pass s = loop s.n (λ w. loop s.n (λ u. loop (length (s.queue w u)) (λ i t. deliver t w u))) s

-- The entries that wait: in the whole state, for node u, from node u.
unfoldable pub total : State → ℕ
total s = sum s.n (λ w. sum s.n (λ u. length (s.queue w u)))

unfoldable pub waiting_for : State → ℕ → ℕ
waiting_for s u = sum s.n (λ w. length (s.queue w u))

unfoldable pub waiting_from : State → ℕ → ℕ
waiting_from s u = sum s.n (λ x. length (s.queue u x))

-- At rest: no entry waits.
abbrev pub at_rest : State → Bool
at_rest s = eqb (total s) 0

-- Destinations other than u itself that u has a route to.
unfoldable pub reached : State → ℕ → ℕ
reached s u = sum s.n (λ v. if not (eqb v u) && routed s.n (route s u v).distance then 1 else 0)

-- 'Run': k passes; how many of an allowance k are made, the least number that empties every queue, or k if that is smaller; and what they deliver, the sum of what was queued at the start of each.
unfoldable pub passes : State → ℕ → State
passes s k = loop k (λ i. pass) s

unfoldable pub made : State → ℕ → ℕ
made s k = first k (λ j. eqb (total (passes s j)) 0)

unfoldable pub delivered : State → ℕ → ℕ
delivered s k = sum k (λ j. total (passes s j))

-- 'Fresh': no links, distance n and downstream 255 off the diagonal.
unfoldable pub fresh : ℕ → State
fresh n = record {
  n = n;
  link = λ u w. 0;
  distance = λ u v. if eqb u v then 0 else n;
  downstream = λ u v. if eqb u v then u else 255;
  view = λ u w v. n;
  queue = λ w u. [];
}
