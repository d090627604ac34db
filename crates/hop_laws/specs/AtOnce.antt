-- 01's link down, as it was before R-5: both ends see it at one moment, and a node sends by its own end alone. What two notices come to is said by it, and nothing computes by it. Uses hop_rule's Words, State and Rule.
use Rattle.std.specs.Prelude.{not, ◌&&◌, [], ℕ, eqb, if◌then◌else◌}
use Rattle.hop_rule.specs.Words.{loop}
use Rattle.hop_rule.specs.State.{State, Entry, with_link, with_route, with_views, with_queues, with_queue}
use Rattle.hop_rule.specs.Rule.{up, distance_of, downstream_of, send}

-- 01's recompute of v at u: if the distance changed, the entry is sent on each up link of u.
unfoldable pub recompute01 : State → ℕ → ℕ → State
recompute01 s u v =
    let d = distance_of s u v in
    let x = downstream_of s u v d in
    let changed = not (eqb d (s.distance u v)) in
    let entry : Entry = record { destination = v; value = d } in
    with_queues (with_route s u v d x) (λ a b. if eqb a u && (up s u b && changed) then send entry (s.queue a b) else s.queue a b)

unfoldable pub recompute_all01 : State → ℕ → State
recompute_all01 s u = loop s.n (λ v t. recompute01 t u v) s

-- At each end the link is down, the queue to the other is emptied, and the views on it become n;
abbrev cut_end : State → ℕ → ℕ → State
cut_end s u w = with_queue (with_views (with_link s u w 0) u w (λ v. s.n)) u w []

unfoldable pub cut : State → ℕ → ℕ → State
cut s a b = cut_end (cut_end s a b) b a

-- and each recomputes every destination.
unfoldable pub link_down01 : State → ℕ → ℕ → State
link_down01 s a b = recompute_all01 (recompute_all01 (cut s a b) a) b
