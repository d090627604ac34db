-- A state in the middle of telling the neighbours. Used by the law of that move.
use Rattle.std.specs.Prelude.{◌&&◌, ℕ, eqb, ltb, if◌then◌else◌}
use Rattle.hop_rule.specs.State.{State, Entry, with_queues}
use Rattle.hop_rule.specs.Rule.{sends, send}

-- The entry e is sent on u's links to the nodes below k, where both ends are up.
unfoldable pub with_sent : State → ℕ → Entry → ℕ → State
with_sent t u e k = with_queues t (λ a b. if eqb a u && (ltb b k && sends t u b) then send e (t.queue a b) else t.queue a b)
