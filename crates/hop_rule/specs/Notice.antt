-- 02, R-5, 'The two ends do not notice together': each end of a link has a byte of its own and its own notice that the link is lost; and link down by notices. Uses Words, State, Rule and, for going through pairs, Sound.
use Rattle.std.specs.Prelude.{◌≡◌, Bool, not, [], ℕ, ◌<◌, eqb, ltb, if◌then◌else◌}
use Rattle.hop_rule.specs.State.{State, with_link, with_views, with_queue}
use Rattle.hop_rule.specs.Rule.{up, recompute_all}
use Rattle.hop_rule.specs.Sound.{pairs}

-- The link has just one end up: its two bytes differ.
abbrev pub one_ended : State → ℕ → ℕ → Bool
one_ended s a b = not (eqb (s.link a b) (s.link b a))

-- There is no such link, as a statement and as a test.
abbrev pub EndsAgree : State → Type 0
EndsAgree s = (a b : ℕ) → a < s.n → b < s.n → s.link a b ≡ s.link b a

unfoldable pub ends_agree : State → Bool
ends_agree s = pairs s.n (λ a b. not (one_ended s a b))

-- 'Notice' by a that its link to b is lost, the first half: a's end is down, a's views on the link become n, and both queues are emptied. b's end stays up, with its views.
unfoldable pub lose : State → ℕ → ℕ → State
lose s a b = with_queue (with_queue (with_views (with_link s a b 0) a b (λ v. s.n)) a b []) b a []

-- And a recomputes every destination.
unfoldable pub notice : State → ℕ → ℕ → State
notice s a b = recompute_all (lose s a b) a

-- The notice of a, if it is missing.
unfoldable pub missing : State → ℕ → ℕ → State
missing s a b = if up s a b then notice s a b else s

-- 'Link down' a, b: whatever notices are missing, the lower-numbered end first.
unfoldable pub link_down : State → ℕ → ℕ → State
link_down s a b = if ltb a b then missing (missing s a b) b a else missing (missing s b a) a b
