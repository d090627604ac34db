-- 01, 'Sound means all of these': each clause stated, and below it the same clauses as a test that computes. Uses Rule and Stored.
use Rattle.std.specs.Prelude.{◌≡◌, ◌⊎◌, Bool, true, false, not, ◌&&◌, ◌||◌, List, [], ◌∷◌, ℕ, ◌≤◌, ◌<◌, eqb, ltb, leb, length}
use Rattle.hop_rule.specs.declared.Table.TheVariants.{Lengths, Destinations, Values}
use Rattle.hop_rule.specs.Words.{every}
use Rattle.hop_rule.specs.State.{State, Entry}
use Rattle.hop_rule.specs.Rule.{up, sends, distance_of, downstream_of}
use Rattle.hop_rule.specs.Stored.{nodes, flat, deep, read_as}

-- What `up` tests: u's own end of the link to w is up.
abbrev pub Linked : State → ℕ → ℕ → Type 0
Linked s u w = s.link u w ≡ 1

-- What `sends` tests: both ends of the link are up, so that its queues are in use.
abbrev pub Sends : State → ℕ → ℕ → Type 0
Sends s w u = Linked s w u × Linked s u w

-- v waits in the queue.
abbrev pub Waits : ℕ → List Entry → Type 0
Waits v [] = ⊥
Waits v (e ∷ q) = (v ≡ e.destination) ⊎ Waits v q

-- The destinations differ.
abbrev pub Differ : List Entry → Type 0
Differ [] = Unit {0}
Differ (e ∷ q) = (Waits e.destination q → ⊥) × Differ q

-- P holds of each entry.
abbrev pub Each : (Entry → Type 0) → List Entry → Type 0
Each P [] = Unit {0}
Each P (e ∷ q) = P e × Each P q

-- u's downstream for v is what recompute gives at the distance that u has.
abbrev pub Leads : State → ℕ → ℕ → Type 0
Leads s u v = s.downstream u v ≡ downstream_of s u v (s.distance u v)

pub record Sound (s : State) : Type 0 where
  -- link bytes are 0 or 1, each its own end's (02, R-5), and 0 on the diagonal;
  pub bits : (u w : ℕ) → u < s.n → w < s.n → s.link u w ≤ 1
  pub diagonal : (u : ℕ) → u < s.n → s.link u u ≡ 0
  -- each distance and downstream is what recompute gives from the views, and views are at most n;
  pub distances : (u v : ℕ) → u < s.n → v < s.n → s.distance u v ≡ distance_of s u v
  pub downstreams : (u v : ℕ) → u < s.n → v < s.n → Leads s u v
  pub views : (u w v : ℕ) → u < s.n → w < s.n → v < s.n → s.view u w v ≤ s.n
  -- at an end that is down (and for a node with itself, whose link is down) views are n, and on a link with an end that is down both queues are empty;
  pub down_views : (u w v : ℕ) → u < s.n → w < s.n → v < s.n → (Linked s u w → ⊥) → s.view u w v ≡ s.n
  pub down_queues : (u w : ℕ) → u < s.n → w < s.n → (Sends s w u → ⊥) → s.queue w u ≡ []
  -- a queue's length is at most n;
  pub lengths : (u w : ℕ) → u < s.n → w < s.n → length (s.queue w u) ≤ s.n
  -- in a queue of a link with both ends up the destinations differ
  pub differ : (u w : ℕ) → u < s.n → w < s.n → Sends s w u → Differ (s.queue w u)
  -- and are below n,
  pub below : (u w : ℕ) → u < s.n → w < s.n → Sends s w u → Each (λ e. e.destination < s.n) (s.queue w u)
  -- each value equals the sender's present distance,
  pub values : (u w : ℕ) → u < s.n → w < s.n → Sends s w u → Each (λ e. e.value ≡ s.distance w e.destination) (s.queue w u)
  -- and a destination that does not wait there has the receiver's view equal to the sender's distance;
  pub heard : (u w v : ℕ) → u < s.n → w < s.n → v < s.n → Sends s w u → (Waits v (s.queue w u) → ⊥) → s.view u w v ≡ s.distance w v

-- Bytes are sound for n nodes if the state that they hold is,
pub record SoundAs (n : ℕ) (s : List ℕ) : Type 0 where
  pub state : Sound (read_as n s)
  -- and queue places past the length are 0 in both blocks.
  pub past_destinations : (w u p : ℕ) → w < n → u < n → p < n → flat n s Lengths w u ≤ p → deep n s Destinations w u p ≡ 0
  pub past_values : (w u p : ℕ) → w < n → u < n → p < n → flat n s Lengths w u ≤ p → deep n s Values w u p ≡ 0

-- Bytes are sound if they are for as many nodes as they claim.
abbrev pub SoundBytes : List ℕ → Type 0
SoundBytes s = SoundAs (nodes s) s

-- ---- the same as a test

unfoldable pub waits : ℕ → List Entry → Bool
waits v [] = false
waits v (e ∷ q) = eqb v e.destination || waits v q

unfoldable pub differ : List Entry → Bool
differ [] = true
differ (e ∷ q) = not (waits e.destination q) && differ q

unfoldable pub each : (Entry → Bool) → List Entry → Bool
each p [] = true
each p (e ∷ q) = p e && each p q

abbrev pub leads : State → ℕ → ℕ → Bool
leads s u v = eqb (s.downstream u v) (downstream_of s u v (s.distance u v))

-- All pairs of nodes, and all triples.
unfoldable pub pairs : ℕ → (ℕ → ℕ → Bool) → Bool
pairs n p = every n (λ a. every n (λ b. p a b))

unfoldable pub triples : ℕ → (ℕ → ℕ → ℕ → Bool) → Bool
triples n p = every n (λ a. pairs n (p a))

unfoldable pub is_sound : State → Bool
is_sound s =
    pairs s.n (λ u w. leb (s.link u w) 1)
    && every s.n (λ u. eqb (s.link u u) 0)
    && pairs s.n (λ u v. eqb (s.distance u v) (distance_of s u v))
    && pairs s.n (λ u v. leads s u v)
    && triples s.n (λ u w v. leb (s.view u w v) s.n)
    && triples s.n (λ u w v. up s u w || eqb (s.view u w v) s.n)
    && pairs s.n (λ u w. sends s w u || eqb (length (s.queue w u)) 0)
    && pairs s.n (λ u w. leb (length (s.queue w u)) s.n)
    && pairs s.n (λ u w. not (sends s w u) || differ (s.queue w u))
    && pairs s.n (λ u w. not (sends s w u) || each (λ e. ltb e.destination s.n) (s.queue w u))
    && pairs s.n (λ u w. not (sends s w u) || each (λ e. eqb e.value (s.distance w e.destination)) (s.queue w u))
    && triples s.n (λ u w v. not (sends s w u) || waits v (s.queue w u) || eqb (s.view u w v) (s.distance w v))

unfoldable pub is_sound_as : ℕ → List ℕ → Bool
is_sound_as n s =
    is_sound (read_as n s)
    && triples n (λ w u p. ltb p (flat n s Lengths w u) || eqb (deep n s Destinations w u p) 0)
    && triples n (λ w u p. ltb p (flat n s Lengths w u) || eqb (deep n s Values w u p) 0)

abbrev pub is_sound_bytes : List ℕ → Bool
is_sound_bytes s = is_sound_as (nodes s) s
