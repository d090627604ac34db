-- A delivery as a relation with named parts, and runs of it. The proofs of coming to rest speak of these and not of the rule's `deliver`, which is one such; no claim on the other pages needs them. Uses Orders and hop_rule's Rule and Sound.
use Rattle.std.specs.Prelude.{◌≡◌, ◌≢◌, List, [], ◌∷◌, ℕ, ◌≤◌, ◌<◌, length}
use Rattle.hop_rule.specs.State.{State, Entry}
use Rattle.hop_rule.specs.Rule.{send}
use Rattle.hop_rule.specs.Sound.{Linked, Sends, Sound}
use Rattle.hop_rest.specs.Orders.{Queue, count}

-- s is a sound state over the links of g, and has the views of g where the other end is down, as every state of a run from g does.
pub record Over (g s : State) : Type 0 where
  pub sound : Sound s
  pub nodes : s.n ≡ g.n
  pub links : (u w : ℕ) → u < g.n → w < g.n → s.link u w ≡ g.link u w
  pub trusted : (u w v : ℕ) → u < g.n → w < g.n → v < g.n → (Linked g w u → ⊥) → s.view u w v ≡ g.view u w v

-- A delivery from w to u takes s to t, over the links of g.
pub record Delivered (g s : State) (w u : ℕ) (t : State) : Type 0 where
  pub sender : w < g.n
  pub receiver : u < g.n
  pub linked : Sends g w u
  -- what left
  pub head : Entry
  pub rest : List Entry
  pub waited : s.queue w u ≡ head ∷ rest
  pub left : t.queue w u ≡ rest
  -- what was learnt
  pub learnt : t.view u w head.destination ≡ s.distance w head.destination
  -- what was recomputed
  pub recomputed : Over g t
  -- what was sent
  pub sent : t.distance u head.destination ≢ s.distance u head.destination → (x : ℕ) → x < g.n → Sends g u x
      → t.queue u x ≡ send (record { destination = head.destination; value = t.distance u head.destination }) (s.queue u x)
  pub quiet : t.distance u head.destination ≡ s.distance u head.destination → (x : ℕ) → x < g.n → Sends g u x → t.queue u x ≡ s.queue u x
  -- what stayed
  pub views : (a b c : ℕ) → a < g.n → b < g.n → c < g.n → (a ≡ u → b ≡ w → c ≢ head.destination) → t.view a b c ≡ s.view a b c
  pub distances : (a c : ℕ) → a < g.n → c < g.n → (a ≡ u → c ≢ head.destination) → t.distance a c ≡ s.distance a c
  pub queues : (a b : ℕ) → a < g.n → b < g.n → (a ≡ w → b ≢ u) → (a ≡ u → Sends g u b → ⊥) → t.queue a b ≡ s.queue a b

-- A run: deliveries one after another.
pub data Run (g : State) : State → List Queue → State → Type 0 where
  done : {s : State} → Run g s [] s
  next : {s t r : State} {q : Queue} {qs : List Queue} → Delivered g s q.sender q.receiver t → Run g t qs r → Run g s (q ∷ qs) r

-- No queue is asked for more than it holds.
abbrev pub Within : State → State → List Queue → Type 0
Within g s qs = (w u : ℕ) → w < g.n → u < g.n → count w u qs ≤ length (s.queue w u)

-- Every queue is asked for all that it holds. A pass does so, and more would do.
abbrev pub Covers : State → State → List Queue → Type 0
Covers g s qs = (w u : ℕ) → w < g.n → u < g.n → length (s.queue w u) ≤ count w u qs
