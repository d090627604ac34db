-- 01, 'What the core covers': what a step machine over n nodes holds, and a state with one part of it set. Uses Words.
use Rattle.std.specs.Prelude.{◌&&◌, List, ℕ, eqb, if◌then◌else◌}

-- An announcement that waits: a destination, and the sender's distance to it.
pub record Entry : Type 0 where
  pub destination : ℕ
  pub value : ℕ

-- Ends of links that are up (1) or down, one queue in each direction of a link, and for each node its distance and its downstream neighbour for each destination. Only nodes below n mean anything.
pub record State : Type 0 where
  pub n : ℕ
  -- a node and a neighbour: the node's own end of the link between them
  pub link : ℕ → ℕ → ℕ
  -- a node and a destination
  pub distance : ℕ → ℕ → ℕ
  pub downstream : ℕ → ℕ → ℕ
  -- a node, a neighbour and a destination: the last distance that the node heard from the neighbour
  pub view : ℕ → ℕ → ℕ → ℕ
  -- a sender and a receiver, the head first
  pub queue : ℕ → ℕ → List Entry

-- ---- one part is set, and all else stays

-- u's end of the link to w is x.
abbrev pub with_link : State → ℕ → ℕ → ℕ → State
with_link s u w x = record {
  n = s.n;
  link = λ a b. if eqb a u && eqb b w then x else s.link a b;
  distance = s.distance;
  downstream = s.downstream;
  view = s.view;
  queue = s.queue;
}

-- u has v at distance d, by way of x.
abbrev pub with_route : State → ℕ → ℕ → ℕ → ℕ → State
with_route s u v d x = record {
  n = s.n;
  link = s.link;
  distance = λ a c. if eqb a u && eqb c v then d else s.distance a c;
  downstream = λ a c. if eqb a u && eqb c v then x else s.downstream a c;
  view = s.view;
  queue = s.queue;
}

-- u's views from w are f; its view of v from w is d.
abbrev pub with_views : State → ℕ → ℕ → (ℕ → ℕ) → State
with_views s u w f = record {
  n = s.n;
  link = s.link;
  distance = s.distance;
  downstream = s.downstream;
  view = λ a b c. if eqb a u && eqb b w then f c else s.view a b c;
  queue = s.queue;
}

abbrev pub with_view : State → ℕ → ℕ → ℕ → ℕ → State
with_view s u w v d = with_views s u w (λ c. if eqb c v then d else s.view u w c)

-- The queues are q; the queue from w to u is q.
abbrev pub with_queues : State → (ℕ → ℕ → List Entry) → State
with_queues s q = record {
  n = s.n;
  link = s.link;
  distance = s.distance;
  downstream = s.downstream;
  view = s.view;
  queue = q;
}

abbrev pub with_queue : State → ℕ → ℕ → List Entry → State
with_queue s w u q = with_queues s (λ a b. if eqb a w && eqb b u then q else s.queue a b)
