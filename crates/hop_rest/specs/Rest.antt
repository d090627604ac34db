-- Coming to rest, as a statement: what follows from soundness and no link event, over n. Right distances and downstreams suppose besides that no link has just one end up. Uses Walks, Orders and hop_rule's Rule and Notice.
use Rattle.std.specs.Prelude.{◌≡◌, List, [], ℕ, suc, ◌*◌, ◌-◌, ◌≤◌, ◌<◌, length}
use Rattle.hop_rule.specs.State.{State}
use Rattle.hop_rule.specs.Rule.{total, waiting_for, pass, passes, made, delivered}
use Rattle.hop_rule.specs.Sound.{Sound}
use Rattle.hop_rule.specs.Notice.{EndsAgree}
use Rattle.hop_rest.specs.Walks.{Walk, HopCount, Nearer}
use Rattle.hop_rest.specs.Orders.{Queue, Nodes, deliveries, Pass, ascending, Passes, after, deliveries_in}

-- Every queue is empty.
abbrev pub AtRest : State → Type 0
AtRest s = (w u : ℕ) → w < s.n → u < s.n → s.queue w u ≡ []

-- t has settled over the links of s:
pub record Settled (s t : State) : Type 0 where
  pub nodes : t.n ≡ s.n
  -- every queue is empty;
  pub empty : AtRest t
  -- each distance is the hop count;
  pub distances : (u v : ℕ) → u < s.n → v < s.n → HopCount s u v (t.distance u v)
  -- each downstream is the node itself for itself, 255 where no walk leads, and otherwise the lowest-numbered neighbour one hop nearer.
  pub own : (u : ℕ) → u < s.n → t.downstream u u ≡ u
  pub none : (u v : ℕ) → u < s.n → v < s.n → ((d : ℕ) → Walk s u v d → ⊥) → t.downstream u v ≡ 255
  pub next : (u v d : ℕ) → u < s.n → v < s.n → suc d < s.n → HopCount s u v (suc d) → Nearer s u v d (t.downstream u v)

-- From s the net comes to rest:
pub record ComesToRest (s : State) : Type 0 where
  -- after n passes in any order every queue is empty,
  pub rests : (ps : List (List Queue)) → Passes s ps → s.n ≤ length ps → AtRest (after s ps)
  -- and it has settled if no link has just one end up,
  pub settles : EndsAgree s → (ps : List (List Queue)) → Passes s ps → s.n ≤ length ps → Settled s (after s ps)
  -- and no passes make more than n³(n − 1) deliveries;
  pub deliveries_most : (ps : List (List Queue)) → Passes s ps → deliveries_in ps ≤ s.n * s.n * s.n * (s.n - 1)
  -- at no moment, whatever was delivered, do more than n²(n − 1) entries wait, nor more than n(n − 1) for one node;
  pub waiting_most : (qs : List Queue) → Nodes s.n qs → total (deliveries s qs) ≤ s.n * s.n * (s.n - 1)
  pub waiting_for_most : (qs : List Queue) → Nodes s.n qs → (u : ℕ) → u < s.n → waiting_for (deliveries s qs) u ≤ s.n * (s.n - 1)
  -- the rule's own pass is such a pass,
  pub pass_ascends : Pass s (ascending s) × (deliveries s (ascending s) ≡ pass s)
  -- so that a run makes at most n passes and n³(n − 1) deliveries, and if it may make n passes nothing is queued, and it has settled if no link has just one end up.
  pub made_most : (k : ℕ) → made s k ≤ s.n
  pub delivered_most : (k : ℕ) → delivered s (made s k) ≤ s.n * s.n * s.n * (s.n - 1)
  pub run_rests : (k : ℕ) → s.n ≤ k → total (passes s (made s k)) ≡ 0
  pub run_settles : EndsAgree s → (k : ℕ) → s.n ≤ k → Settled s (passes s (made s k))

-- The claim, of every sound state.
abbrev pub EverySoundStateRests : Type 0
EverySoundStateRests = (s : State) → Sound s → ComesToRest s
