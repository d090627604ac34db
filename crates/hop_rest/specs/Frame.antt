-- 01, 'Deliver', and 02, R-5: what a delivery and what a notice rewrite, and so what they leave: one node's part of the views and of the tables, the queue that comes to it over the link, and the queues that this node sends on. Uses hop_rule's Rule and Notice.
use Rattle.std.specs.Prelude.{◌≡◌, ◌≢◌, [], ℕ}
use Rattle.hop_rule.specs.State.{State}
use Rattle.hop_rule.specs.Rule.{deliver}
use Rattle.hop_rule.specs.Notice.{notice}

-- A delivery from w to u leaves
pub record RewritesOnly (s : State) (w u : ℕ) : Type 0 where
  -- n and every link,
  pub nodes : (deliver s w u).n ≡ s.n
  pub links : (a b : ℕ) → (deliver s w u).link a b ≡ s.link a b
  -- every other node's views and table rows,
  pub views : (a b c : ℕ) → a ≢ u → (deliver s w u).view a b c ≡ s.view a b c
  pub distances : (a c : ℕ) → a ≢ u → (deliver s w u).distance a c ≡ s.distance a c
  pub downstreams : (a c : ℕ) → a ≢ u → (deliver s w u).downstream a c ≡ s.downstream a c
  -- and every queue that is not from u, but the one that it came from.
  pub queues : (a b : ℕ) → a ≢ u → (a ≡ w → b ≢ u) → (deliver s w u).queue a b ≡ s.queue a b

-- The claim, of every state, sound or not.
abbrev pub EveryDeliveryRewritesOnly : Type 0
EveryDeliveryRewritesOnly = (s : State) (w u : ℕ) → RewritesOnly s w u

-- A notice by a that its link to b is lost
pub record NoticeRewritesOnly (s : State) (a b : ℕ) : Type 0 where
  -- leaves n, and every end but its own of this link, which is down;
  pub nodes : (notice s a b).n ≡ s.n
  pub links : (x y : ℕ) → (x ≡ a → y ≢ b) → (notice s a b).link x y ≡ s.link x y
  pub own_end : (notice s a b).link a b ≡ 0
  -- every view but its own on it, which are n;
  pub views : (x y v : ℕ) → (x ≡ a → y ≢ b) → (notice s a b).view x y v ≡ s.view x y v
  pub own_views : (v : ℕ) → (notice s a b).view a b v ≡ s.n
  -- every other node's table rows;
  pub distances : (x v : ℕ) → x ≢ a → (notice s a b).distance x v ≡ s.distance x v
  pub downstreams : (x v : ℕ) → x ≢ a → (notice s a b).downstream x v ≡ s.downstream x v
  -- and every queue that is not from a, but the one from b to a, which is empty as the one from a to b is.
  pub queues : (x y : ℕ) → x ≢ a → (x ≡ b → y ≢ a) → (notice s a b).queue x y ≡ s.queue x y
  pub emptied : ((notice s a b).queue a b ≡ []) × ((notice s a b).queue b a ≡ [])

abbrev pub EveryNoticeRewritesOnly : Type 0
EveryNoticeRewritesOnly = (s : State) (a b : ℕ) → NoticeRewritesOnly s a b
