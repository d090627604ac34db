-- The bridge, whole: on a buffer that no refusal of a state applies to, each move of the code leaves the stored form of the rule's state, and the bytes behind it as they were; and each count is the rule's.
-- These are the laws that the public calls' proofs cite; this file can be read alone. Assumes nothing.
use mathlib.Core.Path.{◌≡◌}
use mathlib.Core.List.{List}
use Prim.Native.Nat.{ℕ, ◌≤◌, ◌<◌}
use lib.ListN.{length}
use Rattle.hop_rule.specs.Rule as rule
use Rattle.hop_rule.specs.Notice as ends
use Rattle.hop_rule.specs.Stored.{size, nodes, read}
use Rattle.hop_rule.specs.Calls.{restored}
use Rattle.hop_laws.specs.Fine.{Fine}
use Rattle.hop_steps.specs.Steps.{deliver, link_up, notice, link_down, make}
use Rattle.hop_counts.specs.Counts.{waiting_for, waiting_from, queued, reached}
use Rattle.hop_runs.specs.Runs.{pass, passes, made, delivered, ran, run}
use Rattle.hop_bridge.proofs.Deliver.{deliver_sound}
use Rattle.hop_bridge.proofs.Links.{link_up_carries, notice_carries, link_down_carries}
use Rattle.hop_bridge.proofs.Runs.{waiting_for_is, waiting_from_is, queued_is, reached_is, pass_sound, passes_sound, made_is, delivered_is}
use Rattle.hop_bridge.proofs.Fresh.{make_carries}
use Rattle.hop_bridge.proofs.Door.{fine_carries, fine_sound, carried_restored}

-- ---- making a state

-- Making writes a fresh state over any bytes.
pub make_stored : (n : ℕ) (s : List ℕ) → n ≤ 40 → size n ≤ length s → make n s ≡ restored (rule.fresh n) s
make_stored n s most fits = carried_restored s (make_carries n s (record { most = most; fits = fits }))

module _ (s : List ℕ) (fine : Fine s) where
  -- ---- counting

  -- The entries that wait for a node, from a node, and in the whole state, and the destinations that a node reaches.
  pub waiting_for_read : (u : ℕ) → u < nodes s → waiting_for (nodes s) u s ≡ rule.waiting_for (read s) u
  waiting_for_read = waiting_for_is (fine_carries s fine)

  pub waiting_from_read : (u : ℕ) → u < nodes s → waiting_from (nodes s) u s ≡ rule.waiting_from (read s) u
  waiting_from_read = waiting_from_is (fine_carries s fine)

  pub queued_read : queued (nodes s) s ≡ rule.total (read s)
  queued_read = queued_is (fine_carries s fine)

  pub reached_read : (u : ℕ) → u < nodes s → reached (nodes s) u s ≡ rule.reached (read s) u
  reached_read = reached_is (fine_carries s fine)

  -- ---- the events

  -- A delivery from w to u, also from an empty queue or over a link with an end that is down.
  pub deliver_stored : (w u : ℕ) → w < nodes s → u < nodes s → deliver (nodes s) w u s ≡ restored (rule.deliver (read s) w u) s
  deliver_stored w u lw lu = carried_restored s (deliver_sound (fine_sound s fine) w u lw lu).carries

  -- A link comes up,
  pub link_up_stored : (a b : ℕ) → a < nodes s → b < nodes s → link_up (nodes s) a b s ≡ restored (rule.link_up (read s) a b) s
  link_up_stored a b la lb = carried_restored s (link_up_carries (fine_carries s fine) a b la lb)

  -- one end notices that it is lost,
  pub notice_stored : (a b : ℕ) → a < nodes s → b < nodes s → notice (nodes s) a b s ≡ restored (ends.notice (read s) a b) s
  notice_stored a b la lb = carried_restored s (notice_carries (fine_carries s fine) a b la lb)

  -- or it goes down.
  pub link_down_stored : (a b : ℕ) → a < nodes s → b < nodes s → link_down (nodes s) a b s ≡ restored (ends.link_down (read s) a b) s
  link_down_stored a b la lb = carried_restored s (link_down_carries (fine_carries s fine) a b la lb)

  -- A pass; it delivers what was queued at its start, which is `queued_read`.
  pub pass_stored : pass (nodes s) s ≡ restored (rule.pass (read s)) s
  pass_stored = carried_restored s (pass_sound (fine_sound s fine)).carries

  -- k passes, how many of an allowance k are made, and what k passes deliver.
  pub passes_stored : (k : ℕ) → passes (nodes s) k s ≡ restored (rule.passes (read s) k) s
  passes_stored k = carried_restored s (passes_sound (fine_sound s fine) k).carries

  pub made_read : (k : ℕ) → made (nodes s) k s ≡ rule.made (read s) k
  made_read = made_is (fine_sound s fine)

  pub delivered_read : (k : ℕ) → delivered (nodes s) k s ≡ rule.delivered (read s) k
  delivered_read = delivered_is (fine_sound s fine)

  -- A run with allowance k: the bytes that it leaves, and its two answers.
  pub run_stored : (k : ℕ) → run (nodes s) k s ≡ restored (rule.passes (read s) (rule.made (read s) k)) s
  unfolding run
  run_stored k = rw (made_read k) (passes_stored (rule.made (read s) k))

  pub ran_read : (k : ℕ) → ran (nodes s) k s ≡ record { passes = rule.made (read s) k; deliveries = rule.delivered (read s) (rule.made (read s) k) }
  unfolding ran
  ran_read k = rw (made_read k, delivered_read (rule.made (read s) k))
