use mathlib.Core.Path.{◌≡◌}
use Prim.Native.Nat.{◌≤◌}
use lib.ListN.{length}
use Rattle.hop_rule.specs.Words.{loop}
use Rattle.hop_queues.specs.Queues.{offer}
use Rattle.hop_queues.proofs.offer_all.Given as goal

abbrev pub invariant-loop-v : goal.invariant-loop-v
invariant-loop-v l = (l.v ≤ l.n) × (length l.s ≡ length l.initial.s) × (l.s ≡ loop l.v (offer l.n l.w l.u) l.initial.s)
