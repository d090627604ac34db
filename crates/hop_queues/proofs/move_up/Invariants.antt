use mathlib.Core.Path.{◌≡◌}
use Prim.Native.Nat.{◌≤◌}
use lib.ListN.{length}
use Rattle.hop_rule.specs.Words.{loop}
use Rattle.hop_queues.specs.Queues.{shift}
use Rattle.hop_queues.proofs.move_up.Given as goal

abbrev pub invariant-loop-p : goal.invariant-loop-p
invariant-loop-p l = (l.p ≤ l.m) × (length l.s ≡ length l.initial.s) × (l.s ≡ loop l.p (shift l.n l.t l.w l.u l.k) l.initial.s)
