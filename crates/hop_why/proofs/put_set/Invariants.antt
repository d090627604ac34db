use Prim.Native.Nat.{◌≤◌}
use Rattle.hop_seen.specs.Seen.{has}
use Rattle.hop_why.proofs.Sets.{Filled}
use Rattle.hop_why.proofs.put_set.Given as goal

abbrev pub invariant-loop-x : goal.invariant-loop-x
invariant-loop-x l = (l.x ≤ l.n) × Filled (has l.set) l.initial.list l.list l.k l.x
