use mathlib.Core.Path.{◌≡◌}
use Prim.Native.Nat.{◌≤◌}
use lib.ListN.{length}
use Rattle.hop_steps.proofs.Rows.{Row}
use Rattle.hop_steps.proofs.nearer_row.Given as goal

abbrev pub invariant-loop-v : goal.invariant-loop-v
invariant-loop-v l = (l.v ≤ l.s.n) × (length l.views ≡ length l.initial.views) × (length l.from ≡ length l.initial.from) × Row l.s.n l.u l.w l.s.bytes.now l.initial.views l.initial.from l.views l.from l.v
