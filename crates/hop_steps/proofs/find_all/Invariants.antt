use mathlib.Core.Path.{◌≡◌}
use Prim.Native.Nat.{ℕ, ◌≤◌, ◌<◌}
use lib.ListN.{length, get_or}
use Rattle.hop_rule.specs.Words.{loop}
use Rattle.hop_steps.specs.Steps.{nearer, at}
use Rattle.hop_steps.proofs.find_all.Given as goal

abbrev pub invariant-loop-w : goal.invariant-loop-w
invariant-loop-w l =
    (l.w ≤ l.s.n)
    × (length l.views ≡ length l.initial.views)
    × (length l.from ≡ length l.initial.from)
    × ((v : ℕ) → v < l.s.n → (at l.views l.from v ≡ loop l.w (nearer l.s.n l.u v l.s.bytes.now) (record { distance = l.s.n; downstream = 255 })) × (get_or l.views v 0 < l.s.n))
