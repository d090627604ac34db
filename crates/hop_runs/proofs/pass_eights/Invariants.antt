use mathlib.Core.Path.{◌≡◌}
use Prim.Native.Nat.{◌≤◌, ◌*◌}
use lib.ListN.{length}
use Rattle.hop_rule.specs.Words.{loop}
use Rattle.hop_runs.specs.Runs.{pass_at}
use Rattle.hop_runs.proofs.pass_eights.Given as goal

abbrev pub invariant-loop-g : goal.invariant-loop-g
invariant-loop-g l = (l.g ≤ l.k) × (length l.s ≡ length l.initial.s) × (l.s ≡ loop (8 * l.g) (pass_at l.n l.noted) l.initial.s)
