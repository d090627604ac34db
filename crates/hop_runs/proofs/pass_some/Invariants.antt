use mathlib.Core.Path.{◌≡◌}
use Prim.Native.Nat.{ℕ, ◌≤◌, ◌+◌}
use lib.ListN.{length}
use Rattle.hop_rule.specs.Words.{loop}
use Rattle.hop_runs.specs.Runs.{pass_at}
use Rattle.hop_runs.proofs.pass_some.Given as goal

abbrev pub invariant-loop-j : goal.invariant-loop-j
invariant-loop-j l = (l.j ≤ l.k) × (length l.s ≡ length l.initial.s) × (l.s ≡ loop l.j (λ (x : ℕ). pass_at l.n l.noted (l.i + x)) l.initial.s)
