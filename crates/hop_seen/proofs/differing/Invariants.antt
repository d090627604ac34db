use mathlib.Core.Path.{◌≡◌}
use Prim.Native.Nat.{ℕ, ◌<◌}
use lib.ListN.{length}
use Rattle.hop_rule.specs.Words.{every}
use Rattle.hop_rows.specs.Rows.{byte, none_is}
use Rattle.hop_seen.specs.Seen.{seen}
use Rattle.hop_seen.proofs.differing.Given as goal

abbrev pub invariant-loop-v : goal.invariant-loop-v
invariant-loop-v l = (l.before ≡ seen (byte l.row 0) l.v-index) × (l.ok ≡ every l.v-index (λ j. none_is l.row 0 j (byte l.row 0 j))) × ((j : ℕ) → j < length l.row → byte l.row 0 j < 64)
