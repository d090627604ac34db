use mathlib.Core.Path.{◌≡◌}
use lib.Dec.{eqb}
use Rattle.hop_rule.specs.Words.{every}
use Rattle.hop_rows.specs.Rows.{byte}
use Rattle.hop_sound_rows.proofs.counting.Given as goal

abbrev pub invariant-loop-i : goal.invariant-loop-i
invariant-loop-i l = l.ok ≡ every l.i (λ j. eqb (byte l.row 0 j) j)
