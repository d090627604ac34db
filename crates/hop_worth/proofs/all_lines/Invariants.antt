use mathlib.Core.Path.{◌≡◌}
use Prim.Native.Nat.{◌≤◌}
use lib.ListN.{length}
use lib.Seq.{sets}
use Rattle.hop_rule.specs.Stored.{read}
use Rattle.hop_rule.specs.Worth.{numbers}
use Rattle.hop_laws.specs.Lines.{lines_below}
use Rattle.hop_worth.proofs.all_lines.Given as goal

abbrev pub invariant-loop-a : goal.invariant-loop-a
invariant-loop-a l = (l.a ≤ l.n) × (l.k ≡ length (lines_below (read l.s) l.a)) × (l.x ≡ l.initial.x) × (length l.list ≡ length l.initial.list) × (l.list ≡ sets l.initial.list 0 (numbers (lines_below (read l.s) l.a)))
