use mathlib.Core.Path.{◌≡◌}
use Prim.Native.Nat.{◌+◌, ◌*◌, ◌≤◌, ◌<◌}
use lib.ListN.{length}
use lib.Seq.{sets}
use Rattle.hop_rule.specs.Stored.{read}
use Rattle.hop_rule.specs.Worth.{numbers}
use Rattle.hop_laws.specs.Lines.{lines_of}
use Rattle.hop_worth.proofs.lines_of.Given as goal

abbrev pub invariant-loop-b : goal.invariant-loop-b
invariant-loop-b l =
    (l.a < l.b) × (l.b ≤ l.n) × (l.i ≡ l.k + length (lines_of (read l.s) l.a l.b)) × (l.x ≡ l.initial.x) × (length l.list ≡ length l.initial.list) × (l.list ≡ sets l.initial.list (7 * l.k) (numbers (lines_of (read l.s) l.a l.b)))
