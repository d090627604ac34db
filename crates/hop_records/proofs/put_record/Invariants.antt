-- The words that are written so far: the length, the kind, and the body's first numbers.
use Rattle.std.proofs.Common.{◌≡◌, ◌∷◌, ◌+◌, ◌*◌, take}
use lib.Seq.{sets}
use Rattle.hop_rule.specs.Records.{words}
use Rattle.hop_records.proofs.put_record.Given as goal

abbrev pub invariant-loop-i : goal.invariant-loop-i
invariant-loop-i g l = l.out ≡ sets l.fn.out 0 (words ((2 + 2 * g.row.N) ∷ l.kind ∷ take l.i l.fn.body))
