use mathlib.Core.Path.{◌≡◌}
use Prim.Native.Nat.{ℕ, ◌%◌}
use lib.Dec.{eqb, ltb}
use Rattle.hop_rule.specs.Words.{every}
use Rattle.hop_rows.specs.Rows.{byte}
use Rattle.hop_rows.proofs.Parts.{Given}
use Rattle.hop_seen.specs.Seen.{seen}
use Rattle.hop_seen.proofs.full.Given as goal

abbrev pub invariant-loop-v : goal.invariant-loop-v
invariant-loop-v l =
    (k : ℕ) × Given l.destinations l.values k l.v-iterator.a.rest.now l.v-iterator.b.rest.now
    × (l.set ≡ seen (λ q. byte l.destinations 0 q % 64) k) × (ltb l.bits 64 ≡ every k (λ q. ltb (byte l.destinations 0 q) 64))
    × (eqb l.faults 0 ≡ every k (λ q. eqb (byte l.values 0 q) (byte l.distances 0 (byte l.destinations 0 q))))
