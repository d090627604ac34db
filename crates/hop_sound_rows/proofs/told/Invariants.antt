use Prim.Native.Nat.{ℕ, ◌<◌}
use lib.ListN.{length}
use Rattle.hop_rows.specs.Rows.{byte}
use Rattle.hop_rows.proofs.Parts.{Given}
use Rattle.hop_sound_rows.specs.SoundRows.{Told}
use Rattle.hop_sound_rows.proofs.told.Given as goal

abbrev pub invariant-loop-v : goal.invariant-loop-v
invariant-loop-v l =
    (k : ℕ) × Given l.destinations l.values k l.v-iterator.a.rest.now l.v-iterator.b.rest.now
    × Told (byte l.views 0) (byte l.destinations 0) (byte l.values 0) (length l.views) k l.heard × ((q : ℕ) → q < length l.destinations → byte l.destinations 0 q < length l.views)
