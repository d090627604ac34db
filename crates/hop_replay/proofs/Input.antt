-- What is read of a script: as many bytes as the smaller of its length and 16,384, by which `input_of` goes; and the whole of one that is no longer, by which no code goes: with it the edit one_byte_more_is_read is refused for its number and not for its form. Assumes nothing.
use mathlib.Core.Path.{◌≡◌, sym}
use mathlib.Core.List.{List}
use Prim.Native.Nat.{ℕ}
use lib.ListN.{length, take}
use Rattle.std.specs.Prelude.{◌≤◌, min}
use Rattle.std.proofs.Math.Nat.{min_comm}
use Rattle.std.proofs.lemmas.List.{take_all, take_min}

pub read_min : (script : List ℕ) → take (min (length script) 16384) script ≡ take 16384 script
read_min script = rw min_comm (take_min 16384 script)

pub read_whole : (script : List ℕ) → length script ≤ 16384 → script ≡ take 16384 script
read_whole script h = sym (take_all 16384 script h)
