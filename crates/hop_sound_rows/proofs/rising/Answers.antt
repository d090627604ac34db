-- `rising` meets its contract: each byte but the first is tested with the one before it. Assumes nothing.
use mathlib.Core.Path.{refl, ◌∙◌}
use mathlib.Core.List.{List}
use Prim.Native.Nat.{ℕ, ◌-◌, ◌<◌}
use native.Mathlib.Omega.{arith}
use borrow.Author.Rules.{rules}
use lib.Dec.{ltb}
use lib.ListN.{length, take, drop}
use Rattle.hop_rows.specs.Rows.{IsRow}
use Rattle.hop_rows.proofs.Every.{every_as}
use Rattle.hop_rows.proofs.Parts.{is_part}
use Rattle.hop_sound_rows.specs.SoundRows.{rising}
use Rattle.hop_sound_rows.proofs.rising.Goals as goal

-- All bytes but the first.
later : (row : List ℕ) → 0 < length row → IsRow row 1 (length row - 1) (take (length row - 1) (drop 1 row))
later row some = is_part (omega arith) refl

pub each_pair-requires : goal.each_pair-requires
each_pair-requires c = let rest = later c.args.row.now c.requires in (search rules, omega (arith, rest.long))

pub returns : goal.returns
unfolding rising
returns c =
    let rest = later c.args.row.now c.requires in
    c.each_pair.ensures ltb (λ x y r e. search rules) ∙ rw rest.long (every_as _ (λ i l. rw (rest.bytes i l) refl))
