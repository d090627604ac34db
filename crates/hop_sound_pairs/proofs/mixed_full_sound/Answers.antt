-- `mixed_full_sound` meets its contract: both ways find out the same. Assumes nothing.
use mathlib.Core.Path.{◌∙◌}
use Prim.Native.Nat.{◌≤◌}
use native.Mathlib.Omega.{arith}
use Rattle.hop_seen.proofs.Seen.{full_here}
use Rattle.hop_sound_pairs.proofs.Full.{distances_room, full_busy}
use Rattle.hop_sound_pairs.proofs.mixed_full_sound.Goals as goal

pub full-requires : goal.full-requires
full-requires c =
    let pre = c.requires in
    let enough : 8 ≤ c.args.s.n = omega arith in
    let room = distances_room _ _ enough pre.1 in
    (omega (arith, c.from_row2.ensures.long, room, c.args.s.room.fits), omega (arith, c.row3.ensures.long, c.args.s.room.most), omega (arith, c.row3.ensures.long, c.row3-2.ensures.long))

pub returns : goal.returns
returns c =
    let pre = c.requires in
    let enough : 8 ≤ c.args.s.n = omega arith in
    let room = distances_room _ _ enough pre.1 in
    c.full.ensures ∙ full_here (omega (arith, room, c.args.s.room.fits, c.args.s.room.most)) c.from_row2.ensures c.row3.ensures c.row3-2.ensures ∙ full_busy _ _ _ _
