-- `counting` meets its contract: the mark is `every` of the bytes passed. Assumes nothing.
use mathlib.Core.Path.{refl, sym}
use Rattle.hop_rows.proofs.Every.{every_none, every_next, every_done}
use Rattle.hop_rows.proofs.Parts.{byte_of}
use Rattle.hop_sound_rows.specs.SoundRows.{counting}
use Rattle.hop_sound_rows.proofs.counting.Goals as goal

pub loop-i-init : goal.loop-i-init
loop-i-init c = sym (every_none _)

pub loop-i-preserved : goal.loop-i-preserved
loop-i-preserved c = every_next _ _ c.loop-i.invariant (rw (byte_of c.args.row.now c.loop-i.i) refl)

pub returns : goal.returns
unfolding counting
returns c = every_done _ _ _ c.loop-i.invariant c.loop-i.auto.i-end c.loop-i-test.false
