-- `Rows::each_allows` meets its contract: the mark is `every` of the views passed. Assumes nothing.
use mathlib.Core.Path.{refl, sym}
use native.Mathlib.Omega.{arith}
use Rattle.hop_rows.proofs.Every.{every_none, every_next, every_done}
use Rattle.hop_rows.proofs.Parts.{byte_of}
use Rattle.hop_sound_rows.specs.SoundRows.{rows_allow}
use Rattle.hop_sound_rows.proofs.Rows.each_allows.Goals as goal

pub loop-v-init : goal.loop-v-init
loop-v-init c = sym (every_none _)

pub loop-v-preserved : goal.loop-v-preserved
loop-v-preserved c =
    let rows = c.args.self.now in
    let v = c.loop-v.v in
    every_next _ _ c.loop-v.invariant (rw (c.least_view.ensures, byte_of rows.views.now v, byte_of rows.distances.now v, byte_of rows.downstreams.now v) refl)

pub returns : goal.returns
unfolding rows_allow
returns c = every_done _ _ _ c.loop-v.invariant (omega arith) (omega arith)
