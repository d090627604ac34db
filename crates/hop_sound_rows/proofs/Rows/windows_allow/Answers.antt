-- `Rows::windows_allow` meets its contract: there are no faults exactly if all three views of `every` turn passed. Assumes nothing.
use mathlib.Core.Path.{sym, ◌∙◌}
use mathlib.Core.Bool.{◌&&◌}
use Prim.Native.Nat.{◌+◌}
use lib.Bits.{bit_or}
use Rattle.hop_rows.proofs.Every.{every_none, every_done}
use Rattle.hop_seen.proofs.Faults.{three_none, faults_more}
use Rattle.hop_sound_rows.specs.SoundRows.{row_allows, rows_allow}
use Rattle.hop_sound_rows.proofs.Windows.{in_windows}
use Rattle.hop_sound_rows.proofs.Rows.windows_allow.Goals as goal

pub loop-v-init : goal.loop-v-init
loop-v-init g c = sym (every_none _)

pub loop-v-preserved : goal.loop-v-preserved
loop-v-preserved g c =
    let a = c.args in
    let rows = a.self.now in
    let v = c.loop-v.v in
    let allows = row_allows a.n a.w rows.views.now rows.distances.now rows.downstreams.now in
    let first = c.short_at in
    let second = c.short_at-in-loop-v in
    let third = c.short_at-in-loop-v-2 in
    faults_more v (λ i. (allows i && allows (a.middle + i)) && allows (a.last + i)) c.loop-v.faults (bit_or (bit_or first.result second.result) third.result) c.loop-v.invariant
    (three_none first.result second.result third.result {x = allows v} {y = allows (a.middle + v)} {z = allows (a.last + v)} first.ensures second.ensures third.ensures)

pub returns : goal.returns
unfolding rows_allow
returns g c =
    let a = c.args in
    let rows = a.self.now in
    let pre = c.requires in
    let allows = row_allows a.n a.w rows.views.now rows.distances.now rows.downstreams.now in
    every_done _ g.row.K (λ i. (allows i && allows (a.middle + i)) && allows (a.last + i)) c.loop-v.invariant c.loop-v.auto.v-end c.loop-v-test.false
    ∙ in_windows allows g.row.K a.n a.middle a.last pre.1 pre.2 pre.3 pre.4
