use mathlib.Core.Path.{◌≡◌}
use mathlib.Core.Bool.{◌&&◌}
use Prim.Native.Nat.{◌+◌}
use lib.Dec.{eqb}
use Rattle.hop_rule.specs.Words.{every}
use Rattle.hop_sound_rows.specs.SoundRows.{row_allows}
use Rattle.hop_sound_rows.proofs.Rows.windows_allow.Given as goal

abbrev pub invariant-loop-v : goal.invariant-loop-v
invariant-loop-v g l =
    let allows = row_allows l.n l.w l.self.views.now l.self.distances.now l.self.downstreams.now in
    eqb l.faults 0 ≡ every l.v (λ i. (allows i && allows (l.middle + i)) && allows (l.last + i))
