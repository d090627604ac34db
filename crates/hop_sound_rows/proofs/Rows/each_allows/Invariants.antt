use mathlib.Core.Path.{◌≡◌}
use Rattle.hop_rule.specs.Words.{every}
use Rattle.hop_sound_rows.specs.SoundRows.{row_allows}
use Rattle.hop_sound_rows.proofs.Rows.each_allows.Given as goal

abbrev pub invariant-loop-v : goal.invariant-loop-v
invariant-loop-v l = l.ok ≡ every l.v (row_allows l.n l.w l.self.views.now l.self.distances.now l.self.downstreams.now)
