-- `copy` meets its contract: after i turns the first i bytes are copied, and the others stand as they did. Assumes nothing.
use mathlib.Core.Path.{ap, ◌∙◌}
use native.Mathlib.Nat.{le_antisymm}
use Rattle.hop_trial.proofs.Copies.{overlaid, overlaid_written}
use Rattle.hop_trial.proofs.copy.Goals as goal

pub returns : goal.returns
returns c =
    let x = c.args in
    let inv = c.loop-i.invariant in
    inv.2 ∙ ap (overlaid x.from.now x.to.now) (le_antisymm inv.0 c.loop-i-test.false) ∙ overlaid_written _ _ _ c.requires.0
