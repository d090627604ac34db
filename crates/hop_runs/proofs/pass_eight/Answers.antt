-- `pass_eight` meets its contract: nothing is noted at any of the eight places, or each is looked at. Assumes nothing.
use mathlib.Core.Path.{sym, ◌∙◌}
use native.Mathlib.Omega.{arith}
use Rattle.hop_cells.proofs.Places.{square_most}
use Rattle.hop_rows.proofs.Parts.{is_part}
use Rattle.hop_rows.proofs.Slices.{are_here}
use Rattle.hop_runs.proofs.Places.{nothing}
use Rattle.hop_runs.proofs.pass_eight.Goals as goal

pub returns-then-all_are : goal.returns-then-all_are
returns-then-all_are c = nothing _ c.args.noted.now _ _ (sym (c.all_are.ensures ∙ are_here (is_part {s = c.args.noted.now} {at = c.args.i} {k = 8} (omega (arith, square_most c.requires.0.most)) (omega arith)) 0) ∙ c.if-all_are.true)
