-- `judge_make` meets its contract: it refuses a count that is not 1 to 40, then a buffer with no room for as many nodes. Assumes nothing.
use mathlib.Core.Path.{refl}
use mathlib.Core.Logic.{inl, inr}
use mathlib.Core.List.{[], ◌∷◌}
use native.Mathlib.Omega.{arith}
use Rattle.hop_rule.specs.Stored.{size}
use Rattle.hop_rule.specs.Calls.{judge, refusals, bad_count, short}
use Rattle.hop_laws.proofs.Calls.{tells_bad_count, count_good}
use Rattle.hop_judge.proofs.Judging.{first_refuses, first_passes}
use Rattle.hop_judge.proofs.judge_make.Goals as goal

pub returns-then-n-eq0 : goal.returns-then-n-eq0
unfolding refusals
returns-then-n-eq0 c = first_refuses (bad_count c.args.n) _ _ ((tells_bad_count _).if_so (inl c.if-n-eq0.true)) refl

pub returns-then-n-gt40 : goal.returns-then-n-gt40
unfolding refusals
returns-then-n-gt40 c = first_refuses (bad_count c.args.n) _ _ ((tells_bad_count _).if_so (inr c.if-n-gt40.true)) refl

pub returns : goal.returns
unfolding refusals judge
returns c =
    let at = c.args in
    first_passes (bad_count at.n) (short at.s.now (size at.n) ∷ []) _ (count_good at.n (omega arith) (omega arith)) (rw c.size.ensures at c.unless.ensures)
