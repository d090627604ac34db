-- `change_at` meets its contract: of two routes the difference is taken, and where one is none both sides are 0. Assumes nothing.
use mathlib.Core.Path.{refl, ap₂}
use lib.IntN.{ℤ, ◌-ℤ◌}
use native.Mathlib.Omega.{arith}
use Rattle.hop_changes.proofs.Sums.{byte_kept, change_one, change_one_none}
use Rattle.hop_changes.proofs.change_at.Goals as goal

pub returns-then-a-m : goal.returns-then-a-m
returns-then-a-m c =
    change_one _ _ _ _ refl c.get-b.ensures c.get-a.ensures c.requires.0.most c.if-a-m.true (ap₂ (λ (x y : ℤ). x -ℤ y) (byte_kept c.from.ensures (omega arith)) (byte_kept c.from-then-a-m.ensures (omega arith)))

pub returns : goal.returns
returns c = change_one_none _ _ _ _ refl c.get-b.ensures c.get-a.ensures c.if-a-m.false
