-- Cells that are filled one by one are a run of one number over the bytes. Assumes nothing.
use mathlib.Core.Path.{◌≡◌, ap, ◌∙◌}
use mathlib.Core.List.{List}
use Prim.Native.Nat.{ℕ, zero, suc, ◌+◌, ◌≤◌}
use native.Mathlib.Numerals.{add-one}
use native.Mathlib.Omega.{arith}
use lib.ListN.{length, replicate, set}
use lib.Seq.{paste}
use Rattle.std.proofs.lemmas.List.Edits.{paste_none, fill_from_more}
use Rattle.hop_rule.specs.declared.Table.{Table}
use Rattle.hop_rule.specs.Stored.{start}
use Rattle.hop_laws.proofs.Words.{loop_none, loop_more}
use Rattle.hop_cells.specs.Cells.{put, fill_cells}

module _ (n : ℕ) (t : Table) (i x : ℕ) (s : List ℕ) where
  pub filled : (k : ℕ) → start n t + i + k ≤ length s → fill_cells n t i k x s ≡ paste s (start n t + i) (replicate k x) k
  unfolding fill_cells put
  filled zero l = loop_none _ s ∙ paste_none s (start n t + i) (replicate 0 x)
  filled (suc k) l =
      let at : start n t + (i + k) ≡ start n t + i + k = omega arith in
      loop_more k _ s
      ∙ ap (λ y. set y (start n t + (i + k)) x) (filled k (omega arith))
      ∙ ap (λ j. set (paste s (start n t + i) (replicate k x) k) j x) at
      ∙ fill_from_more s (start n t + i) k x (omega arith)
      ∙ ap (λ j. paste s (start n t + i) (replicate j x) j) (add-one k)
