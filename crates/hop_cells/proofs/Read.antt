-- A cell that the code reads is what the state has there: n is the count that the bytes claim, handed in. Assumes nothing.
use mathlib.Core.Path.{◌≡◌, sym, ap, ◌∙◌}
use mathlib.Core.List.{List}
use Prim.Native.Nat.{ℕ}
use lib.ListN.{length}
use Rattle.hop_rule.specs.declared.Table.TheVariants.{Links, Lengths}
use Rattle.hop_rule.specs.Stored.{nodes, flat, read_as, read}
use Rattle.hop_laws.proofs.Words.{length_listed}
use Rattle.hop_cells.specs.Cells.{get, get2}

module _ (s : List ℕ) {n : ℕ} (claim : n ≡ nodes s) (a b : ℕ) where
  pub link_read : get2 n Links a b s ≡ (read s).link a b
  unfolding get flat read_as
  link_read = ap (λ m. (read_as m s).link a b) claim

  -- A queue is as long as its length byte says.
  pub length_read : get2 n Lengths a b s ≡ length ((read s).queue a b)
  unfolding get flat read_as
  length_read = sym (length_listed _ _) ∙ ap (λ m. length ((read_as m s).queue a b)) claim
