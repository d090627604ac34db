-- The entries that the code counts in the whole state are all lengths in one row; and they are those that wait in the state that the bytes hold, sound or not: n is the count that they claim, handed in. Assumes nothing.
use mathlib.Core.Path.{◌≡◌, ap, ◌∙◌}
use mathlib.Core.List.{List}
use Prim.Native.Nat.{ℕ, ◌*◌}
use lib.ListN.{length}
use Rattle.hop_rule.specs.declared.Table.TheVariants.{Lengths}
use Rattle.hop_rule.specs.Words.{sum}
use Rattle.hop_rule.specs.Rule.{total}
use Rattle.hop_rule.specs.Stored.{nodes, read_as, read}
use Rattle.hop_laws.proofs.Words.{sum_same, sum_rows}
use Rattle.hop_cells.specs.Cells.{get}
use Rattle.hop_cells.proofs.Read.{length_read}
use Rattle.hop_counts.specs.Counts.{waiting_from, queued}

pub queued_read : (s : List ℕ) {n : ℕ} → n ≡ nodes s → queued n s ≡ total (read s)
unfolding queued waiting_from total read_as
queued_read s {n} claim =
    sum_same n _ (λ w. sum n (λ u. length ((read s).queue w u))) (λ w lw. sum_same n _ _ (λ u lu. length_read s claim w u))
    ∙ ap (λ m. sum m (λ w. sum m (λ u. length ((read s).queue w u)))) claim

pub queued_flat : (n : ℕ) (s : List ℕ) → sum (n * n) (λ i. get n Lengths i s) ≡ queued n s
unfolding queued waiting_from
queued_flat n s = sum_rows n n (λ i. get n Lengths i s)
