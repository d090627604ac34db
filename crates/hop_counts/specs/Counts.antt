-- What the code counts in the bytes of a state: entries that wait, and destinations that a node reaches. Total, as reading a byte is; on sound bytes each count is the rule's.
-- Used by the code's own definitions; a buyer needs none of it.
use Rattle.std.specs.Prelude.{not, ◌&&◌, List, ℕ, eqb, ltb, if◌then◌else◌}
use Rattle.hop_rule.specs.declared.Table.TheVariants.{Distances, Lengths}
use Rattle.hop_rule.specs.Words.{sum}
use Rattle.hop_cells.specs.Cells.{get2}

-- The entries that wait: for node u, from node u, in the whole state.
unfoldable pub waiting_for : ℕ → ℕ → List ℕ → ℕ
waiting_for n u s = sum n (λ w. get2 n Lengths w u s)

unfoldable pub waiting_from : ℕ → ℕ → List ℕ → ℕ
waiting_from n u s = sum n (λ x. get2 n Lengths u x s)

unfoldable pub queued : ℕ → List ℕ → ℕ
queued n s = sum n (λ w. waiting_from n w s)

-- The destinations other than u itself that u has at a distance below n.
abbrev pub reaches : ℕ → ℕ → List ℕ → ℕ → ℕ
reaches n u s v = if not (eqb v u) && ltb (get2 n Distances u v s) n then 1 else 0

unfoldable pub reached : ℕ → ℕ → List ℕ → ℕ
reached n u s = sum n (reaches n u s)
