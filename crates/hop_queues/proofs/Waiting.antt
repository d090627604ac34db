-- Where a destination waits: at its own place, or at the first that the search finds, or nowhere. Assumes nothing.
use mathlib.Core.Path.{◌≡◌, ap}
use mathlib.Core.Logic.{◌≢◌}
use mathlib.Core.Bool.{true}
use mathlib.Core.List.{List}
use Prim.Native.Nat.{ℕ, ◌+◌, ◌*◌, ◌<◌}
use native.Mathlib.Omega.{arith}
use lib.ListN.{get_or}
use borrow.Author.Tests.{ne_eqb}
use Rattle.hop_rule.specs.declared.Table.TheVariants.{Destinations}
use Rattle.hop_laws.proofs.Tests.{tells_lt, tells_eq, tells_and, choose_else}
use Rattle.hop_laws.proofs.Words.{first_none}
use Rattle.hop_cells.specs.Cells.{get, get3}
use Rattle.hop_rows.specs.Rows.{row, byte, none_is}
use Rattle.hop_rows.proofs.RowTests.{tells_none}
use Rattle.hop_queues.specs.Queues.{first_at, waits_at}

module _ (n : ℕ) (s : List ℕ) (w u v m : ℕ) where
  -- Where it does not wait at its own place, the places are searched,
  pub searched : (v < m → get3 n Destinations w u v s ≢ v) → waits_at n w u v m s ≡ first_at n w u v m s
  unfolding waits_at
  searched f = choose_else (tells_and (tells_lt v m) (tells_eq (get3 n Destinations w u v s) v)) v (first_at n w u v m s) (λ h. f h.0 h.1)

  -- and where none of them has it, the search ends at m.
  pub found_nowhere : none_is s (row n Destinations (w * n + u)) m v ≡ true → first_at n w u v m s ≡ m
  unfolding first_at get
  found_nowhere e = first_none m _ (λ i l. ne_eqb _ v ((tells_none (record { reads = place }) m v).shows e i l))
    where
      place : (i : ℕ) → byte s (row n Destinations (w * n + u)) i ≡ get3 n Destinations w u i s
      place i = ap (λ (j : ℕ). get_or s j 0) (omega arith)
