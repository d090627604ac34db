-- What is left to judge of a queue whose destinations rise. Assumes nothing.
use mathlib.Core.Path.{◌≡◌, ap, ◌∙◌}
use mathlib.Core.Bool.{true, false}
use mathlib.Core.List.{List}
use Prim.Native.Nat.{ℕ, ◌+◌, ◌*◌, ◌-◌, ◌≤◌, ◌<◌}
use native.Mathlib.Omega.{arith}
use lib.ListN.{get_or}
use Rattle.hop_rule.specs.declared.Table.TheVariants.{Destinations}
use Rattle.hop_cells.specs.Cells.{get, get3}
use Rattle.hop_rows.specs.Rows.{row, byte, all_below}
use Rattle.hop_sound_rows.specs.SoundRows.{rising}
use Rattle.hop_sound_rows.proofs.RisingRows.{rising_differs, rising_over, rising_below}
use Rattle.hop_sound_pairs.specs.Pairs.{told_sound, busy_sound}

module _ (n : ℕ) (s : List ℕ) (u w m : ℕ) (some : 0 < m) (e : rising s (row n Destinations (w * n + u)) (m - 1) ≡ true) {x : ℕ} (last : x ≡ get3 n Destinations w u (m - 1) s) where
  last_byte : x ≡ byte s (row n Destinations (w * n + u)) (m - 1)
  unfolding get
  last_byte = last ∙ ap (λ (i : ℕ). get_or s i 0) (omega arith)

  pub busy_over : n ≤ x → false ≡ busy_sound n s u w m
  unfolding busy_sound
  busy_over l = rw (rising_over s _ m e {n = n} some (omega (arith, last_byte)))

  pub busy_below : x < n → all_below s (row n Destinations (w * n + u)) m n ≡ true
  busy_below l = rising_below s _ m e {n = n} some (omega (arith, last_byte))

  pub busy_told : x < n → told_sound n s u w m ≡ busy_sound n s u w m
  unfolding busy_sound
  busy_told l = rw (busy_below l, rising_differs s _ m e)
