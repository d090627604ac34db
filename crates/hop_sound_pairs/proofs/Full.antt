-- What is left to judge of a full queue: its values, since its destinations leave no view out; and where they count up, value v is the one for v. Assumes nothing.
use mathlib.Core.Path.{◌≡◌, refl, sym, ◌∙◌}
use mathlib.Core.Bool.{Bool, true, false, ◌&&◌}
use mathlib.Core.List.{List}
use Prim.Native.Nat.{ℕ, ◌+◌, ◌*◌, ◌≤◌, ◌<◌}
use native.Mathlib.Nat.{le_refl, mul-le-mul}
use native.Mathlib.Omega.{arith}
use Rattle.hop_rule.specs.declared.Table.TheVariants.{Distances, Destinations, Values}
use Rattle.hop_rule.specs.Stored.{start, size}
use Rattle.hop_rows.specs.Rows.{row, all_below, same}
use Rattle.hop_seen.specs.Seen.{differing, full}
use Rattle.hop_sound_rows.specs.SoundRows.{counting}
use Rattle.hop_sound_rows.proofs.FullRows.{full_told, counting_below, counting_differs, counting_valued}
use Rattle.hop_sound_pairs.specs.Pairs.{told_sound, busy_sound}

-- Any byte can be looked up in a row of distances, if n is not small.
pub distances_room : (n w : ℕ) → 8 ≤ n → w < n → row n Distances w + 256 ≤ size n
unfolding start size
distances_room n w l m =
    let square : 8 * 8 ≤ n * n = mul-le-mul l l in
    let cube : 8 * 8 * 8 ≤ n * n * n = mul-le-mul square l in
    let early : w ≤ n = omega arith in
    let before : w * n ≤ n * n = mul-le-mul early (le_refl n) in
    omega arith

-- What is judged last need only agree where the others pass.
agree : (x y : Bool) {z z' : Bool} → (x ≡ true → y ≡ true → z ≡ z') → x && (y && z) ≡ x && (y && z')
agree true true e = e refl refl
agree true false e = refl
agree false y e = refl

module _ (n : ℕ) (s : List ℕ) (u w : ℕ) where
  pub full_busy : full s n (row n Distances w) (row n Destinations (w * n + u)) (row n Values (w * n + u)) ≡ busy_sound n s u w n
  unfolding full busy_sound told_sound
  full_busy = agree (all_below s (row n Destinations (w * n + u)) n n) (differing s (row n Destinations (w * n + u)) n) (λ below differ. sym (full_told s _ n below differ _ _ _))

  pub full_counting : counting s (row n Destinations (w * n + u)) n ≡ true → same s (row n Values (w * n + u)) (row n Distances w) n ≡ busy_sound n s u w n
  unfolding full
  full_counting e = sym (counting_valued s _ n e _ _) ∙ rw (counting_below s _ n e, counting_differs s _ n e) at full_busy
