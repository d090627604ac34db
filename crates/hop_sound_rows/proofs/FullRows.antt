-- A full queue: n destinations below n that differ leave none out, so no view is left to judge; and where they count up, value v is the one for v. Assumes nothing.
use mathlib.Core.Path.{◌≡◌, ap}
use mathlib.Core.Bool.{true}
use mathlib.Core.List.{List}
use Prim.Native.Nat.{ℕ, ◌<◌}
use native.Mathlib.Omega.{arith}
use lib.Dec.{eqb}
use Rattle.hop_laws.proofs.Tests.{tells_as, tells_same, tells_eq, tells_every}
use lib.ListN.{length}
use Rattle.hop_rows.specs.Rows.{IsRow, byte, all_below, same}
use Rattle.hop_rows.proofs.Every.{every_as}
use Rattle.hop_rows.proofs.Slices.{every_here}
use Rattle.hop_rows.proofs.RowTests.{itself, tells_below}
use Rattle.hop_seen.specs.Seen.{differing, all_valued}
use Rattle.hop_seen.proofs.Places.{none_left_out}
use Rattle.hop_seen.proofs.Seen.{tells_differing}
use Rattle.hop_sound_rows.specs.SoundRows.{counting, all_told}
use Rattle.hop_sound_rows.proofs.SoundTests.{tells_told}

module _ (s : List ℕ) (at n : ℕ) where
  module _ (below : all_below s at n n ≡ true) (differ : differing s at n ≡ true) where
    low : (i : ℕ) → i < n → byte s at i < n
    low = (tells_below (itself s at) n n).shows below

    apart : (i : ℕ) → i < n → (j : ℕ) → j < i → byte s at j ≡ byte s at i → ⊥
    apart = (tells_differing (itself s at) n).shows differ

    -- Values are all that is left to judge.
    pub full_told : (views distances values : ℕ) → all_told s n views distances at values n ≡ all_valued s n distances at values
    unfolding all_valued
    full_told views distances values = tells_same
        (tells_as (λ h. h.0) (λ h. (h, λ v l f. absurd (none_left_out (byte s at) n low apart v l f)))
        (tells_told (itself s distances) (itself s views) (itself s at) (itself s values) n n low apart))
        (tells_every n (λ p l. tells_eq (byte s values p) (byte s distances (byte s at p))))

  module _ (e : counting s at n ≡ true) where
    counts : (i : ℕ) → i < n → byte s at i ≡ i
    unfolding counting
    counts = (tells_every n (λ i l. tells_eq (byte s at i) i)).shows e

    pub counting_below : all_below s at n n ≡ true
    counting_below = (tells_below (itself s at) n n).if_so (λ i l. omega (arith, counts i l))

    pub counting_differs : differing s at n ≡ true
    counting_differs = (tells_differing (itself s at) n).if_so (λ i l j m z. omega (arith, counts i l, counts j (omega arith)))

    pub counting_valued : (distances values : ℕ) → all_valued s n distances at values ≡ same s values distances n
    unfolding all_valued same
    counting_valued distances values = every_as n (λ p l. ap (λ (x : ℕ). eqb (byte s values p) (byte s distances x)) (counts p l))

-- A slice is tested as the buffer is at its place.
pub counting_here : {s : List ℕ} {at k : ℕ} {r : List ℕ} → IsRow s at k r → counting r 0 (length r) ≡ counting s at k
unfolding counting
counting_here h = every_here h (λ i b. eqb b i)
