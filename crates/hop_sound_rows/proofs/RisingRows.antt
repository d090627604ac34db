-- A row that rises: its bytes differ, and the last is the greatest. Assumes nothing.
use mathlib.Core.Path.{◌≡◌, ap, ◌∙◌}
use mathlib.Core.Bool.{true, false}
use mathlib.Core.List.{List}
use Prim.Native.Nat.{ℕ, zero, suc, ◌+◌, ◌-◌, ◌≤◌, ◌<◌}
use native.Mathlib.Decide.{ℕ_discrete}
use native.Mathlib.Omega.{arith}
use lib.ListN.{length, get_or}
use Rattle.hop_laws.proofs.Tests.{tells_lt, tells_every, tells_false}
use Rattle.hop_rows.specs.Rows.{IsRow, byte, all_below}
use Rattle.hop_rows.proofs.Every.{every_as}
use Rattle.hop_rows.proofs.Parts.{byte_is}
use Rattle.hop_rows.proofs.RowTests.{itself, tells_below}
use Rattle.hop_seen.specs.Seen.{differing}
use Rattle.hop_seen.proofs.Seen.{tells_differing}
use Rattle.hop_sound_rows.specs.SoundRows.{rising}

-- What rises at each step has risen by as many as there are steps.
climbs : (f : ℕ → ℕ) (k : ℕ) → ((i : ℕ) → i < k → f i < f (suc i)) → (i j : ℕ) → i ≤ j → j ≤ k → f i + (j - i) ≤ f j
climbs f k up i zero l m = let e : i ≡ 0 = omega arith in rw e (omega arith)
climbs f k up i (suc j) l m = go (ℕ_discrete i (suc j)) (λ h. climbs f k up i j h (omega arith))
  where
    go : Dec (i ≡ suc j) → (i ≤ j → f i + (j - i) ≤ f j) → f i + (suc j - i) ≤ f (suc j)
    go (yes e) before = rw e (omega arith)
    go (no g) before = omega (arith, before (omega arith), up j m)

-- A row of m bytes that rises.
module _ (s : List ℕ) (at m : ℕ) (e : rising s at (m - 1) ≡ true) where
  rises : (i j : ℕ) → i ≤ j → j < m → byte s at i + (j - i) ≤ byte s at j
  unfolding rising
  rises i j l h = climbs (byte s at) (m - 1) up i j l (omega arith)
    where
      next : (i : ℕ) → byte s (at + 1) i ≡ byte s at (suc i)
      next i = ap (λ (j : ℕ). get_or s j 0) (omega arith)

      up : (i : ℕ) → i < m - 1 → byte s at i < byte s at (suc i)
      up i l = omega (arith, (tells_every (m - 1) (λ i l. tells_lt (byte s at i) (byte s (at + 1) i))).shows e i l, next i)

  differs : (p : ℕ) → p < m → (q : ℕ) → q < p → byte s at q ≡ byte s at p → ⊥
  differs p l q h z = omega (arith, rises q p (omega arith) l)

  pub rising_differs : differing s at m ≡ true
  rising_differs = (tells_differing (itself s at) m).if_so differs

  -- The last decides whether all are below n.
  module _ {n : ℕ} (some : 0 < m) where
    pub rising_over : n ≤ byte s at (m - 1) → all_below s at m n ≡ false
    rising_over l = tells_false (tells_below (itself s at) m n) (λ h. omega (arith, h (m - 1) (omega arith)))

    pub rising_below : byte s at (m - 1) < n → all_below s at m n ≡ true
    rising_below l = (tells_below (itself s at) m n).if_so (λ i h. omega (arith, rises i (m - 1) (omega arith) (omega arith)))

-- A slice is tested as the buffer is at its place.
pub rising_here : {s : List ℕ} {at k : ℕ} {r : List ℕ} → IsRow s at k r → rising r 0 (length r - 1) ≡ rising s at (k - 1)
unfolding rising
rising_here {s} {at} {k} {r} h = rw h.long (every_as (k - 1) (λ i l. rw (h.bytes i (omega arith), next i l)))
  where
    next : (i : ℕ) → i < k - 1 → byte r (0 + 1) i ≡ byte s (at + 1) i
    next i l = byte_is r (0 + 1) i (0 + suc i) (omega arith) ∙ h.bytes (suc i) (omega arith) ∙ byte_is s at (suc i) (at + 1 + i) (omega arith)
