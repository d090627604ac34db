-- How long the lines are, from how large their numbers are. Assumes nothing.
use mathlib.Core.Path.{◌≡◌}
use mathlib.Core.Logic.{◌⊎◌, inl, inr}
use mathlib.Core.List.{[], ◌∷◌, ◌++◌}
use Prim.Native.Nat.{ℕ, suc, ◌^◌, ◌≤◌, ◌<◌}
use native.Mathlib.Omega.{arith}
use lib.ListN.{length, length-append}
use borrow.Author.Tests.{eq-eqb, ne_eqb}
use Rattle.std.specs.Fmt.{decimal}
use Rattle.std.proofs.lemmas.Fmt.{length-decimal-le}
use Rattle.hop_text.specs.Text.{number, event_line, downstream_end, route_line}
use Rattle.hop_text.proofs.Digits.{digits_decimal}

-- A number below 10, 100, 1,000 and so on has at most one digit, two, three and so on, and one byte ends it.
number_short : (j x ends : ℕ) → x < 10 ^ suc j → x < 2 ^ 64 → length (number x ends) ≤ suc (suc j)
unfolding number
number_short j x ends l fits =
    rw (digits_decimal x fits)
    (omega (arith, length-append (decimal x) (ends ∷ []), length-decimal-le (suc j) x (omega arith) l fits))

-- An event line has at most 17 bytes, and a `d` line at most 14.
pub event_short : (ordinal kind code queued : ℕ) → ordinal < 10000 → kind < 100 → code < 100 → queued < 100000 → length (event_line ordinal kind code queued) ≤ 17
unfolding event_line
event_short ordinal kind code queued a b c d =
    omega (
      arith,
      length-append (number ordinal 32) (number kind 32 ++ (number code 32 ++ number queued 10)),
      length-append (number kind 32) (number code 32 ++ number queued 10),
      length-append (number code 32) (number queued 10),
      number_short 3 ordinal 32 a (omega arith),
      number_short 1 kind 32 b (omega arith),
      number_short 1 code 32 c (omega arith),
      number_short 4 queued 10 d (omega arith),
    )

downstream_short : (w : ℕ) → (w < 100) ⊎ (w ≡ 255) → length (downstream_end w) ≤ 3
unfolding downstream_end
downstream_short w (inl l) = rw (ne_eqb w 255 (λ e. omega arith)) (number_short 1 w 10 l (omega arith))
downstream_short w (inr e) = rw (eq-eqb w 255 e) (omega arith)

pub route_short : (u v d w : ℕ) → u < 100 → v < 100 → d < 100 → (w < 100) ⊎ (w ≡ 255) → length (route_line u v d w) ≤ 14
unfolding route_line
route_short u v d w a b c e =
    omega (
      arith,
      length-append (number u 32) (number v 32 ++ (number d 32 ++ downstream_end w)),
      length-append (number v 32) (number d 32 ++ downstream_end w),
      length-append (number d 32) (downstream_end w),
      number_short 1 u 32 a (omega arith),
      number_short 1 v 32 b (omega arith),
      number_short 1 d 32 c (omega arith),
      downstream_short w e,
    )
