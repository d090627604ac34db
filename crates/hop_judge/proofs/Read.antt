-- What the code finds of the ends of links is what the state has: each pair is looked at once, and n is the count that the bytes claim, handed in. Assumes nothing.
use mathlib.Core.Path.{◌≡◌, sym, ap, ◌∙◌}
use mathlib.Core.Bool.{not, ◌||◌}
use mathlib.Core.List.{List}
use Prim.Native.Nat.{ℕ, ◌*◌, ◌<◌}
use native.Mathlib.Decide.{ℕ_discrete, dec_lt}
use native.Mathlib.Omega.{arith}
use lib.ListN.{length}
use Rattle.hop_rule.specs.Words.{every}
use Rattle.hop_rule.specs.State.{State}
use Rattle.hop_rule.specs.Stored.{nodes, read_as, read}
use Rattle.hop_rule.specs.Rule.{up, sends}
use Rattle.hop_rule.specs.Notice.{one_ended, EndsAgree, ends_agree}
use Rattle.hop_rule.specs.Worth.{lines, numbers}
use Rattle.hop_laws.specs.Lines.{tried_below}
use Rattle.hop_laws.proofs.Tests.{Tells, tells_as, tells_same, tells_not, tells_every}
use Rattle.hop_laws.proofs.Notice.{tells_one_ended, agree_tells}
use Rattle.hop_laws.proofs.Worth.{length_numbers, lines_count}

-- Both ends of every link agree where those of every link to a lower-numbered node do.
module _ (t : State) where
  abbrev Below : Type 0
  Below = (a : ℕ) → a < t.n → (b : ℕ) → b < a → t.link a b ≡ t.link b a

  all : Below → EndsAgree t
  all h a b la lb = go (dec_lt b a) (dec_lt a b)
    where
      go : Dec (b < a) → Dec (a < b) → t.link a b ≡ t.link b a
      go (yes l) d = h a la b l
      go (no f) (yes l) = sym (h b lb a l)
      go (no f) (no g) = let e : a ≡ b = omega arith in rw e

  pub agree_below : every t.n (λ a. every a (λ b. not (one_ended t a b))) ≡ ends_agree t
  agree_below = tells_same (tells_as all (λ h a la b l. h a b la (omega arith)) (tells_every t.n (λ a la. tells_every a (λ b l. pair a b)))) (agree_tells t)
    where
      pair : (a b : ℕ) → Tells (not (one_ended t a b)) (t.link a b ≡ t.link b a)
      pair a b = tells_as (λ f. elim (ℕ_discrete (t.link a b) (t.link b a)) [ yes e ↦ e | no g ↦ absurd (f g) ]) (λ e f. f e) (tells_not (tells_one_ended t a b))

module _ (s : List ℕ) {n : ℕ} (claim : n ≡ nodes s) where
  pub both_read : (a b : ℕ) → sends (read_as n s) a b ≡ sends (read s) a b
  both_read a b = ap (λ m. sends (read_as m s) a b) claim

  pub either_read : (a b : ℕ) → up (read_as n s) a b || up (read_as n s) b a ≡ up (read s) a b || up (read s) b a
  either_read a b = ap (λ m. up (read_as m s) a b || up (read_as m s) b a) claim

  pub differ_read : (a b : ℕ) → one_ended (read_as n s) a b ≡ one_ended (read s) a b
  differ_read a b = ap (λ m. one_ended (read_as m s) a b) claim

  pub agree_read : ends_agree (read_as n s) ≡ ends_agree (read s)
  agree_read = ap (λ m. ends_agree (read_as m s)) claim

  -- Seven numbers for each pair that is tried are those of all lines.
  pub tried_read : (p : ℕ) → p ≡ tried_below (read_as n s) n → 7 * p ≡ length (numbers (lines (read s)))
  unfolding read_as
  tried_read p h = omega (arith, h ∙ ap (λ m. tried_below (read_as m s) m) claim, lines_count (read s), length_numbers (lines (read s)))
