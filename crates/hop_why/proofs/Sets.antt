-- Numbers that pass a test, gathered one by one: first into a set and counted, then from the set into a list. Assumes nothing.
use mathlib.Core.Path.{◌≡◌, sym, ap, subst, ◌∙◌}
use mathlib.Core.Bool.{Bool, true, false}
use mathlib.Core.List.{List, [], ◌∷◌}
use Prim.Native.Nat.{ℕ, ◌+◌, ◌≤◌, ◌<◌}
use native.Mathlib.Decide.{ℕ_discrete}
use native.Mathlib.Numerals.{add-one}
use native.Mathlib.Omega.{arith}
use lib.ListN.{length, set, length-append}
use lib.Seq.{sets, length-sets}
use Rattle.hop_rule.specs.Words.{those}
use Rattle.hop_laws.proofs.Words.{those_none, those_so, those_not, those_most, those_grow, those_same}
use Rattle.hop_laws.proofs.Lists.{sets_more}
use Rattle.hop_seen.specs.Seen.{has, added}
use Rattle.hop_seen.proofs.Bits.{has_none, added_has, added_else}

-- What holds of all numbers below x, and of x.
one_more : (Q : ℕ → Type 0) (x : ℕ) → ((y : ℕ) → y < x → Q y) → Q x → (y : ℕ) → y < x + 1 → Q y
one_more Q x below own y l = go (ℕ_discrete x y)
  where
    go : Dec (x ≡ y) → Q y
    go (yes e) = subst Q e own
    go (no f) = below y (omega (arith, f))

module _ (p : ℕ → Bool) where
  -- One number more, as the code counts.
  pub more_so : (x : ℕ) → p x ≡ true → length (those (x + 1) p) ≡ length (those x p) + 1
  more_so x t = rw (add-one x) (omega (arith, ap length (those_so p x t), length-append (those x p) (x ∷ [])))

  pub more_not : (x : ℕ) → p x ≡ false → those (x + 1) p ≡ those x p
  more_not x t = rw (add-one x) (those_not p x t)

  -- ---- into a set

  -- Of the numbers below x those that pass are in the set m and counted; it has no others.
  pub record Gathered (m count x : ℕ) : Type 0 where
    pub below : (y : ℕ) → y < x → has m y ≡ p y
    pub beyond : (y : ℕ) → x ≤ y → has m y ≡ false
    pub counted : count ≡ length (those x p)

  pub gathered_none : Gathered 0 0 0
  gathered_none = record { below = λ y l. absurd (omega arith); beyond = λ y l. has_none y; counted = ap length (sym (those_none p)) }

  module _ {m count x : ℕ} (g : Gathered m count x) where
    -- A turn of the code: with x added,
    pub with_it : p x ≡ true → Gathered (added m x) (count + 1) (x + 1)
    with_it t = record {
      below = one_more (λ y. has (added m x) y ≡ p y) x (λ y l. added_else m x y (λ e. omega arith) ∙ g.below y l) (added_has m x ∙ sym t);
      beyond = λ y l. added_else m x y (λ e. omega arith) ∙ g.beyond y (omega arith);
      counted = omega (arith, g.counted, more_so x t);
    }

    -- or without it.
    pub without : p x ≡ false → Gathered m count (x + 1)
    without t = record {
      below = one_more (λ y. has m y ≡ p y) x g.below (g.beyond x (omega arith) ∙ sym t);
      beyond = λ y l. g.beyond y (omega arith);
      counted = g.counted ∙ ap length (sym (more_not x t));
    }

    pub gathered_few : count ≤ x
    gathered_few = omega (arith, g.counted, those_most p x)

    pub gathered_all : those x (has m) ≡ those x p
    gathered_all = those_same x (has m) p g.below

  -- ---- into a list

  pub record Filled (list₀ list : List ℕ) (k x : ℕ) : Type 0 where
    pub counted : k ≡ length (those x p)
    pub put : list ≡ sets list₀ 0 (those x p)

  module _ {list₀ : List ℕ} where
    pub filled_none : Filled list₀ list₀ 0 0
    filled_none = record { counted = ap length (sym (those_none p)); put = ap (sets list₀ 0) (sym (those_none p)) }

    -- A turn of the code: x is put behind the others,
    pub filled_with : {list : List ℕ} {k x : ℕ} → Filled list₀ list k x → p x ≡ true → Filled list₀ (set list k x) (k + 1) (x + 1)
    filled_with {list} {k} {x} f t =
        let place : k ≡ 0 + length (those x p) = omega (arith, f.counted) in
        record {
          counted = omega (arith, f.counted, more_so x t);
          put = rw (add-one x, those_so p x t) (sets_more (those x p) x list₀ 0 f.put (ap (λ i. set list i x) place));
        }

    -- or it is passed over.
    pub filled_without : {list : List ℕ} {k x : ℕ} → Filled list₀ list k x → p x ≡ false → Filled list₀ list k (x + 1)
    filled_without {x = x} f t = record { counted = f.counted ∙ ap length (sym (more_not x t)); put = f.put ∙ ap (sets list₀ 0) (sym (more_not x t)) }

    module _ {list : List ℕ} {k x : ℕ} (f : Filled list₀ list k x) where
      pub filled_few : k ≤ x
      filled_few = omega (arith, f.counted, those_most p x)

      pub filled_kept : length list ≡ length list₀
      filled_kept = ap length f.put ∙ length-sets list₀ 0 (those x p)

      -- A list that holds them all has room for the next.
      pub filled_room : {n : ℕ} → length (those n p) ≤ length list₀ → x < n → p x ≡ true → k < length list
      filled_room {n} fits l t = omega (arith, filled_kept, f.counted, more_so x t, those_grow p (x + 1) n (omega arith), fits)
