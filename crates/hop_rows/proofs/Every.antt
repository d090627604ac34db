-- How a loop finds out `every`: to the end with a mark that each turn joins its test to, or with a way out at the first failure. Assumes nothing.
use mathlib.Core.Path.{◌≡◌, refl, sym, ap, ◌∙◌}
use mathlib.Core.List.{List}
use mathlib.Core.Bool.{Bool, true, false, ◌&&◌, and-true, and-false, and_assoc}
use Prim.Native.Nat.{ℕ, zero, suc, ◌+◌, ◌≤◌, ◌<◌}
use native.Mathlib.Nat.{le_refl, le_antisymm}
use native.Mathlib.Numerals.{add-one}
use native.Mathlib.Decide.{ℕ_discrete}
use native.Mathlib.Omega.{arith}
use Rattle.std.specs.List.{list_all, range_with_len, FoldsTo}
use Rattle.std.proofs.lemmas.Iterator.{YieldsList-from_range}
use Rattle.std.proofs.lemmas.Iterator.Search.{all_from_yields_List}
use denote.Param.Members.{Mut}
use Rattle.std.specs.Iterator.{YieldsThen}
use Rattle.std.specs.Fn.{Called}
use Rattle.std.specs.Option.{MatchOption}
use Rattle.std.specs.declared.option.Option.{Option}
use Rattle.std.specs.declared.ops.Range.{Range}
use Rattle.std.proofs.iter.Yields.{nat_range_steps}
use Rattle.hop_rule.specs.Words.{every}

pub every_none : (p : ℕ → Bool) → every 0 p ≡ true
unfolding every
every_none p = refl

every_more : (k : ℕ) (p : ℕ → Bool) → every (k + 1) p ≡ every k p && p k
unfolding every
every_more k p = rw (add-one k)

-- The same with the first test first.
pub every_front : (k : ℕ) (p : ℕ → Bool) → every (suc k) p ≡ p 0 && every k (λ i. p (suc i))
unfolding every
every_front zero p = sym (and-true (p 0))
every_front (suc k) p = rw (every_front k p) (and_assoc (p 0) (every k (λ i. p (suc i))) (p (suc k)))

-- Tests that agree are passed together.
pub every_as : (k : ℕ) {p q : ℕ → Bool} → ((i : ℕ) → i < k → p i ≡ q i) → every k p ≡ every k q
unfolding every
every_as zero e = refl
every_as (suc k) e = rw (every_as k (λ i l. e i (omega arith)), e k (le_refl _))

-- One turn: its test is joined to the mark,
pub every_next : (k : ℕ) (p : ℕ → Bool) {a b : Bool} → a ≡ every k p → b ≡ p k → a && b ≡ every (k + 1) p
every_next k p e f = rw (every_more k p, e, f) refl

-- or is passed, and the mark stays as it is.
pub every_stays : (k : ℕ) (p : ℕ → Bool) {b : Bool} → b ≡ every k p → p k ≡ true → b ≡ every (k + 1) p
every_stays k p {b} e h = rw (every_more k p, h, ← e) (sym (and-true b))

-- One failure is enough.
pub every_fails : (m : ℕ) (p : ℕ → Bool) (k : ℕ) → k < m → p k ≡ false → false ≡ every m p
unfolding every
every_fails zero p k l h = absurd (omega arith)
every_fails (suc m) p k l h = go (ℕ_discrete k m) (every_fails m p k)
  where
    go : Dec (k ≡ m) → (k < m → p k ≡ false → false ≡ every m p) → false ≡ every m p && p m
    go (yes e) f = rw (← e, h) (sym (and-false (every k p)))
    go (no n) f = rw (← f (omega arith) h)

-- The loop is over.
pub every_done : (k m : ℕ) (p : ℕ → Bool) {b : Bool} → b ≡ every k p → k ≤ m → m ≤ k → b ≡ every m p
every_done k m p e l l' = e ∙ ap (λ (i : ℕ). every i p) (le_antisymm l l')

-- The library's `all` over the numbers below n finds it out too.
every_from : (k a : ℕ) (p : ℕ → Bool) → list_all p (range_with_len a k) ≡ every k (λ i. p (a + i))
every_from zero a p = sym (every_none _)
every_from (suc k) a p =
    let first : p a ≡ p (a + 0) = ap p (omega arith) in
    let rest : every k (λ i. p (a + 1 + i)) ≡ every k (λ i. p (a + suc i)) = every_as k (λ i l. ap p (omega arith)) in
    rw (every_from k (a + 1) p, every_front k (λ i. p (a + i)), first, rest) refl

pub every_all : {F : Type 0} {g : Mut F (ℕ × Unit {0}) Bool} (n : ℕ) (test : ℕ → Bool) (u : Range ℕ) (f : F) (r : Bool)
    → (xs : List ℕ) × (o : Option ℕ) × (j : F) × YieldsThen nat_range_steps (record { start = 0; end = n }) xs o u × FoldsTo (λ p x q. Called g p (x, tt) true q) f xs j × MatchOption o (r ≡ true) (λ x. (r ≡ false) × ((h : F) × Called g j (x, tt) false h))
    → ((x : ℕ) (b : Bool) (q : F) → Called g f (x, tt) b q → (q ≡ f) × (b ≡ test x)) → r ≡ every n test
every_all n test u f r ran says =
    all_from_yields_List test u f r ran (YieldsList-from_range 0 n n refl (omega arith)) says
    ∙ every_from n 0 test
    ∙ every_as n (λ i l. ap test (omega arith))
