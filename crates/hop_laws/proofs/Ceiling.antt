-- The ceiling: in a sound state at most n(n − 1) entries wait for a node, or from it, and at most n²(n − 1) in all, so that for 40 nodes each count fits 16 bits. Assumes nothing.
use mathlib.Core.Path.{◌≡◌, refl, sym, ap, subst}
use mathlib.Core.Bool.{Bool, true, false, cond, not, ◌&&◌}
use Prim.Native.Nat.{ℕ, zero, suc, ◌+◌, ◌*◌, ◌-◌, ◌≤◌, ◌<◌}
use native.Mathlib.Nat.{le_refl, le_trans, le_of_eq, mul_assoc, mul-le-mul, suc-mul, mul_comm}
use native.Mathlib.Decide.{ℕ_discrete}
use native.Mathlib.Omega.{arith}
use lib.Dec.{eqb, ltb}
use lib.ListN.{length}
use Rattle.hop_rule.specs.Words.{sum}
use Rattle.hop_rule.specs.State.{State}
use Rattle.hop_rule.specs.Rule.{total, waiting_for, waiting_from, reached}
use Rattle.hop_rule.specs.Sound.{Sound}
use Rattle.hop_laws.proofs.Tests.{tells_eq, tells_lt, tells_and, tells_not, choose_else}
use Rattle.hop_laws.proofs.Words.{sum_most}

-- m + 1 numbers of at most c each, one of them 0.
sum_skip : (m c a : ℕ) (f : ℕ → ℕ) → ((i : ℕ) → i < suc m → f i ≤ c) → a < suc m → f a ≡ 0 → sum (suc m) f ≤ m * c
unfolding sum
sum_skip zero c a f h l e = let z : f 0 ≡ 0 = subst (λ (i : ℕ). f i ≡ 0) (omega arith) e in omega arith
sum_skip (suc m) c a f h l e = go (ℕ_discrete a (suc m)) (λ k. sum_skip m c a f (λ i j. h i (omega arith)) k e)
  where
    go : Dec (a ≡ suc m) → (a < suc m → sum (suc m) f ≤ m * c) → sum (suc m) f + f (suc m) ≤ suc m * c
    go (yes i) r = omega (arith, sum_most (suc m) c f (λ j k. h j (omega arith)), subst (λ (j : ℕ). f j ≡ 0) i e)
    go (no i) r = omega (arith, r (omega arith), h (suc m) (le_refl _), suc-mul m c)

-- n numbers of at most c each, one of them 0.
row_most : (n c a : ℕ) (f : ℕ → ℕ) → ((i : ℕ) → i < n → f i ≤ c) → a < n → f a ≡ 0 → sum n f ≤ c * (n - 1)
row_most zero c a f h l e = absurd (omega arith)
row_most (suc m) c a f h l e =
    let k : sum (suc m) f ≤ m * c = sum_skip m c a f h l e in
    let z : suc m - 1 ≡ m = omega arith in
    rw (z, mul_comm c m) k

module _ (s : State) (o : Sound s) where
  pub none_own : (u : ℕ) → u < s.n → length (s.queue u u) ≡ 0
  none_own u l = ap length (o.down_queues u u l l (λ q. omega (arith, o.diagonal u l)))

  pub waiting_for_most : (u : ℕ) → u < s.n → waiting_for s u ≤ s.n * (s.n - 1)
  unfolding waiting_for
  waiting_for_most u l = row_most s.n s.n u _ (λ w k. o.lengths u w l k) l (none_own u l)

  pub waiting_from_most : (u : ℕ) → u < s.n → waiting_from s u ≤ s.n * (s.n - 1)
  unfolding waiting_from
  waiting_from_most u l = row_most s.n s.n u _ (λ w k. o.lengths w u k l) l (none_own u l)

  pub total_most : total s ≤ s.n * s.n * (s.n - 1)
  unfolding total waiting_from
  total_most = le_trans (sum_most s.n (s.n * (s.n - 1)) _ (λ u l. waiting_from_most u l)) (le_of_eq (sym (mul_assoc s.n s.n (s.n - 1))))

bit_most : (b : Bool) → cond b 1 0 ≤ 1
bit_most true = omega arith
bit_most false = omega arith

pub reached_most : (s : State) (u : ℕ) → u < s.n → reached s u ≤ s.n - 1
unfolding reached
reached_most s u l = omega (arith, row_most s.n 1 u _ (λ v k. bit_most (counts v)) l own)
  where
    counts : ℕ → Bool
    counts v = not (eqb v u) && ltb (s.distance u v) s.n

    own : cond {A = ℕ} (not (eqb u u) && ltb (s.distance u u) s.n) 1 0 ≡ 0
    own = choose_else (tells_and (tells_not (tells_eq u u)) (tells_lt (s.distance u u) s.n)) _ _ (λ p. p.0 refl)

-- ---- for 40 nodes

-- 62,400 and 1,560 are the two ceilings for 40.
cube_most : (n : ℕ) → n ≤ 40 → n * n * (n - 1) ≤ 62400
cube_most n l = let k : n - 1 ≤ 39 = omega arith in mul-le-mul (mul-le-mul l l) k

square_most : (n : ℕ) → n ≤ 40 → n * (n - 1) ≤ 1560
square_most n l = let k : n - 1 ≤ 39 = omega arith in mul-le-mul l k

module _ (s : State) (o : Sound s) (l : s.n ≤ 40) where
  pub total_fits : total s < 65536
  total_fits = omega (arith, total_most s o, cube_most s.n l)

  pub waiting_for_fits : (u : ℕ) → u < s.n → waiting_for s u < 65536
  waiting_for_fits u k = omega (arith, waiting_for_most s o u k, square_most s.n l)

  pub waiting_from_fits : (u : ℕ) → u < s.n → waiting_from s u < 65536
  waiting_from_fits u k = omega (arith, waiting_from_most s o u k, square_most s.n l)

  pub reached_fits : (u : ℕ) → u < s.n → reached s u < 65536
  reached_fits u k = omega (arith, reached_most s u k)
