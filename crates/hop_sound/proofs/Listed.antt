-- A queue that is listed place by place: what waits in it, that its destinations differ and what holds of each entry are facts about places. Assumes nothing.
use mathlib.Core.Path.{◌≡◌, refl, sym, ap}
use mathlib.Core.Logic.{◌⊎◌, inl, inr, ◌≢◌}
use mathlib.Core.List.{List, [], ◌∷◌, ◌++◌}
use Prim.Native.Nat.{ℕ, zero, suc, ◌<◌}
use native.Mathlib.Omega.{arith}
use Rattle.hop_rule.specs.Words.{listed}
use Rattle.hop_rule.specs.State.{Entry}
use Rattle.hop_rule.specs.Sound.{Waits, Differ, Each}

listed_front : (k : ℕ) (f : ℕ → Entry) → listed (suc k) f ≡ f 0 ∷ listed k (λ i. f (suc i))
unfolding listed
listed_front zero f = refl
listed_front (suc k) f = ap (λ (q : List Entry). q ++ f (suc k) ∷ []) (listed_front k f)

pub each_at : (P : Entry → Type 0) (k : ℕ) (f : ℕ → Entry) → Each P (listed k f) → (p : ℕ) → p < k → P (f p)
each_at P zero f h p l = absurd (omega arith)
each_at P (suc k) f h zero l = (rw (listed_front k f) at h).0
each_at P (suc k) f h (suc p) l = each_at P k (λ i. f (suc i)) (rw (listed_front k f) at h).1 p (omega arith)

pub waits_at_place : (v k : ℕ) (f : ℕ → Entry) → Waits v (listed k f) → (p : ℕ) × (p < k) × (v ≡ (f p).destination)
unfolding listed
waits_at_place v zero f m = absurd m
waits_at_place v (suc k) f m = go (rw (listed_front k f) at m) (waits_at_place v k (λ i. f (suc i)))
  where
    go : (v ≡ (f 0).destination) ⊎ Waits v (listed k (λ i. f (suc i)))
        → (Waits v (listed k (λ i. f (suc i))) → (p : ℕ) × (p < k) × (v ≡ (f (suc p)).destination))
        → (p : ℕ) × (p < suc k) × (v ≡ (f p).destination)
    go (inl e) more = (0, omega arith, e)
    go (inr m) more = let z = more m in (suc z.0, omega (arith, z.1), z.2)

pub at_waits : (v k : ℕ) (f : ℕ → Entry) (p : ℕ) → p < k → (f p).destination ≡ v → Waits v (listed k f)
at_waits v zero f p l e = absurd (omega arith)
at_waits v (suc k) f zero l e = rw (listed_front k f) (inl (sym e))
at_waits v (suc k) f (suc p) l e = rw (listed_front k f) (inr (at_waits v k (λ i. f (suc i)) p (omega arith) e))

pub differ_at : (k : ℕ) (f : ℕ → Entry) → Differ (listed k f) → (p : ℕ) → p < k → (q : ℕ) → q < p → (f q).destination ≢ (f p).destination
differ_at zero f d p l q m e = omega arith
differ_at (suc k) f d zero l q m e = omega arith
differ_at (suc k) f d (suc p) l zero m e = (rw (listed_front k f) at d).0 (at_waits (f 0).destination k (λ i. f (suc i)) p (omega arith) (sym e))
differ_at (suc k) f d (suc p) l (suc q) m e = differ_at k (λ i. f (suc i)) (rw (listed_front k f) at d).1 p (omega arith) q (omega arith) e

pub at_differ : (k : ℕ) (f : ℕ → Entry) → ((p : ℕ) → p < k → (q : ℕ) → q < p → (f q).destination ≢ (f p).destination) → Differ (listed k f)
unfolding listed
at_differ zero f h = tt
at_differ (suc k) f h =
    rw (listed_front k f) (
      (λ m. let z = waits_at_place (f 0).destination k (λ i. f (suc i)) m in h (suc z.0) (omega (arith, z.1)) 0 (omega arith) z.2),
      at_differ k (λ i. f (suc i)) (λ p l q m e. h (suc p) (omega arith) (suc q) (omega arith) e),
    )
