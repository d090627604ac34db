-- Laws of walks: how one begins and ends, that they can be put together and turned round, that a pair has one hop count, and that whatever falls by at most one at each link is below n where a walk leads. Assumes nothing.
use mathlib.Core.Path.{◌≡◌, refl, sym, subst, ◌∙◌}
use mathlib.Core.Logic.{◌⊎◌, inl, inr, ◌≢◌}
use Prim.Native.Nat.{ℕ, suc, ◌≤◌, ◌<◌}
use native.Mathlib.Decide.{ℕ_discrete, dec_lt}
use native.Mathlib.Omega.{arith}
use lib.Dec.{ltb}
use Rattle.hop_rule.specs.State.{State}
use Rattle.hop_rule.specs.Sound.{Sends}
use Rattle.hop_laws.proofs.Tests.{Tells, tells_as, tells_lt}
use Rattle.hop_laws.proofs.Queues.{cover_most}
use Rattle.hop_rest.specs.Walks.{Walk, here, hop, HopCount, joined, apart}

-- A walk stays, or begins with a link.
pub record Begins (s : State) (u v d : ℕ) : Type 0 where
  pub next : ℕ
  pub left : ℕ
  pub below : next < s.n
  pub linked : Sends s u next
  pub walk : Walk s next v left
  pub one_more : d ≡ suc left

pub walk_begins : {s : State} {u v d : ℕ} → Walk s u v d → (u ≡ v) ⊎ Begins s u v d
walk_begins here = inl refl
walk_begins (hop {w = w} {d = d} lu lw q p) = inr (record { next = w; left = d; below = lw; linked = q; walk = p; one_more = refl })

-- From a node it ends at a node.
pub walk_below : {s : State} {u v d : ℕ} → Walk s u v d → u < s.n → v < s.n
walk_below here lu = lu
walk_below (hop l lw q p) lu = walk_below p lw

-- Some walk leads from u to v. Walks can be put together, and turned round.
abbrev pub Reaches : State → ℕ → ℕ → Type 0
Reaches s u v = (d : ℕ) × Walk s u v d

pub reaches_on : {s : State} {u w v d : ℕ} → Walk s u w d → Reaches s w v → Reaches s u v
reaches_on here r = r
reaches_on (hop lu lw q p) r = let (e, k) = reaches_on p r in (suc e, hop lu lw q k)

pub reaches_back : {s : State} {u v d : ℕ} → Walk s u v d → Reaches s v u
reaches_back here = (0, here)
reaches_back (hop lu lw q p) = let (e, k) = reaches_back p in reaches_on k (1, hop lw lu (q.1, q.0) here)

-- A pair has one hop count.
pub hop_count_same : {s : State} {u v d e : ℕ} → HopCount s u v d → HopCount s u v e → d ≡ e
hop_count_same {d = d} {e = e} (joined b p l) (joined b' p' l') = omega (arith, l e p', l' d p)
hop_count_same {d = d} (joined b p l) (apart i f) = absurd (f d p)
hop_count_same {e = e} (apart i f) (joined b p l) = absurd (f e p)
hop_count_same (apart i f) (apart j g) = i ∙ sym j

-- With a link two nodes are at most one hop apart; without one, two that differ are further.
pub hop_count_linked : {s : State} {u v d : ℕ} → u < s.n → v < s.n → Sends s u v → HopCount s u v d → d ≤ 1
hop_count_linked lu lv q (joined b p l) = l 1 (hop lu lv q here)
hop_count_linked lu lv q (apart i f) = absurd (f 1 (hop lu lv q here))

pub hop_count_unlinked : {s : State} {u v d : ℕ} → 1 < s.n → u ≢ v → (Sends s u v → ⊥) → HopCount s u v d → 1 < d
hop_count_unlinked l f g (apart i h) = omega arith
hop_count_unlinked {s} {u} {v} {d} l f g (joined b p m) = first (walk_begins p)
  where
    second : (r : Begins s u v d) → (r.next ≡ v) ⊎ Begins s r.next v r.left → 1 < d
    second r (inl e) = absurd (g (subst (Sends s u) e r.linked))
    second r (inr k) = omega (arith, r.one_more, k.one_more)

    first : (u ≡ v) ⊎ Begins s u v d → 1 < d
    first (inl e) = absurd (f e)
    first (inr r) = second r (walk_begins r.walk)

-- A hop count is below n exactly where a walk joins the two.
pub hop_count_tells : {s : State} {u v d : ℕ} → HopCount s u v d → Tells (ltb d s.n) (Reaches s u v)
hop_count_tells {s} {d = d} (joined b p l) = tells_as (λ k. (d, p)) (λ w. b) (tells_lt d s.n)
hop_count_tells {s} {d = d} (apart i f) = tells_as (λ k. absurd (omega arith)) (λ w. absurd (f w.0 w.1)) (tells_lt d s.n)

-- Levels: 0 at v, and at most one more over each link.
module _ (s : State) (v : ℕ) (lv : v < s.n) (level : ℕ → ℕ) (ends : level v ≡ 0) (falls : (x y : ℕ) → x < s.n → y < s.n → Sends s x y → level x ≤ suc (level y)) where
  -- A walk to v meets every level up to its first,
  met : {u d : ℕ} → Walk s u v d → (j : ℕ) → j ≤ level u → (x : ℕ) × (x < s.n) × (level x ≡ j)
  met here j l = (v, lv, omega arith)
  met (hop {u = u} {w = w} lu lw q p) j l = go (ℕ_discrete j (level u)) (λ k. met p j k)
    where
      go : Dec (j ≡ level u) → (j ≤ level w → (x : ℕ) × (x < s.n) × (level x ≡ j)) → (x : ℕ) × (x < s.n) × (level x ≡ j)
      go (yes e) h = (u, lu, sym e)
      go (no f) h = h (omega (arith, falls u w lu lw q))

  -- so that this is below n: there are no n + 1 nodes.
  pub walk_level : {u d : ℕ} → Walk s u v d → level u < s.n
  walk_level {u} p = go (dec_lt (level u) s.n)
    where
      go : Dec (level u < s.n) → level u < s.n
      go (yes l) = l
      go (no f) = absurd (omega (arith, cover_most s.n (suc s.n) level (λ j l. met p j (omega arith))))
