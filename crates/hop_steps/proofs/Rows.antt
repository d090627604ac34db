-- The rows in which the best of all destinations are found side by side: a place is looked at and the others stay. Assumes nothing.
use Rattle.std.specs.Prelude.{if◌then◌else◌}
use mathlib.Core.Path.{◌≡◌, refl}
use mathlib.Core.Bool.{true, false}
use mathlib.Core.List.{List}
use Prim.Native.Nat.{ℕ, ◌+◌, ◌<◌, ◌≤◌}
use native.Mathlib.Nat.{le_refl}
use native.Mathlib.Decide.{dec_lt}
use native.Mathlib.Omega.{arith}
use lib.Dec.{ltb}
use lib.ListN.{length, get_or}
use lib.Seq.{get_or-set_same, get_or-set_other}
use borrow.Author.Count.{below_more}
use borrow.Author.Tests.{lt-ltb, le-ltb}
use Rattle.hop_rule.specs.declared.Table.TheVariants.{Views}
use Rattle.hop_cells.specs.Cells.{get3}
use Rattle.hop_cells.specs.declared.Way.{Way}
use Rattle.hop_steps.specs.Steps.{up, nearer, choose, lesser, giver, Looked}

-- One view beside the least so far: as the two bytes go by it, and as `nearer` does.
module _ (d c w x : ℕ) where
  abbrev Chosen : Type 0
  Chosen =
      (◌≡◌ {A = Way} (record { distance = choose d c d c + 1; downstream = choose d c w x }) (if ltb (d + 1) (c + 1) then record { distance = d + 1; downstream = w } else record { distance = c + 1; downstream = x }))
      × (choose d c d c ≤ c)

  chosen : Chosen
  chosen = go (dec_lt d c)
    where
      go : Dec (d < c) → Chosen
      go (yes l) = rw (lt-ltb d c l, lt-ltb (d + 1) (c + 1) (omega arith)) (refl, omega arith)
      go (no l) = rw (le-ltb d c (omega arith), le-ltb (d + 1) (c + 1) (omega arith)) (refl, omega arith)

module _ (n u w : ℕ) (s views₀ from₀ : List ℕ) where
  -- The places below v are looked at, and the others stay.
  abbrev pub Row : List ℕ → List ℕ → ℕ → Type 0
  Row views from v = ((k : ℕ) → k < v → Looked n u w s views₀ from₀ views from k) × ((k : ℕ) → v ≤ k → (get_or views k 0 ≡ get_or views₀ k 0) × (get_or from k 0 ≡ get_or from₀ k 0))

  -- A link that is down leaves the rows as they are.
  pub row_left : up n u w s ≡ false → (v : ℕ) → Looked n u w s views₀ from₀ views₀ from₀ v
  unfolding nearer
  row_left h v = (rw h, le_refl _)

  pub row_turn : (views from : List ℕ) (v : ℕ) {views' from' : List ℕ} → up n u w s ≡ true → v < length views → v < length from → Row views from v
      → views' ≡ lesser n u w v s views → from' ≡ giver n u w v s views from → Row views' from' (v + 1)
  unfolding nearer
  row_turn views from v h lv lf r e f =
      let d = get3 n Views u w v s in
      let here = get_or-set_same views v (choose d (get_or views v 0) d (get_or views v 0)) 0 lv in
      let there = get_or-set_same from v (choose d (get_or views v 0) w (get_or from v 0)) 0 lf in
      let now : Looked n u w s views₀ from₀ (lesser n u w v s views) (giver n u w v s views from) v =
      rw (here, there, h, (r.1 v (omega arith)).0, (r.1 v (omega arith)).1) (chosen d (get_or views₀ v 0) w (get_or from₀ v 0)) in
      rw (e, f) (
        below_more _ _ (λ k l. rw (get_or-set_other views v k _ 0 (omega arith), get_or-set_other from v k _ 0 (omega arith)) (r.0 k l)) now,
        λ k l. rw (get_or-set_other views v k _ 0 (omega arith), get_or-set_other from v k _ 0 (omega arith)) (r.1 k (omega arith)),
      )
