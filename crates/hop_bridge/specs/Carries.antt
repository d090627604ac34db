-- Bytes carry a state of n nodes and then the bytes r, the state being in order. Order is less than soundness: it also holds in the middle of an event, and it is all that the code relies on there. Used by every law of this crate.
use Rattle.std.specs.Prelude.{◌≡◌, List, ℕ, ◌<◌, drop}
use Rattle.hop_rule.specs.declared.Table.{Table}
use Rattle.hop_rule.specs.State.{State, Entry}
use Rattle.hop_rule.specs.Stored.{size, nodes}
use Rattle.hop_rule.specs.Sound.{Differ, Each, Sound}
use Rattle.hop_laws.specs.Holds.{Flat, Deep, flat_of, deep_of}
use Rattle.hop_cells.specs.Cells.{Room, get2, get3}

-- What stands in the cells of the blocks of n² bytes, and of those of n³.
abbrev pub Flats : Type 0
Flats = Table → ℕ → ℕ → ℕ

abbrev pub Deeps : Type 0
Deeps = Table → ℕ → ℕ → ℕ → ℕ

-- What stands in the cells below n of a buffer: F in the blocks of n² bytes, D in those of n³, and r behind them. Unlike a state, F and D can say what stands there in the middle of a move.
pub record Filled (n : ℕ) (r s : List ℕ) (F : Flats) (D : Deeps) : Type 0 where
  pub room : Room n s
  pub head : nodes s ≡ n
  pub tail : drop (size n) s ≡ r
  pub flats : (k : Table) → Flat k → (a b : ℕ) → a < n → b < n → get2 n k a b s ≡ F k a b
  pub deeps : (k : Table) → Deep k → (a b c : ℕ) → a < n → b < n → c < n → get3 n k a b c s ≡ D k a b c

-- A queue in which the destinations differ and are below n.
pub record Tidy (n : ℕ) (q : List Entry) : Type 0 where
  pub differ : Differ q
  pub below : Each (λ e. e.destination < n) q

-- A state of n nodes in which every node has itself at distance 0 and downstream itself, and every queue is tidy.
pub record Orderly (n : ℕ) (t : State) : Type 0 where
  pub count : t.n ≡ n
  pub own_distance : (u : ℕ) → u < n → t.distance u u ≡ 0
  pub own_downstream : (u : ℕ) → u < n → t.downstream u u ≡ u
  pub tidy : (w u : ℕ) → w < n → u < n → Tidy n (t.queue w u)

pub record Carries (n : ℕ) (r s : List ℕ) (t : State) : Type 0 where
  pub orderly : Orderly n t
  pub filled : Filled n r s (flat_of t) (deep_of t)

-- A sound state is carried, as it is between events: a delivery relies on it.
pub record CarriesSound (n : ℕ) (r s : List ℕ) (t : State) : Type 0 where
  pub carries : Carries n r s t
  pub sound : Sound t
