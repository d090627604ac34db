-- What each test on a row tells of the numbers that the row reads as. Assumes nothing.
use mathlib.Core.Path.{◌≡◌, refl}
use mathlib.Core.List.{List}
use Prim.Native.Nat.{ℕ, ◌<◌}
use Rattle.hop_laws.proofs.Tests.{Tells, tells_eq, tells_lt, tells_not, tells_and, tells_every}
use Rattle.hop_rows.specs.Rows.{byte, all_are, both_are, all_below, none_is, same}

-- The row at a place reads as f.
pub record Reads (s : List ℕ) (at : ℕ) (f : ℕ → ℕ) : Type 0 where
  pub reads : (i : ℕ) → byte s at i ≡ f i

pub itself : (s : List ℕ) (at : ℕ) → Reads s at (byte s at)
itself s at = record { reads = λ i. refl }

module _ {s : List ℕ} {at : ℕ} {f : ℕ → ℕ} (r : Reads s at f) where
  pub tells_are : (k x : ℕ) → Tells (all_are s at k x) ((i : ℕ) → i < k → f i ≡ x)
  unfolding all_are
  tells_are k x = tells_every k (λ i l. rw (r.reads i) (tells_eq (f i) x))

  pub tells_both : {to : ℕ} {g : ℕ → ℕ} → Reads s to g → (k x : ℕ) → Tells (both_are s at to k x) ((i : ℕ) → i < k → (f i ≡ x) × (g i ≡ x))
  unfolding both_are
  tells_both q k x = tells_every k (λ i l. rw (r.reads i, q.reads i) (tells_and (tells_eq (f i) x) (tells_eq _ x)))

  pub tells_below : (k x : ℕ) → Tells (all_below s at k x) ((i : ℕ) → i < k → f i < x)
  unfolding all_below
  tells_below k x = tells_every k (λ i l. rw (r.reads i) (tells_lt (f i) x))

  pub tells_none : (k x : ℕ) → Tells (none_is s at k x) ((i : ℕ) → i < k → f i ≡ x → ⊥)
  unfolding none_is
  tells_none k x = tells_every k (λ i l. rw (r.reads i) (tells_not (tells_eq (f i) x)))

  pub tells_same_rows : {to : ℕ} {g : ℕ → ℕ} → Reads s to g → (k : ℕ) → Tells (same s at to k) ((i : ℕ) → i < k → f i ≡ g i)
  unfolding same
  tells_same_rows q k = tells_every k (λ i l. rw (r.reads i, q.reads i) (tells_eq (f i) _))
