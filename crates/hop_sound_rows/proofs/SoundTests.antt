-- What each test of the check tells of the numbers that its rows read as. Assumes nothing.
use mathlib.Core.Path.{◌≡◌, refl, sym, ◌∙◌}
use mathlib.Core.Logic.{◌≢◌}
use mathlib.Core.Bool.{Bool, true, false, cond}
use mathlib.Core.List.{List}
use Prim.Native.Nat.{ℕ, suc, ◌-◌, max, ◌≤◌, ◌<◌}
use native.Mathlib.Decide.{ℕ_discrete, dec_lt}
use native.Mathlib.Omega.{arith}
use lib.Bits.{bit_xor}
use lib.Dec.{eqb, leb}
use Rattle.hop_laws.proofs.Tests.{Tells, tells_as, tells_same, tells_not_so, tells_eq, tells_le, tells_lt, tells_not, tells_and, tells_every}
use Rattle.hop_seen.proofs.Faults.{xor_none}
use Rattle.hop_rows.specs.Rows.{IsRow, byte}
use Rattle.hop_rows.proofs.Every.{every_as}
use Rattle.hop_rows.proofs.RowTests.{Reads}
use Rattle.hop_sound_rows.specs.SoundRows.{least_view, all_allow, rows_allow, told, all_told}
use Rattle.hop_sound_rows.proofs.ToldRows.{told_as, told_there, told_else, told_is}

-- A view x from w allows distance d by way of h: it gives no less than d, and if it gives d, which is not n, then h is not past w.
abbrev pub Allows : ℕ → ℕ → ℕ → ℕ → ℕ → Type 0
Allows n w x d h = (d ≤ suc x) × (suc x ≡ d → d ≢ n → h ≤ w)

tells_allows : (n w x d h : ℕ) → Tells (leb (least_view n w d h) x) (Allows n w x d h)
unfolding least_view
tells_allows n w x d h = go (tells_and (tells_lt w h) (tells_not (tells_eq d n))) (ℕ_discrete (suc x) d) (dec_lt w h)
  where
    go : {b : Bool} → Tells b ((w < h) × (d ≢ n)) → Dec (suc x ≡ d) → Dec (w < h) → Tells (leb (cond b d (d - 1)) x) (Allows n w x d h)
    go {b = true} t (yes e) k = tells_as (λ l. absurd (omega arith)) (λ a. absurd (omega (arith, (t.shows refl).0, a.1 e (t.shows refl).1))) (tells_le d x)
    go {b = true} t (no f) k = tells_as (λ l. (omega arith, λ e. absurd (f e))) (λ a. omega (arith, a.0)) (tells_le d x)
    go {b = false} t c (yes l) = tells_as (λ m. (omega arith, λ e f. absurd (tells_not_so t refl (l, f)))) (λ a. omega (arith, a.0)) (tells_le (d - 1) x)
    go {b = false} t c (no l) = tells_as (λ m. (omega arith, λ e f. omega arith)) (λ a. omega (arith, a.0)) (tells_le (d - 1) x)

-- Where the greater of a view and the least one is the view, no bit is left.
pub short_none : (x z : ℕ) → eqb (bit_xor x (max x z)) 0 ≡ leb z x
short_none x z = xor_none x _ ∙ tells_same (tells_as (λ i. omega (arith, i)) (λ l. omega (arith, l)) (tells_eq x (max x z))) (tells_le z x)

-- Rows allow as the buffer does at their places.
pub allow_here : {s : List ℕ} {n views distances downstreams : ℕ} {x d h : List ℕ} (w : ℕ) → IsRow s views n x → IsRow s distances n d → IsRow s downstreams n h → rows_allow n w x d h ≡ all_allow s n w views distances downstreams
unfolding rows_allow all_allow
allow_here w hx hd hh = every_as _ (λ v l. rw (hx.bytes v l, hd.bytes v l, hh.bytes v l))

module _ {s : List ℕ} {distances : ℕ} {d : ℕ → ℕ} (rd : Reads s distances d) where
  pub tells_allow : {views downstreams : ℕ} {x h : ℕ → ℕ} → Reads s views x → Reads s downstreams h
      → (n w : ℕ) → Tells (all_allow s n w views distances downstreams) ((v : ℕ) → v < n → Allows n w (x v) (d v) (h v))
  unfolding all_allow
  tells_allow rx rh n w = tells_every n (λ v l. rw (rd.reads v, rx.reads v, rh.reads v) (tells_allows n w _ (d v) _))

  pub tells_told : {views destinations values : ℕ} {x a b : ℕ → ℕ} → Reads s views x → Reads s destinations a → Reads s values b
      → (n k : ℕ) → ((p : ℕ) → p < k → a p < n) → ((p : ℕ) → p < k → (q : ℕ) → q < p → a q ≢ a p)
      → Tells (all_told s n views distances destinations values k) (((p : ℕ) → p < k → b p ≡ d (a p)) × ((v : ℕ) → v < n → ((p : ℕ) → p < k → a p ≢ v) → x v ≡ d v))
  unfolding all_told
  tells_told {views} {destinations} {values} {x} {a} {b} rx ra rb n k below differ = tells_as
      (λ h. ((λ p l. sym (told_there x a b k differ p l) ∙ h (a p) (below p l)), λ v l f. sym (told_else x a b k v f) ∙ h v l))
      (λ h v l. told_is x a b d k v h.0 (h.1 v l))
      (tells_every n (λ v l. rw (told_as (byte s views) x (byte s destinations) a (byte s values) b k v (rx.reads v) (λ i o. ra.reads i) (λ i o. rb.reads i), rd.reads v) (tells_eq (told x a b k v) (d v))))
