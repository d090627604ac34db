-- A part of a list is the row that starts where the part does, and so is a part of a row. Assumes nothing.
use mathlib.Core.Path.{◌≡◌, sym, ap, ◌∙◌}
use mathlib.Core.Logic.{◌⊎◌, inl, inr}
use mathlib.Core.List.{List, ◌∷◌}
use Prim.Native.Nat.{ℕ, suc, ◌+◌, ◌-◌, ◌≤◌, ◌<◌}
use native.Mathlib.Omega.{arith}
use lib.ListN.{length, get_or, take, drop}
use native.Mathlib.Numerals.{add-one}
use Rattle.std.proofs.Math.Seq.{drop-cons}
use Rattle.std.proofs.lemmas.List.{get_or-take, get_or-drop, length-take, length-drop}
use Rattle.hop_rows.specs.Rows.{IsRow, byte}

-- A byte by its place.
pub byte_is : (s : List ℕ) (at i j : ℕ) → at + i ≡ j → byte s at i ≡ get_or s j 0
byte_is s at i j e = ap (λ (i : ℕ). get_or s i 0) e

-- What a loop over a list reads.
pub byte_of : (r : List ℕ) (i : ℕ) → get_or r i 0 ≡ byte r 0 i
byte_of r i = ap (λ (j : ℕ). get_or r j 0) (omega arith)

pub is_part : {s : List ℕ} {at j k : ℕ} → at + k ≤ length s → j ≡ k → IsRow s at k (take j (drop at s))
is_part {s} {at} {j} {k} l e = rw e (record {
  long = simp (length-take, length-drop) (omega arith);
  bytes = λ i m. sym (byte_of (take k (drop at s)) i) ∙ get_or-take k (drop at s) i 0 m ∙ get_or-drop at s i 0;
})

module _ {s : List ℕ} {at k : ℕ} {r : List ℕ} (h : IsRow s at k r) where
  -- Its first m bytes, and those behind.
  pub row_front : {m : ℕ} → m ≤ k → IsRow s at m (take m r)
  row_front {m} l = record {
    long = simp (length-take) (omega (arith, h.long));
    bytes = λ i o. get_or-take m r (0 + i) 0 (omega arith) ∙ h.bytes i (omega arith);
  }

  pub row_rest : {m : ℕ} → m ≤ k → IsRow s (at + m) (k - m) (take (length r - m) (drop m r))
  row_rest {m} l = record {
    long = rest.long;
    bytes = λ i o. rest.bytes i o ∙ byte_is r m i (0 + (m + i)) (omega arith) ∙ h.bytes (m + i) (omega arith) ∙ byte_is s at (m + i) (at + m + i) (omega arith);
  }
    where
      rest : IsRow r m (k - m) (take (length r - m) (drop m r))
      rest = is_part (omega (arith, h.long)) (omega (arith, h.long))

-- Two rows of one length, of which an iterator has given the first k pairs: what it has still to give.
pub record Given (a b : List ℕ) (k : ℕ) (c d : List ℕ) : Type 0 where
  pub long : length b ≡ length a
  pub reached : k ≤ length a
  pub first : c ≡ drop k a
  pub second : d ≡ drop k b

pub given_none : (a b : List ℕ) {c d : List ℕ} → length b ≡ length a → c ≡ a → d ≡ b → Given a b 0 c d
given_none a b e f g = record { long = e; reached = omega arith; first = f; second = g }

-- The next pair,
pub record Next (a b : List ℕ) (k x y : ℕ) (c d : List ℕ) : Type 0 where
  pub first : x ≡ byte a 0 k
  pub second : y ≡ byte b 0 k
  pub within : k < length a
  pub given : Given a b (k + 1) c d

front : (a : List ℕ) (k : ℕ) {x : ℕ} {c : List ℕ} → drop k a ≡ x ∷ c → (x ≡ byte a 0 k) × (c ≡ drop (k + 1) a) × (k < length a)
front a k {x} {c} e =
    let within : k < length a = omega (arith, length-drop k a, ap length e) in
    let cons : drop k a ≡ get_or a k 0 ∷ drop (suc k) a = drop-cons a k 0 within in
    let now : x ≡ get_or a k 0 = cc in
    let later : c ≡ drop (suc k) a = cc in
    (now ∙ byte_of a k, rw (add-one k) later, within)

pub given_next : {a b : List ℕ} {k x y : ℕ} {c d e f : List ℕ} → Given a b k c d → (c ≡ x ∷ e) × (d ≡ y ∷ f) → Next a b k x y e f
given_next {a} {b} {k} g s =
    let p = front a k (sym g.first ∙ s.0) in
    let q = front b k (sym g.second ∙ s.1) in
    record { first = p.0; second = q.0; within = p.2; given = record { long = g.long; reached = omega (arith, p.2); first = p.1; second = q.1 } }

-- and the end.
pub given_all : {a b : List ℕ} {k : ℕ} {c d : List ℕ} → Given a b k c d → (length c ≡ 0) ⊎ (length d ≡ 0) → k ≡ length a
given_all {a} {b} {k} g (inl e) = omega (arith, g.reached, e, ap length g.first, length-drop k a)
given_all {a} {b} {k} g (inr e) = omega (arith, g.reached, g.long, e, ap length g.second, length-drop k b)
