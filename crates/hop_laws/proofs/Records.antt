-- Reading an event's record undoes writing it, and on bytes writing undoes reading: both say that the words from a place on are the record's. Assumes nothing.
use mathlib.Core.Path.{◌≡◌, refl, sym, ap, subst₂, ◌∙◌}
use mathlib.Core.Logic.{inl, inr}
use mathlib.Core.Bool.{Bool, true, false, not, cond}
use Rattle.std.specs.Prelude.{Some, None, Ok, Err}
use mathlib.Core.List.{List, [], ◌∷◌, ◌++◌}
use Prim.Native.Nat.{ℕ, zero, suc, ◌+◌, ◌*◌, ◌-◌, ◌/◌, ◌%◌, ◌≤◌, ◌<◌}
use native.Mathlib.Decide.{dec_lt}
use native.Mathlib.Numerals.{add-one, add-two}
use native.Mathlib.Omega.{arith}
use lib.Dec.{eqb, ltb}
use lib.ListN.{length, get_or, take, drop, length-append, get_or-eq_default}
use lib.Seq.{drop-cons, take_at, get_or-append-add}
use borrow.Author.Tests.{ltb-false, eqb-true, not-false, le-ltb, eq-eqb, ne_eqb}
use Rattle.hop_rule.specs.declared.Event.{Event}
use Rattle.hop_rule.specs.declared.Event.TheVariants.{Make, Up, Down, Deliver, Pass, Notice}
use Rattle.hop_rule.specs.declared.Refused.{Refused}
use Rattle.hop_rule.specs.declared.Refused.TheVariants.{CutShort, UnknownKind, WrongLength}
use Rattle.hop_rule.specs.State.{State}
use Rattle.hop_rule.specs.Records.{words, word_at, record_of, kind_of, body_of, event_record, status_record, known, length_of, event_of, event_at, Reading, read_event}
use Rattle.hop_laws.proofs.Tests.{tells_eq, tells_or}

pub length_status : (s : State) (u : ℕ) → length (status_record s u) ≡ 14
unfolding status_record record_of words
length_status s u = refl

pub length_words : (xs : List ℕ) → length (words xs) ≡ 2 * length xs
unfolding words
length_words [] = refl
length_words (x ∷ xs) = omega (arith, length_words xs)

-- ---- the words from a place on

abbrev words_at : List ℕ → ℕ → ℕ → List ℕ
words_at s p zero = []
words_at s p (suc k) = word_at s p ∷ words_at s (p + 2) k

length_words_at : (s : List ℕ) (p k : ℕ) → length (words_at s p k) ≡ k
length_words_at s p zero = refl
length_words_at s p (suc k) = ap suc (length_words_at s (p + 2) k)

word_at_behind : (before s : List ℕ) (p : ℕ) → word_at (before ++ s) (length before + p) ≡ word_at s p
unfolding word_at
word_at_behind before s p =
    let z : length before + p + 1 ≡ length before + (p + 1) = omega arith in
    rw (z, get_or-append-add before s p 0, get_or-append-add before s (p + 1) 0)

words_at_behind : (before s : List ℕ) (p k : ℕ) → words_at (before ++ s) (length before + p) k ≡ words_at s p k
words_at_behind before s p zero = refl
words_at_behind before s p (suc k) =
    let z : length before + p + 2 ≡ length before + (p + 2) = omega arith in
    rw (word_at_behind before s p, z, words_at_behind before s (p + 2) k)

-- Words that are written there are the words from there on.
words_at_words : (xs after : List ℕ) → words_at (words xs ++ after) 0 (length xs) ≡ xs
unfolding words word_at
words_at_words [] after = refl
words_at_words (x ∷ xs) after =
    let z : x % 256 + 256 * (x / 256) ≡ x = omega arith in
    rw (z, words_at_behind ((x % 256) ∷ (x / 256) ∷ []) (words xs ++ after) 0 (length xs), words_at_words xs after)

-- And where bytes are bytes, the words from there on are what is written there.
module _ (s : List ℕ) (bytes : (i : ℕ) → i < length s → get_or s i 0 < 256) where
  -- Past the end there is 0.
  byte : (i : ℕ) → get_or s i 0 < 256
  byte i = go (dec_lt i (length s))
    where
      go : Dec (i < length s) → get_or s i 0 < 256
      go (yes l) = bytes i l
      go (no l) = rw (get_or-eq_default s 0 {n = i} (omega arith)) (omega arith)

  drop_words : (k p : ℕ) → p + 2 * k ≤ length s → drop p s ≡ words (words_at s p k) ++ drop (p + 2 * k) s
  unfolding words word_at
  drop_words zero p l =
      let z : p + 2 * 0 ≡ p = omega arith in
      rw z
  drop_words (suc k) p l =
      let low = byte p in
      let a : (get_or s p 0 + 256 * get_or s (p + 1) 0) % 256 ≡ get_or s p 0 = omega arith in
      let b : (get_or s p 0 + 256 * get_or s (p + 1) 0) / 256 ≡ get_or s (p + 1) 0 = omega arith in
      let z : p + 2 * suc k ≡ p + 2 + 2 * k = omega arith in
      rw (a, b, z, ← drop_words k (p + 2) (omega arith), add-one, add-two) (drop-cons s p 0 (omega arith) ∙ ap (λ r. get_or s p 0 ∷ r) (drop-cons s (suc p) 0 (omega arith)))

  words_at_below : (k p i : ℕ) → get_or (words_at s p k) i 0 < 65536
  unfolding word_at
  words_at_below zero p i = omega arith
  words_at_below (suc k) p zero = omega (arith, byte p, byte (p + 1))
  words_at_below (suc k) p (suc i) = words_at_below k (p + 2) i

-- ---- what reading finds

-- The numbers of an event's record.
abbrev numbers : Event → List ℕ
numbers e = (2 + 2 * length (body_of e)) ∷ kind_of e ∷ body_of e

-- A known kind is the kind of an event; and the event of that kind at a place has it, with the words from there on as its body.
pub known_kind : (kind : ℕ) → known kind ≡ true → (e : Event) × (kind_of e ≡ kind)
unfolding known kind_of
known_kind kind k =
    elim ((tells_or (tells_eq kind 15) (tells_or (tells_eq kind 16) (tells_or (tells_eq kind 17) (tells_or (tells_eq kind 18) (tells_or (tells_eq kind 19) (tells_eq kind 20)))))).shows k) [
      | inl z ↦ (Make 0, sym z)
      | inr (inl z) ↦ (Up 0 0, sym z)
      | inr (inr (inl z)) ↦ (Down 0 0, sym z)
      | inr (inr (inr (inl z))) ↦ (Deliver 0 0, sym z)
      | inr (inr (inr (inr (inl z)))) ↦ (Pass, sym z)
      | inr (inr (inr (inr (inr z)))) ↦ (Notice 0 0, sym z)
    ]

module _ (e : Event) where
  pub kind_small : kind_of e < 100
  unfolding kind_of
  kind_small = elim e as (λ e. kind_of e < 100) [ Make n ↦ omega arith | Up a b ↦ omega arith | Down a b ↦ omega arith | Deliver w u ↦ omega arith | Pass ↦ omega arith | Notice a b ↦ omega arith ]

  known_event : known (kind_of e) ≡ true
  unfolding known kind_of
  known_event = elim e as (λ e. known (kind_of e) ≡ true) [ Make n ↦ refl | Up a b ↦ refl | Down a b ↦ refl | Deliver w u ↦ refl | Pass ↦ refl | Notice a b ↦ refl ]

  pub length_event : length_of (kind_of e) ≡ 2 + 2 * length (body_of e)
  unfolding length_of kind_of body_of
  length_event = elim e as (λ e. length_of (kind_of e) ≡ 2 + 2 * length (body_of e)) [ Make n ↦ refl | Up a b ↦ refl | Down a b ↦ refl | Deliver w u ↦ refl | Pass ↦ refl | Notice a b ↦ refl ]

  kind_event_at : (s : List ℕ) (p : ℕ) → kind_of (event_at (kind_of e) s p) ≡ kind_of e
  unfolding event_of kind_of
  kind_event_at s p = elim e as (λ e. kind_of (event_at (kind_of e) s p) ≡ kind_of e) [ Make n ↦ refl | Up a b ↦ refl | Down a b ↦ refl | Deliver w u ↦ refl | Pass ↦ refl | Notice a b ↦ refl ]

  body_event_at : (s : List ℕ) (p : ℕ) → body_of (event_at (kind_of e) s p) ≡ words_at s p (length (body_of e))
  unfolding event_of kind_of body_of
  body_event_at s p = elim e as (λ e. body_of (event_at (kind_of e) s p) ≡ words_at s p (length (body_of e))) [ Make n ↦ refl | Up a b ↦ refl | Down a b ↦ refl | Deliver w u ↦ refl | Pass ↦ refl | Notice a b ↦ refl ]

event_at_body : (e : Event) (s : List ℕ) (p : ℕ) → words_at s p (length (body_of e)) ≡ body_of e → event_at (kind_of e) s p ≡ e
unfolding event_of kind_of body_of
event_at_body (Make n) s p h = cc
event_at_body (Up a b) s p h = cc
event_at_body (Down a b) s p h = cc
event_at_body (Deliver w u) s p h = cc
event_at_body Pass s p h = refl
event_at_body (Notice a b) s p h = cc

length_record : (e : Event) → length (event_record e) ≡ 4 + 2 * length (body_of e)
unfolding event_record record_of
length_record e = omega (arith, length_words (numbers e))

-- What it is that reading at p finds e, with q behind it.
record Reads (s : List ℕ) (p : ℕ) (e : Event) (q : ℕ) : Type 0 where
  here : words_at s p (length (numbers e)) ≡ numbers e
  next : q ≡ p + length (event_record e)
  fits : q ≤ length s

reads_found : {s : List ℕ} {p : ℕ} {e : Event} {q : ℕ} → Reads s p e q → read_event s p ≡ Ok (Some (e, q))
unfolding read_event
reads_found {s} {p} {e} {q} h =
    let long : word_at s p ≡ length_of (kind_of e) = cc (h.here, length_event e) in
    let kind : word_at s (p + 2) ≡ kind_of e = cc h.here in
    let z : p + 4 ≡ p + 2 + 2 = omega arith in
    let body : words_at s (p + 4) (length (body_of e)) ≡ body_of e = rw z (cc h.here) in
    let next : p + 2 + length_of (kind_of e) ≡ q = omega (arith, length_event e, length_record e) in
    rw (
      le-ltb (length s) p (omega (arith, length_record e)),
      ne_eqb (length s) p (λ z. omega (arith, length_record e)),
      le-ltb (length s) (p + 4) (omega (arith, length_record e)),
      kind,
      known_event e,
      long,
      eq-eqb (length_of (kind_of e)) (length_of (kind_of e)) refl,
      next,
      le-ltb (length s) q h.fits,
      event_at_body e s (p + 4) body,
    )

-- The event of a known kind, in a record of its kind's length.
event_at_reads : (s : List ℕ) (p : ℕ) (k : Event) → kind_of k ≡ word_at s (p + 2) → word_at s p ≡ length_of (kind_of k) → p + 2 + word_at s p ≤ length s
    → Reads s p (event_at (kind_of k) s (p + 4)) (p + 2 + word_at s p)
event_at_reads s p k kind long fits =
    let body = body_event_at k s (p + 4) in
    let size = ap length body ∙ length_words_at s (p + 4) (length (body_of k)) in
    let z : p + 2 + 2 ≡ p + 4 = omega arith in
    let first : word_at s p ≡ 2 + 2 * length (body_of (event_at (kind_of k) s (p + 4))) = omega (arith, length_event k) in
    record {
      here = cc (first, kind, kind_event_at k s (p + 4), size, body, z);
      next = omega (arith, length_record (event_at (kind_of k) s (p + 4)));
      fits = fits;
    }

-- What is found was not refused, and is not the end.
module _ {e : Event} {q : ℕ} where
  not_refused : (r : Refused) → ◌≡◌ {A = Reading} (Err r) (Ok (Some (e, q))) → ⊥
  not_refused r h = let z : ◌≡◌ {A = ℕ} 0 1 = cc in omega arith

  not_end : ◌≡◌ {A = Reading} (Ok None) (Ok (Some (e, q))) → ⊥
  not_end h = let z : ◌≡◌ {A = ℕ} 0 1 = cc in omega arith

  found_else : (b : Bool) (x y : Reading) → (x ≡ Ok (Some (e, q)) → ⊥) → cond b x y ≡ Ok (Some (e, q)) → (b ≡ false) × (y ≡ Ok (Some (e, q)))
  found_else true x y f h = absurd (f h)
  found_else false x y f h = (refl, h)

found_reads : (s : List ℕ) (p : ℕ) {e : Event} {q : ℕ} → read_event s p ≡ Ok (Some (e, q)) → Reads s p e q
unfolding read_event
found_reads s p {e} {q} h =
    let (inside, h₁) = found_else (ltb (length s) p) _ _ (not_refused CutShort) h in
    let (some, h₂) = found_else (eqb (length s) p) _ _ not_end h₁ in
    let (four, h₃) = found_else (ltb (length s) (p + 4)) _ _ (not_refused CutShort) h₂ in
    let (kind, h₄) = found_else (not (known (word_at s (p + 2)))) _ _ (not_refused UnknownKind) h₃ in
    let (long, h₅) = found_else (not (eqb (word_at s p) (length_of (word_at s (p + 2))))) _ _ (not_refused WrongLength) h₄ in
    let (whole, h₆) = found_else (ltb (length s) (p + 2 + word_at s p)) _ _ (not_refused CutShort) h₅ in
    let (k, z) = known_kind (word_at s (p + 2)) (not-false _ kind) in
    let both : ◌≡◌ {A = Event × ℕ} (event_at (word_at s (p + 2)) s (p + 4), p + 2 + word_at s p) (e, q) = cc in
    let event : event_at (kind_of k) s (p + 4) ≡ e = cc (ap (λ x. x.0) both) in
    let next : p + 2 + word_at s p ≡ q = ap (λ x. x.1) both in
    subst₂ (Reads s p) event next (event_at_reads s p k z (rw z (eqb-true _ _ (not-false _ long))) (ltb-false (length s) (p + 2 + word_at s p) whole))

-- ---- the two laws

-- Whatever the event's numbers are: nothing is cut off in writing.
pub read_written : (e : Event) (before after : List ℕ) → read_event (before ++ (event_record e ++ after)) (length before) ≡ Ok (Some (e, length before + length (event_record e)))
unfolding event_record record_of
read_written e before after =
    let r : List ℕ = event_record e ++ after in
    let k : ℕ = length (numbers e) in
    let z : length before ≡ length before + 0 = omega arith in
    reads_found (record {
      here = ap (λ p. words_at (before ++ r) p k) z ∙ words_at_behind before r 0 k ∙ words_at_words (numbers e) after;
      next = refl;
      fits = omega (arith, length-append before (event_record e ++ after), length-append (event_record e) after);
    })

module _ (s : List ℕ) (p : ℕ) {e : Event} {q : ℕ} (found : read_event s p ≡ Ok (Some (e, q))) where
  pub found_place : (p + 4 ≤ q) × (q ≤ length s)
  found_place = let h = found_reads s p found in (omega (arith, h.next, length_record e), h.fits)

  module _ (bytes : (i : ℕ) → i < length s → get_or s i 0 < 256) where
    pub written_read : take (q - p) (drop p s) ≡ event_record e
    unfolding event_record record_of
    written_read =
        let h = found_reads s p found in
        let long = length_words (numbers e) in
        rw (drop_words s bytes (length (numbers e)) p (omega arith), h.here) (take_at (words (numbers e)) _ (q - p) (omega arith))

    pub found_numbers : (i : ℕ) → get_or (body_of e) i 0 < 65536
    found_numbers i =
        let h = found_reads s p found in
        let body : words_at s (p + 2 + 2) (length (body_of e)) ≡ body_of e = cc h.here in
        rw (← body) (words_at_below s bytes (length (body_of e)) (p + 2 + 2) i)
