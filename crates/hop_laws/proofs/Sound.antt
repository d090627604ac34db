-- The test of sound agrees with the statement, clause by clause. Assumes nothing.
use mathlib.Core.Path.{◌≡◌, refl, ap}
use mathlib.Core.Bool.{Bool, true, false, not, ◌&&◌, ◌||◌}
use mathlib.Core.List.{List, [], ◌∷◌}
use Prim.Native.Nat.{ℕ, ◌≤◌, ◌<◌}
use native.Mathlib.Omega.{arith}
use lib.Dec.{eqb, ltb}
use lib.ListN.{length}
use Rattle.hop_rule.specs.declared.Table.{Table}
use Rattle.hop_rule.specs.declared.Table.TheVariants.{Lengths, Destinations, Values}
use Rattle.hop_rule.specs.State.{State, Entry}
use Rattle.hop_rule.specs.Rule.{up, sends, distance_of, downstream_of}
use Rattle.hop_rule.specs.Stored.{flat, deep, read_as}
use Rattle.hop_rule.specs.Sound.{Linked, Sends, Waits, Differ, Each, Leads, Sound, SoundAs, waits, differ, each, leads, pairs, triples, is_sound, is_sound_as}
use Rattle.hop_laws.proofs.Tests.{Tells, tells_true, tells_never, tells_as, tells_eq, tells_le, tells_lt, tells_not, tells_and, tells_or, tells_gives, tells_else, tells_every}

-- ---- queues

pub tells_waits : (v : ℕ) (q : List Entry) → Tells (waits v q) (Waits v q)
unfolding waits
tells_waits v [] = tells_never
tells_waits v (e ∷ q) = tells_or (tells_eq v e.destination) (tells_waits v q)

pub tells_differ : (q : List Entry) → Tells (differ q) (Differ q)
unfolding differ
tells_differ [] = tells_true
tells_differ (e ∷ q) = tells_and (tells_not (tells_waits e.destination q)) (tells_differ q)

pub tells_each : {p : Entry → Bool} {P : Entry → Type 0} → ((e : Entry) → Tells (p e) (P e)) → (q : List Entry) → Tells (each p q) (Each P q)
unfolding each
tells_each t [] = tells_true
tells_each t (e ∷ q) = tells_and (t e) (tells_each t q)

pub tells_empty : {A : Type 0} (q : List A) → Tells (eqb (length q) 0) (q ≡ [])
tells_empty q = tells_as (empty q) (ap length) (tells_eq (length q) 0)
  where
    empty : {A : Type 0} (q : List A) → length q ≡ 0 → q ≡ []
    empty [] e = refl
    empty (x ∷ q) e = absurd (omega arith)

-- ---- all pairs of nodes, and all triples

pub tells_pairs : (n : ℕ) {p : ℕ → ℕ → Bool} {P : ℕ → ℕ → Type 0} → ((a b : ℕ) → Tells (p a b) (P a b)) → Tells (pairs n p) ((a b : ℕ) → a < n → b < n → P a b)
unfolding pairs
tells_pairs n t = tells_as (λ h a b la lb. h a la b lb) (λ h a la b lb. h a b la lb) (tells_every n (λ a la. tells_every n (λ b lb. t a b)))

pub tells_triples : (n : ℕ) {p : ℕ → ℕ → ℕ → Bool} {P : ℕ → ℕ → ℕ → Type 0} → ((a b c : ℕ) → Tells (p a b c) (P a b c))
    → Tells (triples n p) ((a b c : ℕ) → a < n → b < n → c < n → P a b c)
unfolding triples
tells_triples n t = tells_as (λ h a b c la lb lc. h a la b c lb lc) (λ h a la b c lb lc. h a b c la lb lc) (tells_every n (λ a la. tells_pairs n (t a)))

-- `not b || c || d` is 'b, where c does not hold, gives d'.
tells_unless : {b c d : Bool} {P Q R : Type 0} → Tells b P → Tells c Q → Tells d R → Tells (not b || c || d) (P → (Q → ⊥) → R)
tells_unless {b = true} t r k = tells_as (λ f p. f) (λ f. f (t.shows refl)) (tells_else r k)
tells_unless {b = false} t r k = tells_as (λ f p. absurd ((tells_not t).shows refl p)) (λ f. tt) tells_true

-- ---- sound

pub tells_up : (s : State) (u w : ℕ) → Tells (up s u w) (Linked s u w)
tells_up s u w = tells_eq (s.link u w) 1

pub tells_sends : (s : State) (w u : ℕ) → Tells (sends s w u) (Sends s w u)
tells_sends s w u = tells_and (tells_up s w u) (tells_up s u w)

pub tells_leads : (s : State) (u v : ℕ) → Tells (leads s u v) (Leads s u v)
tells_leads s u v = tells_eq (s.downstream u v) (downstream_of s u v (s.distance u v))

infixl 35 ◌also◌
abbrev ◌also◌ : {b c : Bool} {P Q : Type 0} → Tells b P → Tells c Q → Tells (b && c) (P × Q)
t also r = tells_and t r

pub sound_tells : (s : State) → Tells (is_sound s) (Sound s)
unfolding is_sound
sound_tells s = tells_as
    (λ h₁₁.
    let (h₁₀, heard) = h₁₁ in
    let (h₉, values) = h₁₀ in
    let (h₈, below) = h₉ in
    let (h₇, different) = h₈ in
    let (h₆, lengths) = h₇ in
    let (h₅, down_queues) = h₆ in
    let (h₄, down_views) = h₅ in
    let (h₃, views) = h₄ in
    let (h₂, downstreams) = h₃ in
    let (h₁, distances) = h₂ in
    let (bits, diagonal) = h₁ in
    record {
      bits = bits;
      diagonal = diagonal;
      distances = distances;
      downstreams = downstreams;
      views = views;
      down_views = down_views;
      down_queues = down_queues;
      lengths = lengths;
      differ = different;
      below = below;
      values = values;
      heard = heard;
    })
    (λ h. (((((((((((h.bits, h.diagonal), h.distances), h.downstreams), h.views), h.down_views), h.down_queues), h.lengths), h.differ), h.below), h.values), h.heard))
    (tells_pairs s.n (λ u w. tells_le (s.link u w) 1)
    also tells_every s.n (λ u l. tells_eq (s.link u u) 0)
    also tells_pairs s.n (λ u v. tells_eq (s.distance u v) (distance_of s u v))
    also tells_pairs s.n (tells_leads s)
    also tells_triples s.n (λ u w v. tells_le (s.view u w v) s.n)
    also tells_triples s.n (λ u w v. tells_else (tells_up s u w) (tells_eq (s.view u w v) s.n))
    also tells_pairs s.n (λ u w. tells_else (tells_sends s w u) (tells_empty (s.queue w u)))
    also tells_pairs s.n (λ u w. tells_le (length (s.queue w u)) s.n)
    also tells_pairs s.n (λ u w. tells_gives (tells_sends s w u) (tells_differ (s.queue w u)))
    also tells_pairs s.n (λ u w. tells_gives (tells_sends s w u) (tells_each (λ e. tells_lt e.destination s.n) (s.queue w u)))
    also tells_pairs s.n (λ u w. tells_gives (tells_sends s w u) (tells_each (λ e. tells_eq e.value (s.distance w e.destination)) (s.queue w u)))
    also tells_triples s.n (λ u w v. tells_unless (tells_sends s w u) (tells_waits v (s.queue w u)) (tells_eq (s.view u w v) (s.distance w v))))

pub sound_bytes_tells : {n : ℕ} (s : List ℕ) → Tells (is_sound_as n s) (SoundAs n s)
unfolding is_sound_as
sound_bytes_tells {n} s = tells_as
    (λ h. record { state = h.0.0; past_destinations = h.0.1; past_values = h.1 })
    (λ h. ((h.state, h.past_destinations), h.past_values))
    (sound_tells (read_as n s) also past Destinations also past Values)
  where
    past : (t : Table) → Tells (triples n (λ w u p. ltb p (flat n s Lengths w u) || eqb (deep n s t w u p) 0))
        ((w u p : ℕ) → w < n → u < n → p < n → flat n s Lengths w u ≤ p → deep n s t w u p ≡ 0)
    past t = tells_triples n (λ w u p. tells_as (λ h l. h (λ k. omega arith)) (λ h k. h (omega arith)) (tells_else (tells_lt p (flat n s Lengths w u)) (tells_eq (deep n s t w u p) 0)))
