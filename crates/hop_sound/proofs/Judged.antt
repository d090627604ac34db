-- What each test of the check tells, as facts about the bytes of a state. Assumes nothing.
use mathlib.Core.Path.{◌≡◌, refl, sym, ap, subst, ◌∙◌}
use mathlib.Core.Logic.{◌⊎◌, inl, inr, ◌≢◌}
use mathlib.Core.Bool.{Bool, true, false, cond, ◌&&◌}
use mathlib.Core.List.{List}
use Prim.Native.Nat.{ℕ, zero, suc, ◌+◌, ◌*◌, ◌-◌, ◌/◌, ◌%◌, ◌≤◌, ◌<◌}
use native.Mathlib.Nat.{zero-lt-suc, add-mul, mod-lt, div-add-mod', div-lt_iff_lt-mul}
use native.Mathlib.Decide.{ℕ_discrete}
use native.Mathlib.Omega.{arith}
use lib.Arith.{digits_lt}
use lib.Dec.{leb}
use lib.ListN.{get_or}
use Rattle.hop_rule.specs.declared.Table.{Table}
use Rattle.hop_rule.specs.declared.Table.TheVariants.{Links, Distances, Downstreams, Views, Lengths, Destinations, Values}
use Rattle.hop_rule.specs.Stored.{flat, deep, read_as}
use Rattle.hop_rule.specs.Sound.{Linked, Sends}
use Rattle.hop_laws.proofs.Tests.{Tells, true_not_false, tells_as, tells_not_so, tells_eq, tells_le, tells_lt, tells_not, tells_and, tells_or, tells_every}
use Rattle.hop_cells.specs.Cells.{get}
use Rattle.hop_rows.specs.Rows.{row, byte, both_are}
use Rattle.hop_sound_pairs.specs.Pairs.{link_sound, down_sound, idle_sound, told_sound, busy_sound, queue_sound, waiting_sound, up_sound, pair_sound}
use Rattle.hop_sound.specs.Check.{route_sound, views_sound, past_sound, sent_sound, node_sound, all_sound}
use Rattle.hop_rows.proofs.RowTests.{Reads, tells_are, tells_both, tells_below, tells_same_rows}
use Rattle.hop_seen.proofs.Seen.{tells_differing}
use Rattle.hop_sound_rows.proofs.SoundTests.{Allows, tells_allow, tells_told}
use Rattle.hop_sound.proofs.Routes.{Given}

-- A choice of tests tells what each of them tells in its case.
tells_case : {b c d : Bool} {P Q : Type 0} → Tells b P → (P → Tells c Q) → ((P → ⊥) → Tells d Q) → Tells (cond b c d) Q
tells_case {b = true} t r k = r (t.shows refl)
tells_case {b = false} t r k = k (tells_not_so t refl)

-- A second test may count on what the first one tells.
tells_then : {b c : Bool} {P Q : Type 0} → Tells b P → (P → Tells c Q) → Tells (b && c) (P × Q)
tells_then {b = true} t r = tells_as (λ q. (t.shows refl, q)) (λ h. h.1) (r (t.shows refl))
tells_then {b = false} t r = record { shows = λ e. absurd (true_not_false (sym e)); if_so = λ h. t.if_so h.0 }

tells_choice : {b c d : Bool} {P Q R : Type 0} → Tells b P → Tells c Q → Tells d R → Tells (cond b c d) ((P → Q) × ((P → ⊥) → R))
tells_choice t r k = tells_case t
    (λ p. tells_as (λ q. ((λ i. q), λ f. absurd (f p))) (λ h. h.0 p) r)
    (λ f. tells_as (λ q. ((λ p. absurd (f p)), λ i. q)) (λ h. h.1 f) k)

-- A number below n² has two digits in base n.
digits : (n i : ℕ) → i < n * n → (a : ℕ) × (b : ℕ) × (a < n) × (b < n) × (a * n + b ≡ i)
digits zero i l = absurd (omega arith)
digits (suc k) i l = (i / suc k, i % suc k, (div-lt_iff_lt-mul (zero-lt-suc k)).1 l, mod-lt i (zero-lt-suc k), div-add-mod' i (suc k))

-- ---- what is judged

-- Of the queue from w to u where both ends are up.
pub record Queued (n : ℕ) (s : List ℕ) (u w : ℕ) : Type 0 where
  pub most : flat n s Lengths w u ≤ n
  pub below : (p : ℕ) → p < flat n s Lengths w u → deep n s Destinations w u p < n
  pub values : (p : ℕ) → p < flat n s Lengths w u → deep n s Values w u p ≡ flat n s Distances w (deep n s Destinations w u p)
  pub differ : (p : ℕ) → p < flat n s Lengths w u → (q : ℕ) → q < p → deep n s Destinations w u q ≢ deep n s Destinations w u p
  pub heard : (v : ℕ) → v < n → ((p : ℕ) → p < flat n s Lengths w u → deep n s Destinations w u p ≢ v) → deep n s Views u w v ≡ flat n s Distances w v

-- Of nodes u and w: views and routes by u's own end, and the queue by both.
pub record Paired (n : ℕ) (s : List ℕ) (u w : ℕ) : Type 0 where
  pub bit : flat n s Links u w ≤ 1
  pub diagonal : u ≡ w → flat n s Links u w ≡ 0
  pub queue : Sends (read_as n s) w u → Queued n s u w
  pub allows : Linked (read_as n s) u w → (v : ℕ) → v < n → Allows n w (deep n s Views u w v) (flat n s Distances u v) (flat n s Downstreams u v)
  pub down_views : (Linked (read_as n s) u w → ⊥) → (v : ℕ) → v < n → deep n s Views u w v ≡ n
  pub down_queue : (Sends (read_as n s) w u → ⊥) → flat n s Lengths w u ≡ 0

-- Of the places of the queue from w to u.
pub record Sent (n : ℕ) (s : List ℕ) (w u : ℕ) : Type 0 where
  pub most : flat n s Lengths w u ≤ n
  pub past : (p : ℕ) → p < n → flat n s Lengths w u ≤ p → (deep n s Destinations w u p ≡ 0) × (deep n s Values w u p ≡ 0)

pub record Judged (n : ℕ) (s : List ℕ) : Type 0 where
  pub views : (u w v : ℕ) → u < n → w < n → v < n → deep n s Views u w v ≤ n
  pub paired : (u w : ℕ) → u < n → w < n → Paired n s u w
  pub given : (u v : ℕ) → u < n → v < n → Given (read_as n s) u v (flat n s Distances u v) (flat n s Downstreams u v)
  pub sent : (w u : ℕ) → w < n → u < n → Sent n s w u

-- ---- what each test tells

module _ (n : ℕ) (s : List ℕ) where
  reads_flat : (t : Table) (a : ℕ) → Reads s (row n t a) (flat n s t a)
  unfolding flat
  reads_flat t a = record { reads = λ b. ap (λ (i : ℕ). get_or s i 0) (omega arith) }

  reads_deep : (t : Table) (a b : ℕ) → Reads s (row n t (a * n + b)) (deep n s t a b)
  unfolding deep
  reads_deep t a b = record { reads = λ c. ap (λ (i : ℕ). get_or s i 0) (omega arith) }

  module _ (u w : ℕ) where
    m : ℕ
    m = flat n s Lengths w u

    -- Where nothing waits, views that are the distances are all that is asked for;
    tells_idle : m ≡ 0 → Tells (idle_sound n s u w) (Queued n s u w)
    unfolding idle_sound m
    tells_idle e = tells_as
        (λ h. record {
          most = omega arith;
          below = λ p l. absurd (omega arith);
          values = λ p l. absurd (omega arith);
          differ = λ p l. absurd (omega arith);
          heard = λ v l f. h v l;
        })
        (λ h v l. h.heard v l (λ p k. absurd (omega arith)))
        (tells_same_rows (reads_deep Views u w) (reads_flat Distances w) n)

    -- else each clause is tested.
    tells_busy : m ≢ 0 → Tells (leb m n && busy_sound n s u w m) (Queued n s u w)
    unfolding busy_sound told_sound m
    tells_busy f =
        let destinations = reads_deep Destinations w u in
        tells_as
        (λ h. record { most = h.0; below = h.1.0; values = h.1.1.1.0; differ = h.1.1.0; heard = h.1.1.1.1 })
        (λ h. (h.most, (h.below, (h.differ, (h.values, h.heard)))))
        (tells_and (tells_le m n)
        (tells_then (tells_below destinations m n)
        (λ below. tells_then (tells_differing destinations m)
        (λ differ. tells_told (reads_flat Distances w) (reads_deep Views u w) destinations (reads_deep Values w u) n m below differ))))

    tells_queue : Tells (queue_sound n s u w) (Queued n s u w)
    unfolding queue_sound get flat m
    tells_queue = tells_case (tells_eq m 0) tells_idle tells_busy

    l : ℕ
    l = flat n s Links u w

    -- w's end.
    k : ℕ
    k = flat n s Links w u

    tells_paired : Tells (pair_sound n s u w) (Paired n s u w)
    unfolding pair_sound link_sound up_sound waiting_sound down_sound get flat read_as m l k
    tells_paired = tells_as
        (λ h. record {
          bit = h.0.0;
          diagonal = λ e. elim h.0.1 [ inl f ↦ absurd (f e) | inr i ↦ i ];
          queue = λ q. (h.1.0 q.1).0.0 q.0;
          allows = λ e. (h.1.0 e).1;
          down_views = λ f. (h.1.1 f).1;
          down_queue = λ f. nothing f h.1.0 h.1.1 (ℕ_discrete l 1);
        })
        (λ h. ((h.bit, ends h (ℕ_discrete u w)), ((λ e. (((λ i. h.queue (i, e)), λ f. h.down_queue (λ q. f q.0)), h.allows e)), λ f. (h.down_queue (λ q. f q.1), h.down_views f))))
        (tells_and
        (tells_and (tells_le l 1) (tells_or (tells_not (tells_eq u w)) (tells_eq l 0)))
        (tells_choice (tells_eq l 1)
        (tells_and (tells_choice (tells_eq k 1) tells_queue (tells_eq m 0)) (tells_allow (reads_flat Distances u) (reads_deep Views u w) (reads_flat Downstreams u) n w))
        (tells_and (tells_eq m 0) (tells_are (reads_deep Views u w) n n))))
      where
        ends : Paired n s u w → Dec (u ≡ w) → (u ≢ w) ⊎ (l ≡ 0)
        ends h (yes e) = inr (h.diagonal e)
        ends h (no f) = inl f

        -- Where an end is down the queue was looked at by u's own: w's is down where that is up.
        nothing : {P Q R : Type 0} → ((k ≡ 1) × (l ≡ 1) → ⊥) → (l ≡ 1 → (P × (k ≢ 1 → m ≡ 0)) × Q) → (l ≢ 1 → (m ≡ 0) × R) → Dec (l ≡ 1) → m ≡ 0
        nothing f up down (yes e) = (up e).0.1 (λ i. f (i, e))
        nothing f up down (no g) = (down g).0

  tells_given : (u v : ℕ) → Tells (route_sound n s u v) (Given (read_as n s) u v (flat n s Distances u v) (flat n s Downstreams u v))
  unfolding route_sound get flat deep read_as
  tells_given u v =
      tells_choice (tells_eq u v) (tells_and (tells_eq _ 0) (tells_eq _ u))
      (tells_choice (tells_eq _ n) (tells_eq _ 255) (tells_and (tells_lt _ n) (tells_and (tells_lt _ n) (tells_and (tells_eq _ 1) (tells_eq _ _)))))

  -- The n rows of a node in a block of n³, as one run of bytes.
  block_byte : (t : Table) (a w v : ℕ) → byte s (row n t (a * n)) (w * n + v) ≡ deep n s t a w v
  unfolding deep
  block_byte t a w v = ap (λ (i : ℕ). get_or s i 0) (omega (arith, add-mul (a * n) w n))

  tells_places : {b : Bool} {P : ℕ → Type 0} → Tells b ((i : ℕ) → i < n * n → P i) → Tells b ((w v : ℕ) → w < n → v < n → P (w * n + v))
  tells_places {P = P} = tells_as
      (λ h w v lw lv. h (w * n + v) (digits_lt lw lv))
      (λ h i l. let (w, v, lw, lv, e) = digits n i l in subst P e (h w v lw lv))

  tells_views : (u : ℕ) → Tells (views_sound n s u) ((w v : ℕ) → w < n → v < n → deep n s Views u w v ≤ n)
  unfolding views_sound
  tells_views u = tells_as
      (λ h w v lw lv. omega (arith, h w v lw lv, block_byte Views u w v))
      (λ h w v lw lv. omega (arith, h w v lw lv, block_byte Views u w v))
      (tells_places (tells_below (record { reads = λ i. refl }) (n * n) (n + 1)))

  -- The places of a queue from place k on.
  past_byte : (t : Table) (w u k i : ℕ) → byte s (row n t (w * n + u) + k) i ≡ deep n s t w u (k + i)
  unfolding deep
  past_byte t w u k i = ap (λ (i : ℕ). get_or s i 0) (omega arith)

  tells_past : (w u k : ℕ) → Tells (both_are s (row n Destinations (w * n + u) + k) (row n Values (w * n + u) + k) (n - k) 0) ((p : ℕ) → p < n → k ≤ p → (deep n s Destinations w u p ≡ 0) × (deep n s Values w u p ≡ 0))
  tells_past w u k = tells_as
      (λ h p l i. subst (λ (p : ℕ). (deep n s Destinations w u p ≡ 0) × (deep n s Values w u p ≡ 0)) (omega arith) (h (p - k) (omega arith)))
      (λ h i l. h (k + i) (omega arith) (omega arith))
      (tells_both (record { reads = past_byte Destinations w u k }) (record { reads = past_byte Values w u k }) (n - k) 0)

  tells_sent : (w : ℕ) → Tells (sent_sound n s w) ((u : ℕ) → u < n → Sent n s w u)
  unfolding sent_sound past_sound get flat
  tells_sent w = tells_case (tells_are (reads_flat Lengths w) n 0)
      (λ e. tells_as
      (λ h u l. record { most = omega (arith, e u l); past = λ p k i. let z = h u p l k in (sym (block_byte Destinations w u p) ∙ z.0, sym (block_byte Values w u p) ∙ z.1) })
      (λ h u p l k. let z = (h u l).past p k (omega (arith, e u l)) in (block_byte Destinations w u p ∙ z.0, block_byte Values w u p ∙ z.1))
      (tells_places (tells_both (record { reads = λ i. refl }) (record { reads = λ i. refl }) (n * n) 0)))
      (λ f. tells_every n (λ u l. tells_as
      (λ h. record { most = h.0; past = h.1 })
      (λ h. (h.most, h.past))
      (tells_and (tells_le _ n) (tells_past w u _))))

  pub tells_judged : Tells (all_sound n s) (Judged n s)
  unfolding all_sound node_sound
  tells_judged = tells_as
      (λ h. record { views = λ u w v lu. (h u lu).0 w v; paired = λ u w lu. (h u lu).1.0 w; given = λ u v lu. (h u lu).1.1.0 v; sent = λ w u lw. (h w lw).1.1.1 u })
      (λ h u lu. ((λ w v. h.views u w v lu), ((λ w. h.paired u w lu), ((λ v. h.given u v lu), λ w. h.sent u w lu))))
      (tells_every n (λ u l. tells_and (tells_views u) (tells_and (tells_every n (λ w k. tells_paired u w)) (tells_and (tells_every n (λ v k. tells_given u v)) (tells_sent u)))))
