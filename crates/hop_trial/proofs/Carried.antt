-- A trial on bytes that begin with a copy of a state is the rule's: the copy carries that state, each step of the trial carries it on, and at the end the copy is there again. Assumes nothing.
use mathlib.Core.Path.{◌≡◌, refl, sym, ap, ap₂, subst, ◌∙◌}
use mathlib.Core.Bool.{Bool, true, false, cond}
use mathlib.Core.List.{List, []}
use Prim.Native.Nat.{ℕ, ◌+◌, ◌*◌, ◌-◌, ◌≤◌, ◌<◌}
use native.Mathlib.Nat.{le_trans}
use native.Mathlib.Decide.{dec_lt}
use native.Mathlib.Omega.{arith}
use lib.Dec.{eqb, lit≤}
use lib.IntN.{ℤ}
use lib.ListN.{length, get_or, take, drop, length-append, length-drop, get_or-append}
use lib.Seq.{length-take-le, get_or-take, get_or-append-add, get_or-drop, drop-append-add, drop-drop}
use mir.Syntax.{w32}
use mir.Val.{to_z, of_z}
use Rattle.hop_rule.specs.declared.Table.{Table}
use Rattle.hop_rule.specs.declared.Table.TheVariants.{Links, Distances, Downstreams, Views, Lengths, Destinations, Values}
use Rattle.hop_rule.specs.State.{State}
use Rattle.hop_rule.specs.Rule as rule
use Rattle.hop_rule.specs.Notice as notice
use Rattle.hop_rule.specs.Stored.{size, start, nodes, flat, read_as, read, destination_at, value_at}
use Rattle.hop_rule.specs.Records.{written}
use Rattle.hop_rule.specs.Worth as worth
use Rattle.hop_laws.specs.Holds.{Flat, flat_of, deep_of}
use Rattle.hop_rest.proofs.Settling.{total_rest}
use Rattle.hop_rest.proofs.Changes.{Agree, lost_same, change_same}
use Rattle.hop_rest.proofs.Worth.{ascends, turned_sound, trial_rests, line_fits}
use Rattle.hop_cells.specs.Cells.{Room, cells, get}
use Rattle.hop_cells.proofs.Places.{rank, inside, ends_inside, ends_before}
use Rattle.hop_steps.specs.Steps.{link_up, link_down}
use Rattle.hop_changes.proofs.Sums.{signed_kept}
use Rattle.hop_runs.specs.Runs as runs
use Rattle.hop_runs.specs.declared.Ran.{Ran}
use Rattle.hop_bridge.specs.Carries.{Carries, CarriesSound}
use Rattle.hop_bridge.proofs.Filled.{by_flat, by_deep, flat_in, deep_in}
use Rattle.hop_bridge.proofs.Links.{link_up_carries, link_down_carries}
use Rattle.hop_bridge.proofs.Runs.{passes_sound, made_is, delivered_is}
use Rattle.hop_bridge.proofs.Door.{fine_sound, carried_stored}
use Rattle.hop_trial.specs.Trial.{Copied, turned, found}
use Rattle.hop_trial.proofs.Copies.{overlaid, overlaid_written}

-- ---- the copy carries the state

-- The state's own buffer carries it.
carried : {n : ℕ} {s x : List ℕ} → Copied n s x → CarriesSound n (drop (size n) s) s (read s)
carried {s = s} h = subst (λ m. CarriesSound m (drop (size m) s) s (read s)) (sym h.claim) (fine_sound s h.fine)

pub state_room : {n : ℕ} {s x : List ℕ} → Copied n s x → Room n s
state_room h = (carried h).carries.filled.room

-- So does a buffer with the same bytes in the place of the form.
module _ {n : ℕ} {r s : List ℕ} {t : State} (h : CarriesSound n r s t) (x : List ℕ) (room : size n ≤ length x) (byte : (i : ℕ) → i < size n → get_or x i 0 ≡ get_or s i 0) where
  same_bytes : CarriesSound n (drop (size n) x) x t
  unfolding get size nodes
  same_bytes = record {
    sound = h.sound;
    carries = record {
      orderly = h.carries.orderly;
      filled = record {
        room = record { most = h.carries.filled.room.most; fits = room };
        head = byte 0 (omega arith) ∙ h.carries.filled.head;
        tail = refl;
        flats = λ k f a b la lb. byte (start n k + (a * n + b)) (inside n k (flat_in k f la lb)) ∙ h.carries.filled.flats k f a b la lb;
        deeps = λ k f a b c la lb lc. byte (start n k + ((a * n + b) * n + c)) (inside n k (deep_in k f la lb lc)) ∙ h.carries.filled.deeps k f a b c la lb lc;
      };
    };
  }

pub copied_carries : {n : ℕ} {s x : List ℕ} → Copied n s x → CarriesSound n (drop (size n) x) x (read s)
copied_carries {n} {s} {x} h = same_bytes (carried h) x h.room (λ i l. sym (get_or-take (size n) x i 0 l) ∙ ap (λ y. get_or y i 0) h.copy ∙ get_or-take (size n) s i 0 l)

-- ---- the trial

module _ {n : ℕ} {r x : List ℕ} {t : State} (h : CarriesSound n r x t) (a b : ℕ) (so : worth.tried t a b ≡ true) (inside-n : b < n) where
  low : a < n
  low = omega (arith, ascends t a b so)

  turned_carries : CarriesSound n r (turned n a b x) (worth.turned t a b)
  unfolding turned worth.turned
  turned_carries = record {
    sound = turned_sound t a b so h.sound (omega (arith, h.carries.orderly.count));
    carries = rw (h.carries.filled.flats Links tt a b low inside-n) (go (eqb (t.link a b) 1));
  }
    where
      go : (u : Bool) → Carries n r (cond u (link_down n a b x) (link_up n a b x)) (cond u (notice.link_down t a b) (rule.link_up t a b))
      go true = link_down_carries h.carries a b low inside-n
      go false = link_up_carries h.carries a b low inside-n

  trial_carries : CarriesSound n r (runs.run n 255 (turned n a b x)) (worth.trial t a b)
  unfolding runs.run worth.trial worth.trial_passes
  trial_carries = rw (made_is turned_carries 255) (passes_sound turned_carries (rule.made (worth.turned t a b) 255))

  trial_ran : runs.ran n 255 (turned n a b x) ≡ record { passes = worth.trial_passes t a b; deliveries = rule.delivered (worth.turned t a b) (worth.trial_passes t a b) }
  unfolding runs.ran worth.trial_passes
  trial_ran = rw (made_is turned_carries 255, delivered_is turned_carries (rule.made (worth.turned t a b) 255))

-- ---- what it tells, and the copy again

module _ {n : ℕ} {s x : List ℕ} (h : Copied n s x) (a b : ℕ) (so : worth.tried (read s) a b ≡ true) (inside-n : b < n) where
  -- The bytes after the run.
  abbrev ended : List ℕ
  ended = runs.run n 255 (turned n a b x)

  ends : CarriesSound n (drop (size n) x) ended (worth.trial (read s) a b)
  ends = trial_carries (copied_carries h) a b so inside-n

  before : Agree n (flat n s Distances) (read s).distance
  unfolding read_as
  before u v lu lv = ap (λ m. flat m s Distances u v) h.claim

  after : Agree n (flat n ended Distances) (worth.trial (read s) a b).distance
  unfolding flat get
  after u v lu lv = ends.carries.filled.flats Distances tt u v lu lv

  abbrev line : worth.Line
  line = worth.line (read s) a b

  -- The change, which goes through a signed number of 32 bits, is not cut.
  whole : to_z w32 (of_z w32 line.change) ≡ line.change
  unfolding read_as
  whole = signed_kept line.change (line_fits (read s) h.fine.sound.state h.fine.most a b so (omega (arith, h.claim))).change_most

  tells : {ran : Ran} {lost gained : ℕ} {change : ℤ}
      → ran ≡ runs.ran n 255 (turned n a b x)
      → lost ≡ worth.lost n (flat n s Distances) (flat n ended Distances)
      → gained ≡ worth.lost n (flat n ended Distances) (flat n s Distances)
      → change ≡ worth.change n (flat n s Distances) (flat n ended Distances)
      → record { passes = ran.passes; deliveries = ran.deliveries; lost = lost; gained = gained; change = to_z w32 (of_z w32 change) } ≡ found line
  unfolding found worth.line read_as
  tells {change = change} e l g c =
      let did = e ∙ trial_ran (copied_carries h) a b so inside-n in
      let few = ap (λ m. worth.lost m (read s).distance (worth.trial (read s) a b).distance) h.claim in
      let more = ap (λ m. worth.lost m (worth.trial (read s) a b).distance (read s).distance) h.claim in
      let sum : change ≡ line.change = c ∙ change_same n _ _ _ _ before after ∙ ap (λ m. worth.change m (read s).distance (worth.trial (read s) a b).distance) h.claim in
      rw (did, l ∙ lost_same n _ _ _ _ before after ∙ few, g ∙ lost_same n _ _ _ _ after before ∙ more, sum, whole)

  -- No entry waits before or after.
  none_before : (w u : ℕ) → w < n → u < n → (read s).queue w u ≡ []
  unfolding read_as
  none_before w u lw lu = total_rest (read s) h.rests w u (omega (arith, h.claim)) (omega (arith, h.claim))

  none_after : (w u : ℕ) → w < n → u < n → (worth.trial (read s) a b).queue w u ≡ []
  unfolding read_as
  none_after w u lw lu =
      total_rest (worth.trial (read s) a b) (trial_rests (read s) a b h.fine.sound.state so (omega (arith, h.claim)) (le_trans h.fine.most (lit≤ tt)))
      w u (omega (arith, h.claim, same)) (omega (arith, h.claim, same))
    where
      same : (worth.trial (read s) a b).n ≡ n
      same = ends.carries.orderly.count

  none_changed : (w u : ℕ) → w < n → u < n → (worth.trial (read s) a b).queue w u ≡ (read s).queue w u
  none_changed w u lw lu = none_after w u lw lu ∙ sym (none_before w u lw lu)

  -- The front of the state, up to a block of queues, written over the bytes after the run.
  module _ (t : Table) (late : 4 ≤ rank t) where
    abbrev front : ℕ
    front = start n t

    abbrev again : List ℕ
    again = overlaid s ended front

    front_within : front ≤ size n
    front_within = omega (arith, ends_inside n t)

    front_length : length (take front s) ≡ front
    front_length = length-take-le front s (le_trans front_within (state_room h).fits)

    -- Its bytes: in front the state's, from there on those after the run.
    below : (i : ℕ) → i < front → get_or again i 0 ≡ get_or s i 0
    below i l = get_or-append (take front s) (drop front ended) 0 i (omega (arith, front_length)) ∙ get_or-take front s i 0 l

    behind : (i : ℕ) → front ≤ i → get_or again i 0 ≡ get_or ended i 0
    behind i l =
        let e : i ≡ length (take front s) + (i - front) = omega (arith, front_length) in
        let f : front + (i - front) ≡ i = omega arith in
        ap (λ j. get_or again j 0) e ∙ get_or-append-add (take front s) (drop front ended) (i - front) 0 ∙ get_or-drop front ended (i - front) 0 ∙ ap (λ j. get_or ended j 0) f

    -- What both have at a place, it has there.
    in_both : (i : ℕ) {y : ℕ} → get_or s i 0 ≡ y → get_or ended i 0 ≡ y → get_or again i 0 ≡ y
    in_both i {y} e f = go (dec_lt i front)
      where
        go : Dec (i < front) → get_or again i 0 ≡ y
        go (yes l) = below i l ∙ e
        go (no l) = behind i (omega arith) ∙ f

    -- Behind the form they are those of the copy.
    tail : drop (size n) again ≡ drop (size n) x
    tail =
        let e : size n ≡ length (take front s) + (size n - front) = omega (arith, front_length, front_within) in
        let f : front + (size n - front) ≡ size n = omega (arith, front_within) in
        ap (λ j. drop j again) e
        ∙ drop-append-add (take front s) (drop front ended) (size n - front)
        ∙ drop-drop (size n - front) front ended
        ∙ ap (λ j. drop j ended) f
        ∙ ends.carries.filled.tail

    -- The blocks before the queues lie in front.
    in_front : (k : Table) → rank k < 4 → {i : ℕ} → i < cells n k → start n k + i < front
    in_front k l b = omega (arith, ends_before n k t (omega (arith, late)))

    front_flat : (k : Table) → Flat k → rank k < 4 → (w u : ℕ) → w < n → u < n → get_or again (start n k + (w * n + u)) 0 ≡ flat_of (read s) k w u
    unfolding get
    front_flat k f l w u lw lu = below (start n k + (w * n + u)) (in_front k l (flat_in k f lw lu)) ∙ (carried h).carries.filled.flats k f w u lw lu

    -- So it carries the state that the copy carried, and is the copy.
    again_carries : Carries n (drop (size n) x) again (read s)
    unfolding get nodes
    again_carries = record {
      orderly = (carried h).carries.orderly;
      filled = record {
        room = record { most = (state_room h).most; fits = room };
        head = in_both 0 (carried h).carries.filled.head ends.carries.filled.head;
        tail = tail;
        flats = by_flat (λ k. (w u : ℕ) → w < n → u < n → get_or again (start n k + (w * n + u)) 0 ≡ flat_of (read s) k w u)
            (front_flat Links tt (omega arith))
            (front_flat Distances tt (omega arith))
            (front_flat Downstreams tt (omega arith))
            (λ w u lw lu. in_both (start n Lengths + (w * n + u)) ((carried h).carries.filled.flats Lengths tt w u lw lu) (ends.carries.filled.flats Lengths tt w u lw lu ∙ ap length (none_changed w u lw lu)));
        deeps = by_deep (λ k. (w u v : ℕ) → w < n → u < n → v < n → get_or again (start n k + ((w * n + u) * n + v)) 0 ≡ deep_of (read s) k w u v)
            (λ w u v lw lu lv. below (start n Views + ((w * n + u) * n + v)) (in_front Views (omega arith) (deep_in Views tt lw lu lv)) ∙ (carried h).carries.filled.deeps Views tt w u v lw lu lv)
            (λ w u v lw lu lv. in_both (start n Destinations + ((w * n + u) * n + v)) ((carried h).carries.filled.deeps Destinations tt w u v lw lu lv) (ends.carries.filled.deeps Destinations tt w u v lw lu lv ∙ ap (λ q. destination_at q v) (none_changed w u lw lu)))
            (λ w u v lw lu lv. in_both (start n Values + ((w * n + u) * n + v)) ((carried h).carries.filled.deeps Values tt w u v lw lu lv) (ends.carries.filled.deeps Values tt w u v lw lu lv ∙ ap (λ q. value_at q v) (none_changed w u lw lu)));
      };
    }
      where
        room : size n ≤ length again
        room = omega (arith, length-append (take front s) (drop front ended), front_length, length-drop front ended, ends.carries.filled.room.fits, front_within)

    copied_again : again ≡ x
    copied_again = carried_stored again_carries ∙ sym (carried_stored (copied_carries h).carries)

  -- The whole trial, from the bytes that each part of the code leaves: x₁ after the turn, x₂ after the run, x₃ after the copy.
  pub trial_done : {x₁ x₂ x₃ : List ℕ} {ran : Ran} {lost gained k : ℕ} {change : ℤ} (t : Table)
      → x₁ ≡ turned n a b x
      → (ran ≡ runs.ran n 255 x₁) × (x₂ ≡ runs.run n 255 x₁)
      → lost ≡ worth.lost n (flat n s Distances) (flat n x₂ Distances)
      → gained ≡ worth.lost n (flat n x₂ Distances) (flat n s Distances)
      → change ≡ worth.change n (flat n s Distances) (flat n x₂ Distances)
      → k ≡ start n t
      → x₃ ≡ written (take k s) x₂
      → 4 ≤ rank t
      → (record { passes = ran.passes; deliveries = ran.deliveries; lost = lost; gained = gained; change = to_z w32 (of_z w32 change) } ≡ found line) × (x₃ ≡ x)
  trial_done t e (did, left) l g c at_front copied late =
      let last = left ∙ ap (runs.run n 255) e in (
        tells
            (did ∙ ap (runs.ran n 255) e)
            (l ∙ ap (λ y. worth.lost n (flat n s Distances) (flat n y Distances)) last)
            (g ∙ ap (λ y. worth.lost n (flat n y Distances) (flat n s Distances)) last)
            (c ∙ ap (λ y. worth.change n (flat n s Distances) (flat n y Distances)) last),
        copied
            ∙ ap₂ (λ j y. written (take j s) y) at_front last
            ∙ sym (overlaid_written s ended (start n t) (le_trans (front_within t late) (state_room h).fits))
            ∙ copied_again t late,
      )

  -- And there is room for a copy up to any block.
  pub front_fits : {k : ℕ} (t : Table) → k ≡ start n t → (k ≤ length s) × (k ≤ length x)
  front_fits t e = (omega (arith, e, ends_inside n t, (state_room h).fits), omega (arith, e, ends_inside n t, h.room))
