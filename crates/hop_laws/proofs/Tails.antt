-- What stands behind the form does not matter to reading: the form alone and the whole buffer hold one state, so they are sound together, and then read as states that are the same below n. Assumes nothing.
use mathlib.Core.Path.{◌≡◌, sym, ◌∙◌}
use mathlib.Core.List.{List, ◌++◌}
use Prim.Native.Nat.{ℕ, ◌+◌, ◌*◌, ◌≤◌, ◌<◌}
use native.Mathlib.Omega.{arith}
use lib.Arith.{digits_lt}
use lib.ListN.{length, get_or-append}
use Rattle.hop_rule.specs.declared.Table.{Table}
use Rattle.hop_rule.specs.declared.Table.TheVariants.{Links, Distances, Downstreams, Views, Lengths, Destinations, Values}
use Rattle.hop_rule.specs.State.{State}
use Rattle.hop_rule.specs.Stored.{size, start, nodes, flat, deep, read_as, read}
use Rattle.hop_rule.specs.Sound.{SoundAs, SoundBytes, is_sound_as, is_sound_bytes}
use Rattle.hop_laws.specs.Same.{Same}
use Rattle.hop_laws.specs.Holds.{Flat, Deep, Holds}
use Rattle.hop_laws.proofs.Tests.{tells_as, tells_same}
use Rattle.hop_laws.proofs.Sound.{sound_bytes_tells}
use Rattle.hop_laws.proofs.Stored.{nodes_append}
use Rattle.hop_laws.proofs.Same.{same_sym}
use Rattle.hop_laws.proofs.Read.{read_held, held_sound, read_holds}

-- Each cell stands in the form.
flat_inside : (n : ℕ) (k : Table) → Flat k → (a b : ℕ) → a < n → b < n → start n k + (a * n + b) < size n
unfolding start size
flat_inside n Links f a b la lb = omega (arith, digits_lt la lb)
flat_inside n Distances f a b la lb = omega (arith, digits_lt la lb)
flat_inside n Downstreams f a b la lb = omega (arith, digits_lt la lb)
flat_inside n Views f a b la lb = absurd f
flat_inside n Lengths f a b la lb = omega (arith, digits_lt la lb)
flat_inside n Destinations f a b la lb = absurd f
flat_inside n Values f a b la lb = absurd f

deep_inside : (n : ℕ) (k : Table) → Deep k → (a b c : ℕ) → a < n → b < n → c < n → start n k + ((a * n + b) * n + c) < size n
unfolding start size
deep_inside n Links f a b c la lb lc = absurd f
deep_inside n Distances f a b c la lb lc = absurd f
deep_inside n Downstreams f a b c la lb lc = absurd f
deep_inside n Views f a b c la lb lc = omega (arith, digits_lt (digits_lt la lb) lc)
deep_inside n Lengths f a b c la lb lc = absurd f
deep_inside n Destinations f a b c la lb lc = omega (arith, digits_lt (digits_lt la lb) lc)
deep_inside n Values f a b c la lb lc = omega (arith, digits_lt (digits_lt la lb) lc)

module _ (f r : List ℕ) where
  module _ (t : State) (room : size t.n ≤ length f) where
    flat_same : (k : Table) → Flat k → (a b : ℕ) → a < t.n → b < t.n → flat t.n (f ++ r) k a b ≡ flat t.n f k a b
    unfolding flat
    flat_same k h a b la lb = let inside = flat_inside t.n k h a b la lb in get_or-append f r 0 _ (omega (arith, inside, room))

    deep_same : (k : Table) → Deep k → (a b c : ℕ) → a < t.n → b < t.n → c < t.n → deep t.n (f ++ r) k a b c ≡ deep t.n f k a b c
    unfolding deep
    deep_same k h a b c la lb lc = let inside = deep_inside t.n k h a b c la lb lc in get_or-append f r 0 _ (omega (arith, inside, room))

    whole_holds : Holds f t → Holds (f ++ r) t
    whole_holds h = record {
      flats = λ k j a b la lb. flat_same k j a b la lb ∙ h.flats k j a b la lb;
      deeps = λ k j a b c la lb lc. deep_same k j a b c la lb lc ∙ h.deeps k j a b c la lb lc;
    }

    form_holds : Holds (f ++ r) t → Holds f t
    form_holds h = record {
      flats = λ k j a b la lb. sym (flat_same k j a b la lb) ∙ h.flats k j a b la lb;
      deeps = λ k j a b c la lb lc. sym (deep_same k j a b c la lb lc) ∙ h.deeps k j a b c la lb lc;
    }

  -- So they are sound together, and then they are read as one state, whatever n is.
  module _ (n : ℕ) (room : size n ≤ length f) where
    test_as : is_sound_as n (f ++ r) ≡ is_sound_as n f
    unfolding read_as
    test_as =
        let to : SoundAs n f → SoundAs n (f ++ r) = λ h. held_sound (whole_holds (read_as n f) room (read_holds n f h)) h.state in
        let back : SoundAs n (f ++ r) → SoundAs n f = λ h. held_sound (form_holds (read_as n (f ++ r)) room (read_holds n (f ++ r) h)) h.state in
        tells_same (sound_bytes_tells (f ++ r)) (tells_as to back (sound_bytes_tells f))

    read_as_kept : SoundAs n f → Same (read_as n f) (read_as n (f ++ r))
    unfolding read_as
    read_as_kept h = same_sym (read_held (whole_holds (read_as n f) room (read_holds n f h)) (λ w u lw lu. h.state.lengths u w lu lw))

  module _ (room : size (nodes f) ≤ length f) where
    pub some : 0 < length f
    unfolding size
    some = omega (arith, room)

    pub nodes_same : nodes (f ++ r) ≡ nodes f
    nodes_same = nodes_append f r some

    pub test_same : is_sound_bytes (f ++ r) ≡ is_sound_bytes f
    test_same = rw nodes_same (test_as _ room)

    pub read_same : SoundBytes f → Same (read f) (read (f ++ r))
    read_same h = rw nodes_same (read_as_kept _ room h)
