-- Sound bytes carry what they are read as, and bytes that carry a state are its stored form, with the bytes behind it. Assumes nothing.
use mathlib.Core.Path.{◌≡◌, refl, sym, ap, subst, ◌∙◌}
use mathlib.Core.List.{List, ◌++◌}
use Prim.Native.Nat.{ℕ, ◌<◌}
use lib.ListN.{drop}
use Rattle.hop_rule.specs.State.{State}
use Rattle.hop_rule.specs.Stored.{size, stored, nodes, flat, deep, read_as, read}
use Rattle.hop_rule.specs.Sound.{Sends, Sound}
use Rattle.hop_rule.specs.Calls.{restored}
use Rattle.hop_laws.specs.Fine.{Fine}
use Rattle.hop_laws.specs.Holds.{flat_of, deep_of}
use Rattle.hop_laws.proofs.Tests.{decides}
use Rattle.hop_laws.proofs.Sound.{tells_sends}
use Rattle.hop_laws.proofs.Rule.{distance_of_own, sound_current, current_own}
use Rattle.hop_laws.proofs.Stored.{held_stored}
use Rattle.hop_laws.proofs.Read.{read_holds}
use Rattle.hop_cells.specs.Cells.{get}
use Rattle.hop_bridge.specs.Carries.{Filled, Tidy, Orderly, Carries, CarriesSound}

-- A sound state is in order.
sound_orderly : {t : State} → Sound t → Orderly t.n t
sound_orderly {t} h = record {
  count = refl;
  own_distance = λ u l. h.distances u u l l ∙ distance_of_own t u u refl;
  own_downstream = λ u l. current_own (sound_current h u u l l) refl;
  tidy = λ w u lw lu. go w u lw lu (decides (tells_sends t w u));
}
  where
    go : (w u : ℕ) → w < t.n → u < t.n → Dec (Sends t w u) → Tidy t.n (t.queue w u)
    go w u lw lu (yes e) = record { differ = h.differ u w lu lw e; below = h.below u w lu lw e }
    go w u lw lu (no f) = rw (h.down_queues u w lu lw f) (record { differ = tt; below = tt })

pub fine_carries : (s : List ℕ) → Fine s → Carries (nodes s) (drop (size (nodes s)) s) s (read s)
unfolding read_as flat deep get
fine_carries s h = record {
  orderly = sound_orderly h.sound.state;
  filled = record {
    room = record { most = h.most; fits = h.room };
    head = refl;
    tail = refl;
    flats = (read_holds (nodes s) s h.sound).flats;
    deeps = (read_holds (nodes s) s h.sound).deeps;
  };
}

pub fine_sound : (s : List ℕ) → Fine s → CarriesSound (nodes s) (drop (size (nodes s)) s) s (read s)
fine_sound s h = record { carries = fine_carries s h; sound = h.sound.state }

pub carried_stored : {n : ℕ} {r s : List ℕ} {t : State} → Carries n r s t → s ≡ stored t ++ r
unfolding flat deep get
carried_stored {r = r} {s} {t} h =
    let f = subst (λ m. Filled m r s (flat_of t) (deep_of t)) (sym h.orderly.count) h.filled in
    held_stored f.room.fits f.head (record { flats = f.flats; deeps = f.deeps }) ∙ ap (λ x. stored t ++ x) f.tail

-- So the state that is carried was stored over the old one.
pub carried_restored : {n : ℕ} {x : List ℕ} {t : State} (s : List ℕ) → Carries n (drop (size n) s) x t → x ≡ restored t s
carried_restored {t = t} s h = carried_stored h ∙ ap (λ m. stored t ++ drop (size m) s) (sym h.orderly.count)
