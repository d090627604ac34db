-- The check as the code makes it is 01's sound. Assumes nothing.
use mathlib.Core.Path.{◌≡◌, refl, sym, ap}
use mathlib.Core.List.{List, []}
use Prim.Native.Nat.{ℕ, ◌≤◌, ◌<◌}
use native.Mathlib.Omega.{arith}
use lib.ListN.{length}
use Rattle.hop_rule.specs.declared.Table.TheVariants.{Lengths, Destinations, Values}
use Rattle.hop_rule.specs.Words.{listed, every}
use Rattle.hop_rule.specs.State.{Entry}
use Rattle.hop_rule.specs.Stored.{flat, deep, read_as}
use Rattle.hop_rule.specs.Sound.{SoundAs, is_sound_as}
use Rattle.hop_laws.proofs.Tests.{tells_as, tells_same}
use Rattle.hop_laws.proofs.Words.{length_listed}
use Rattle.hop_laws.specs.Current.{Current}
use Rattle.hop_laws.proofs.Rule.{sound_current}
use Rattle.hop_laws.proofs.Queues.{listed_each}
use Rattle.hop_laws.proofs.Sound.{sound_bytes_tells}
use Rattle.hop_sound.specs.Check.{node_sound, all_sound}
use Rattle.hop_sound.proofs.Listed.{each_at, waits_at_place, at_waits, differ_at, at_differ}
use Rattle.hop_sound.proofs.Routes.{given_current, current_given, current_allowed}
use Rattle.hop_sound.proofs.Judged.{Judged, tells_judged}

listed_none : (k : ℕ) (f : ℕ → Entry) → k ≡ 0 → listed k f ≡ []
unfolding listed
listed_none k f e = ap (λ (i : ℕ). listed i f) e

module _ (n : ℕ) (s : List ℕ) where
  -- Place p of the queue from w to u.
  abbrev entry : ℕ → ℕ → ℕ → Entry
  entry w u p = record { destination = deep n s Destinations w u p; value = deep n s Values w u p }

  judged_sound : Judged n s → SoundAs n s
  unfolding read_as
  judged_sound j = record {
    state = record {
      bits = λ u w lu lw. (j.paired u w lu lw).bit;
      diagonal = λ u lu. (j.paired u u lu lu).diagonal refl;
      distances = λ u v lu lv. (current u v lu lv).distance;
      downstreams = λ u v lu lv. (current u v lu lv).downstream;
      views = j.views;
      down_views = λ u w v lu lw lv f. (j.paired u w lu lw).down_views f v lv;
      down_queues = λ u w lu lw f. listed_none _ (entry w u) ((j.paired u w lu lw).down_queue f);
      lengths = λ u w lu lw. omega (arith, length_listed (flat n s Lengths w u) (entry w u), (j.sent w u lw lu).most);
      differ = λ u w lu lw q. at_differ _ (entry w u) ((j.paired u w lu lw).queue q).differ;
      below = λ u w lu lw q. listed_each _ _ (entry w u) ((j.paired u w lu lw).queue q).below;
      values = λ u w lu lw q. listed_each _ _ (entry w u) ((j.paired u w lu lw).queue q).values;
      heard = λ u w v lu lw lv q f. ((j.paired u w lu lw).queue q).heard v lv (λ p l e. f (at_waits v _ (entry w u) p l e));
    };
    past_destinations = λ w u p lw lu lp k. ((j.sent w u lw lu).past p lp k).0;
    past_values = λ w u p lw lu lp k. ((j.sent w u lw lu).past p lp k).1;
  }
    where
      current : (u v : ℕ) → u < n → v < n → Current (read_as n s) u v
      current u v lu lv = given_current (read_as n s) u v (λ w lw q. (j.paired u w lu lw).allows q v lv) (j.given u v lu lv)

  sound_judged : SoundAs n s → Judged n s
  unfolding read_as
  sound_judged o = record {
    views = o.state.views;
    paired = λ u w lu lw. record {
      bit = o.state.bits u w lu lw;
      diagonal = λ e. rw (← e) (o.state.diagonal u lu);
      queue = λ q. record {
        most = most u w lu lw;
        below = each_at _ _ (entry w u) (o.state.below u w lu lw q);
        values = each_at _ _ (entry w u) (o.state.values u w lu lw q);
        differ = differ_at _ (entry w u) (o.state.differ u w lu lw q);
        heard = λ v lv f. o.state.heard u w v lu lw lv q (λ m. let (p, l, e) = waits_at_place v _ (entry w u) m in f p l (sym e));
      };
      allows = λ q v lv. current_allowed (read_as n s) u v (sound_current o.state u v lu lv) w lw q;
      down_views = λ f v lv. o.state.down_views u w v lu lw lv f;
      down_queue = λ f. omega (arith, length_listed (flat n s Lengths w u) (entry w u), ap length (o.state.down_queues u w lu lw f));
    };
    given = λ u v lu lv. current_given (read_as n s) u v (sound_current o.state u v lu lv);
    sent = λ w u lw lu. record {
      most = most u w lu lw;
      past = λ p lp k. (o.past_destinations w u p lw lu lp k, o.past_values w u p lw lu lp k);
    };
  }
    where
      most : (u w : ℕ) → u < n → w < n → flat n s Lengths w u ≤ n
      most u w lu lw = omega (arith, length_listed (flat n s Lengths w u) (entry w u), o.state.lengths u w lu lw)

  -- The check is the test of hop_rule.
  pub sound_known : every n (node_sound n s) ≡ is_sound_as n s
  unfolding all_sound
  sound_known = tells_same (tells_as judged_sound sound_judged (tells_judged n s)) (sound_bytes_tells s)
