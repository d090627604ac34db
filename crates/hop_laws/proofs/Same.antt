-- Two states that are the same below n cannot be told apart: not by recompute, not by sound, not by their bytes. Assumes nothing.
use mathlib.Core.Path.{◌≡◌, refl, sym, ap, ◌∙◌}
use Prim.Native.Nat.{ℕ, ◌<◌}
use native.Mathlib.Omega.{arith}
use lib.ListN.{length}
use Rattle.hop_rule.specs.declared.Table.{Table}
use Rattle.hop_rule.specs.declared.Table.TheVariants.{Links, Distances, Downstreams, Views, Lengths, Destinations, Values}
use Rattle.hop_rule.specs.State.{State}
use Rattle.hop_rule.specs.Stored.{block, stored}
use Rattle.hop_rule.specs.Sound.{Sends, Sound}
use Rattle.hop_laws.specs.Same.{Same}
use Rattle.hop_laws.specs.Current.{Current}
use Rattle.hop_laws.proofs.Rule.{Alike, same_alike, current_alike, sound_current}
use Rattle.hop_laws.proofs.Queues.{each_as, each_both}
use Rattle.hop_laws.proofs.Blocks.{grid_same, cube_same}

pub same_refl : (s : State) → Same s s
same_refl s = record {
  n = refl;
  link = λ u w lu lw. refl;
  distance = λ u v lu lv. refl;
  downstream = λ u v lu lv. refl;
  view = λ u w v lu lw lv. refl;
  queue = λ w u lw lu. refl;
}

pub same_sym : {s t : State} → Same s t → Same t s
same_sym e = record {
  n = sym e.n;
  link = λ u w lu lw. sym (e.link u w (omega arith) (omega arith));
  distance = λ u v lu lv. sym (e.distance u v (omega arith) (omega arith));
  downstream = λ u v lu lv. sym (e.downstream u v (omega arith) (omega arith));
  view = λ u w v lu lw lv. sym (e.view u w v (omega arith) (omega arith) (omega arith));
  queue = λ w u lw lu. sym (e.queue w u (omega arith) (omega arith));
}

pub same_trans : {s t r : State} → Same s t → Same t r → Same s r
same_trans e f = record {
  n = e.n ∙ f.n;
  link = λ u w lu lw. e.link u w lu lw ∙ f.link u w (omega (arith, e.n)) (omega (arith, e.n));
  distance = λ u v lu lv. e.distance u v lu lv ∙ f.distance u v (omega (arith, e.n)) (omega (arith, e.n));
  downstream = λ u v lu lv. e.downstream u v lu lv ∙ f.downstream u v (omega (arith, e.n)) (omega (arith, e.n));
  view = λ u w v lu lw lv. e.view u w v lu lw lv ∙ f.view u w v (omega (arith, e.n)) (omega (arith, e.n)) (omega (arith, e.n));
  queue = λ w u lw lu. e.queue w u lw lu ∙ f.queue w u (omega (arith, e.n)) (omega (arith, e.n));
}

module _ {s t : State} (e : Same s t) where
  -- Recompute reads only a node's own links, and its views of the one destination.
  pub same_reads : (u v : ℕ) → u < s.n → v < s.n → Alike s t u v
  same_reads u v lu lv = same_alike s t u v (sym e.n) (λ w l. sym (e.link u w lu l)) (λ w l. sym (e.view u w v lu l lv))

  pub sound_same : Sound s → Sound t
  sound_same h = record {
    bits = λ u w lu lw. rw (f.link u w lu lw) (h.bits u w (in_s lu) (in_s lw));
    diagonal = λ u lu. f.link u u lu lu ∙ h.diagonal u (in_s lu);
    distances = λ u v lu lv. (current u v lu lv).distance;
    downstreams = λ u v lu lv. (current u v lu lv).downstream;
    views = λ u w v lu lw lv. omega (arith, f.view u w v lu lw lv, h.views u w v (in_s lu) (in_s lw) (in_s lv));
    down_views = λ u w v lu lw lv down. f.view u w v lu lw lv ∙ h.down_views u w v (in_s lu) (in_s lw) (in_s lv) (λ k. down (f.link u w lu lw ∙ k)) ∙ e.n;
    down_queues = λ u w lu lw down. f.queue w u lw lu ∙ h.down_queues u w (in_s lu) (in_s lw) (λ k. down (f.link w u lw lu ∙ k.0, f.link u w lu lw ∙ k.1));
    lengths = λ u w lu lw. rw (f.queue w u lw lu, ← e.n) (h.lengths u w (in_s lu) (in_s lw));
    differ = λ u w lu lw sends. rw (f.queue w u lw lu) (h.differ u w (in_s lu) (in_s lw) (sends_s lw lu sends));
    below = λ u w lu lw sends.
        let below = h.below u w (in_s lu) (in_s lw) (sends_s lw lu sends) in
        rw (f.queue w u lw lu) (each_as _ _ (s.queue w u) (λ x l. omega arith) below);
    values = λ u w lu lw sends.
        let below = h.below u w (in_s lu) (in_s lw) (sends_s lw lu sends) in
        rw (f.queue w u lw lu) (each_as _ _ (s.queue w u) (λ x p. p.1 ∙ e.distance w x.destination (in_s lw) p.0) (each_both _ _ (s.queue w u) below (h.values u w (in_s lu) (in_s lw) (sends_s lw lu sends))));
    heard = λ u w v lu lw lv sends out.
        f.view u w v lu lw lv
        ∙ h.heard u w v (in_s lu) (in_s lw) (in_s lv) (sends_s lw lu sends) (λ k. out (rw (f.queue w u lw lu) k))
        ∙ e.distance w v (in_s lw) (in_s lv);
  }
    where
      f : Same t s
      f = same_sym e

      in_s : {u : ℕ} → u < t.n → u < s.n
      in_s l = omega arith

      current : (u v : ℕ) → u < t.n → v < t.n → Current t u v
      current u v lu lv = current_alike (same_reads u v (in_s lu) (in_s lv)) (f.distance u v lu lv) (f.downstream u v lu lv) (sound_current h u v (in_s lu) (in_s lv))

      sends_s : {w u : ℕ} → w < t.n → u < t.n → Sends t w u → Sends s w u
      sends_s {w} {u} lw lu sends = (e.link w u (in_s lw) (in_s lu) ∙ sends.0, e.link u w (in_s lu) (in_s lw) ∙ sends.1)

  block_same : (k : Table) → block s k ≡ block t k
  unfolding block
  block_same Links = rw (← e.n) (grid_same s.n s.link t.link e.link)
  block_same Distances = rw (← e.n) (grid_same s.n s.distance t.distance e.distance)
  block_same Downstreams = rw (← e.n) (grid_same s.n s.downstream t.downstream e.downstream)
  block_same Views = rw (← e.n) (cube_same s.n s.view t.view e.view)
  block_same Lengths = rw (← e.n) (grid_same s.n _ _ (λ w u lw lu. ap length (e.queue w u lw lu)))
  block_same Destinations = rw (← e.n) (cube_same s.n _ _ (λ w u p lw lu lp. rw (e.queue w u lw lu)))
  block_same Values = rw (← e.n) (cube_same s.n _ _ (λ w u p lw lu lp. rw (e.queue w u lw lu)))

  pub stored_same : stored s ≡ stored t
  unfolding stored
  stored_same = cc (e.n, block_same Links, block_same Distances, block_same Downstreams, block_same Views, block_same Lengths, block_same Destinations, block_same Values)
