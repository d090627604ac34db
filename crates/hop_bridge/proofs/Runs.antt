-- A pass and a run on the bytes are those of the state, and what is counted in the bytes is what the rule counts. Assumes nothing.
use mathlib.Core.Path.{◌≡◌, sym, ap, subst, ◌∙◌}
use mathlib.Core.Bool.{not, cond, ◌&&◌}
use mathlib.Core.List.{List}
use Prim.Native.Nat.{ℕ, ◌<◌}
use lib.Dec.{eqb, ltb}
use lib.ListN.{length}
use Rattle.hop_rule.specs.declared.Table.TheVariants.{Distances, Lengths}
use Rattle.hop_rule.specs.Words.{loop, sum}
use Rattle.hop_rule.specs.State.{State}
use Rattle.hop_rule.specs.Rule as rule
use Rattle.hop_laws.proofs.Words.{loop_both, sum_same, first_same}
use Rattle.hop_cells.specs.Cells.{get2}
use Rattle.hop_steps.specs.Steps.{drain}
use Rattle.hop_counts.specs.Counts.{waiting_for, waiting_from, queued, reached}
use Rattle.hop_runs.specs.Runs.{pass_from, pass, passes, made, delivered}
use Rattle.hop_bridge.specs.Carries.{Carries, CarriesSound}
use Rattle.hop_bridge.proofs.Deliver.{drain_sound}

-- ---- counts

module _ {n : ℕ} {r s : List ℕ} {t : State} (h : Carries n r s t) where
  lengths : (w u : ℕ) → w < n → u < n → get2 n Lengths w u s ≡ length (t.queue w u)
  lengths = h.filled.flats Lengths tt

  pub waiting_for_is : (u : ℕ) → u < n → waiting_for n u s ≡ rule.waiting_for t u
  unfolding waiting_for rule.waiting_for
  waiting_for_is u lu = sum_same n _ _ (λ w lw. lengths w u lw lu) ∙ ap (λ m. sum m (λ w. length (t.queue w u))) (sym h.orderly.count)

  pub waiting_from_is : (u : ℕ) → u < n → waiting_from n u s ≡ rule.waiting_from t u
  unfolding waiting_from rule.waiting_from
  waiting_from_is u lu = sum_same n _ _ (λ x lx. lengths u x lu lx) ∙ ap (λ m. sum m (λ x. length (t.queue u x))) (sym h.orderly.count)

  pub queued_is : queued n s ≡ rule.total t
  unfolding queued rule.total rule.waiting_from
  queued_is = sum_same n _ (rule.waiting_from t) waiting_from_is ∙ ap (λ m. sum m (rule.waiting_from t)) (sym h.orderly.count)

  pub reached_is : (u : ℕ) → u < n → reached n u s ≡ rule.reached t u
  unfolding reached rule.reached
  reached_is u lu =
      sum_same n _ (λ v. cond (not (eqb v u) && ltb (t.distance u v) n) 1 0) (λ v lv. rw (h.filled.flats Distances tt u v lu lv))
      ∙ ap (λ m. sum m (λ v. cond (not (eqb v u) && ltb (t.distance u v) m) 1 0)) (sym h.orderly.count)

-- ---- passes

module _ {n : ℕ} {r s : List ℕ} {t : State} (h : CarriesSound n r s t) where
  -- The lengths are those at the pass's start.
  pub pass_sound : CarriesSound n r (pass n s) (rule.pass t)
  unfolding pass pass_from rule.pass
  pass_sound =
      subst (λ m. CarriesSound n r (pass n s) (loop m (λ w. loop m (λ u. loop (length (t.queue w u)) (λ i y. rule.deliver y w u))) t)) (sym h.carries.orderly.count)
      (loop_both (CarriesSound n r) n (pass_from n s) (λ w. loop n (λ u. loop (length (t.queue w u)) (λ i y. rule.deliver y w u))) s t h (λ w x y lw k.
      loop_both (CarriesSound n r) n (λ u. drain n w u (get2 n Lengths w u s)) (λ u. loop (length (t.queue w u)) (λ i y. rule.deliver y w u)) x y k (λ u x y lu k.
      rw (lengths h.carries w u lw lu) (drain_sound k w u lw lu (length (t.queue w u))))))

module _ {n : ℕ} {r s : List ℕ} {t : State} (h : CarriesSound n r s t) where
  pub passes_sound : (k : ℕ) → CarriesSound n r (passes n k s) (rule.passes t k)
  unfolding passes rule.passes
  passes_sound k = loop_both (CarriesSound n r) k (λ i. pass n) (λ i. rule.pass) s t h (λ i x y l g. pass_sound g)

  pub made_is : (k : ℕ) → made n k s ≡ rule.made t k
  unfolding made rule.made
  made_is k = first_same k _ _ (λ j l. ap (λ x. eqb x 0) (queued_is (passes_sound j).carries))

  pub delivered_is : (k : ℕ) → delivered n k s ≡ rule.delivered t k
  unfolding delivered rule.delivered
  delivered_is k = sum_same k _ _ (λ j l. queued_is (passes_sound j).carries)
