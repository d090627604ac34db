-- What recompute finds depends on links and views alone, and recompute writes routes and queues alone: so what is found for one destination stays while others are recomputed. Assumes nothing.
use mathlib.Core.Path.{◌≡◌, refl, sym, ap, ◌∙◌}
use mathlib.Core.Logic.{◌≢◌}
use mathlib.Core.Bool.{Bool, true, false, cond, ◌&&◌}
use mathlib.Core.List.{List}
use Prim.Native.Nat.{ℕ, ◌+◌, ◌*◌, ◌<◌, ◌≤◌}
use native.Mathlib.Omega.{arith}
use lib.Dec.{eqb, ltb}
use Rattle.hop_rule.specs.declared.Table.{Table}
use Rattle.hop_rule.specs.declared.Table.TheVariants.{Links, Distances, Downstreams, Views, Lengths, Destinations, Values}
use Rattle.hop_rule.specs.Words.{loop}
use Rattle.hop_laws.proofs.Tests.{tells_lt}
use Rattle.hop_laws.proofs.Words.{loop_keeps, loop_same}
use Rattle.hop_cells.specs.Cells.{cells, get, get2, put3}
use Rattle.hop_cells.proofs.Places.{rank, cell2_lt, cell3_lt, get_put_apart}
use Rattle.hop_queues.specs.Queues.{held, waits_at, join, send}
use Rattle.hop_cells.specs.declared.Way.{Way}
use Rattle.hop_steps.specs.Steps.{up, nearer, best, store, tell_one, tell, recompute, renew}

-- A block that is neither of routes nor of queues.
module _ (n : ℕ) (t : Table) (other : (t' : Table) → rank t' ≢ 0 → rank t' ≢ 3 → rank t ≢ rank t') where
  abbrev Kept : List ℕ → List ℕ → Type 0
  Kept s s' = (i : ℕ) → i < cells n t → get n t i s' ≡ get n t i s

  either : (b : Bool) (s x y : List ℕ) → (b ≡ true → Kept s x) → (b ≡ false → Kept s y) → Kept s (cond b x y)
  either true s x y h k = h refl
  either false s x y h k = k refl

  store_kept : (u v : ℕ) (b : Way) (s : List ℕ) → u < n → v < n → Kept s (store n u v b s)
  unfolding store
  store_kept u v b s lu lv i l =
      get_put_apart n t Downstreams i _ _ _ (other Downstreams (omega arith) (omega arith)) l (cell2_lt lu lv)
      ∙ get_put_apart n t Distances i _ _ s (other Distances (omega arith) (omega arith)) l (cell2_lt lu lv)

  join_kept : (w u v d p : ℕ) (s : List ℕ) → w < n → u < n → p < n → Kept s (join n w u v d p s)
  unfolding join
  join_kept w u v d p s lw lu lp i l =
      get_put_apart n t Lengths i _ _ _ (other Lengths (omega arith) (omega arith)) l (cell2_lt lw lu)
      ∙ get_put_apart n t Values i _ _ _ (other Values (omega arith) (omega arith)) l (cell3_lt lw lu lp)
      ∙ get_put_apart n t Destinations i _ _ s (other Destinations (omega arith) (omega arith)) l (cell3_lt lw lu lp)

  send_kept : (w u v d : ℕ) (s : List ℕ) → w < n → u < n → Kept s (send n w u v d s)
  unfolding send
  send_kept w u v d s lw lu =
      let m = held n w u s in
      let p = waits_at n w u v m s in
      either (ltb p m) s (put3 n Values w u p d s) _
      (λ e i l. let b : p < m = (tells_lt p m).shows e in get_put_apart n t Values i ((w * n + u) * n + p) d s (other Values (omega arith) (omega arith)) l (cell3_lt {c = p} lw lu (omega arith)))
      (λ e. either (ltb m n) s (join n w u v d m s) s (λ f. join_kept w u v d m s lw lu ((tells_lt m n).shows f)) (λ f i l. refl))

  tell_kept : (u v d : ℕ) (s : List ℕ) → u < n → Kept s (tell n u v d s)
  unfolding tell tell_one
  tell_kept u v d s lu = loop_keeps (Kept s) n _ s (λ i l. refl) (λ w x lw h. either (up n u w x && up n w u x) s (send n u w v d x) x (λ e i l. send_kept u w v d x lu lw i l ∙ h i l) (λ e. h))

  renew_kept : (u v : ℕ) (b : Way) (s : List ℕ) → u < n → v < n → Kept s (renew n u v b s)
  unfolding renew
  renew_kept u v b s lu lv =
      let stored = store n u v b s in
      let told = tell n u v b.distance stored in
      let same = eqb b.distance (get2 n Distances u v s) in
      either (eqb u v) s s (cond same stored told)
      (λ e i l. refl)
      (λ e. either same s stored told (λ f. store_kept u v b s lu lv) (λ f i l. tell_kept u v b.distance stored lu i l ∙ store_kept u v b s lu lv i l))

links_other : (t' : Table) → rank t' ≢ 0 → rank t' ≢ 3 → rank Links ≢ rank t'
links_other t' f g e = f (sym e)

views_other : (t' : Table) → rank t' ≢ 0 → rank t' ≢ 3 → rank Views ≢ rank t'
views_other t' f g e = g (sym e)

module _ (n u : ℕ) (lu : u < n) where
  -- What is found for v stays while x is recomputed, and while all below k are.
  best_kept : (v x : ℕ) (s : List ℕ) → v < n → x < n → best n u v (recompute n u x s) ≡ best n u v s
  unfolding best nearer recompute renew
  best_kept v x s lv lx =
      loop_same n _ _ _ (λ w b lw. rw (renew_kept n Links links_other u x _ s lu lx (u * n + w) (cell2_lt lu lw), renew_kept n Views views_other u x _ s lu lx ((u * n + w) * n + v) (cell3_lt lu lw lv)))

  best_stays : (v k : ℕ) (s : List ℕ) → v < n → k ≤ n → best n u v (loop k (recompute n u) s) ≡ best n u v s
  best_stays v k s lv lk = loop_keeps (λ (x : List ℕ). best n u v x ≡ best n u v s) k _ s refl (λ i x l e. best_kept v i x lv (omega arith) ∙ e)

  -- So what was found before all of them serves each.
  pub renewed : (v : ℕ) (b : Way) (s₀ s : List ℕ) {t : List ℕ} → v < n → s ≡ loop v (recompute n u) s₀ → b ≡ best n u v s₀ → t ≡ renew n u v b s → t ≡ recompute n u v s
  unfolding recompute renew
  renewed v b s₀ s lv e h r = r ∙ ap (λ (x : Way). renew n u v x s) (h ∙ sym (best_stays v v s₀ lv (omega arith)) ∙ ap (best n u v) (sym e))
