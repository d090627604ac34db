-- A buffer that check accepts: on it only a call's own arguments are judged, the questions answer what is read there, and a sound state that is stored is such a buffer. Assumes nothing.
use mathlib.Core.Path.{◌≡◌, sym, ap, ◌∙◌}
use mathlib.Core.Logic.{◌≢◌}
use mathlib.Core.Bool.{not}
use mathlib.Core.List.{List, [], ◌∷◌, ◌++◌}
use Prim.Native.Nat.{ℕ, ◌≤◌, ◌<◌}
use native.Mathlib.Decide.{ℕ_discrete}
use native.Mathlib.Omega.{arith}
use lib.ListN.{length, length-append}
use borrow.Author.Tests.{eqb-false, leb-false, ne_eqb, lt-leb, le-ltb}
use Rattle.hop_rule.specs.State.{State}
use Rattle.hop_rule.specs.Rule.{total}
use Rattle.hop_rule.specs.Stored.{size, stored, nodes, read_as, read}
use Rattle.hop_rule.specs.Sound.{Linked, Sound}
use Rattle.hop_rule.specs.Calls.{check, route, queue_length, total_queued, Refusal, judge, empty, bad_count, short, not_sound, no_node, one_node, is_up, still_up, on_state, refusals, answer_at, answered, done, outcome}
use Rattle.hop_laws.specs.Fine.{Fine}
use Rattle.hop_laws.proofs.Tests.{tells_not_so}
use Rattle.hop_laws.proofs.Sound.{tells_sends, sound_bytes_tells}
use Rattle.hop_laws.proofs.Notice.{tells_one_ended, both_down}
use Rattle.hop_laws.proofs.Stored.{nodes_stored, length_stored}
use Rattle.hop_laws.proofs.Read.{stored_sound}
use Rattle.hop_laws.proofs.Ceiling.{none_own}
use Rattle.hop_laws.proofs.Calls.{judge_next, judge_none, count_good, state_fine, outcome_done, outcome_number, answer_done}

pub accepted_fine : (s : List ℕ) → (outcome check s []).number ≡ 0 → Fine s
unfolding refusals
accepted_fine s z = (state_fine s [] (sym (outcome_number check s []) ∙ z)).0

-- Two ends that no refusal names are two nodes.
pub ends_known : (s : List ℕ) (a b : ℕ) (more : List Refusal) → judge (on_state s (no_node s a ∷ no_node s b ∷ one_node a b ∷ more)) ≡ 0 → (a < nodes s) × (b < nodes s) × (a ≢ b) × (judge more ≡ 0)
ends_known s a b more z =
    let (first, z₁) = judge_none (no_node s a) _ (omega arith) (state_fine s _ z).1 in
    let (second, z₂) = judge_none (no_node s b) _ (omega arith) z₁ in
    let (apart, z₃) = judge_none (one_node a b) _ (omega arith) z₂ in
    (leb-false (nodes s) a first, leb-false (nodes s) b second, eqb-false a b apart, z₃)

-- Two ends where link up is refused with neither 6 nor 13 are both down.
pub up_known : (s : List ℕ) (a b : ℕ) → judge (is_up s a b ∷ still_up s a b ∷ []) ≡ 0 → (Linked (read s) a b → ⊥) × (Linked (read s) b a → ⊥)
up_known s a b z =
    let (both, z₁) = judge_none (is_up s a b) _ (omega arith) z in
    let (one, z₂) = judge_none (still_up s a b) [] (omega arith) z₁ in
    both_down (read s) a b (tells_not_so (tells_sends (read s) a b) both) (tells_not_so (tells_one_ended (read s) a b) one)

module _ (s : List ℕ) (f : Fine s) where
  -- ---- what is judged

  -- None of the state's own refusals applies.
  pub fine_judged : (more : List Refusal) → judge (on_state s more) ≡ judge more
  fine_judged more =
      judge_next (empty s) _ (ne_eqb (length s) 0 (λ e. omega (arith, f.some)))
      ∙ judge_next (bad_count (nodes s)) _ (count_good (nodes s) f.least f.most)
      ∙ judge_next (short s (size (nodes s))) _ (le-ltb (length s) (size (nodes s)) f.room)
      ∙ judge_next (not_sound s) _ (ap not ((sound_bytes_tells s).if_so f.sound))

  pub fine_accepts : judge (on_state s []) ≡ 0
  unfolding judge
  fine_accepts = fine_judged []

  pub fine_accepted : (outcome check s []).number ≡ 0
  unfolding refusals
  fine_accepted = outcome_number check s [] ∙ fine_accepts

  -- Neither does the refusal of a node that is there, nor that of one node named twice.
  pub fine_nodes : (u v : ℕ) (more : List Refusal) → u < nodes s → v < nodes s → judge (on_state s (no_node s u ∷ no_node s v ∷ more)) ≡ judge more
  fine_nodes u v more lu lv = fine_judged (no_node s u ∷ no_node s v ∷ more) ∙ judge_next (no_node s u) (no_node s v ∷ more) (lt-leb (nodes s) u lu) ∙ judge_next (no_node s v) more (lt-leb (nodes s) v lv)

  pub fine_ends : (w u : ℕ) (more : List Refusal) → w < nodes s → u < nodes s → w ≢ u → judge (on_state s (no_node s w ∷ no_node s u ∷ one_node w u ∷ more)) ≡ judge more
  fine_ends w u more lw lu apart = fine_nodes w u (one_node w u ∷ more) lw lu ∙ judge_next (one_node w u) more (ne_eqb w u apart)

  -- ---- what is answered

  pub fine_total : answer_at 0 (outcome total_queued s []) ≡ total (read s)
  unfolding refusals done
  fine_total = ap (answer_at 0) (outcome_done total_queued s [] fine_accepts)

  pub fine_route : (u v : ℕ) → u < nodes s → v < nodes s → outcome (route u v) s [] ≡ answered ((read s).distance u v ∷ (read s).downstream u v ∷ []) s []
  unfolding refusals done judge
  fine_route u v lu lv = outcome_done (route u v) s [] (fine_nodes u v [] lu lv)

  -- A queue's length is answered for two nodes, and for no others. Of a node with itself nothing waits, so that the answer 0 is right there too.
  length_known : (w u : ℕ) → 0 < answer_at 0 (outcome (queue_length w u) s []) → (w < nodes s) × (u < nodes s) × (w ≢ u)
  unfolding refusals
  length_known w u l = let (lw, lu, apart, last) = ends_known s w u [] (answer_done (queue_length w u) s [] 0 l) in (lw, lu, apart)

  pub fine_length_nodes : (w u : ℕ) → 0 < answer_at 0 (outcome (queue_length w u) s []) → (w < nodes s) × (u < nodes s)
  fine_length_nodes w u l = let (lw, lu, apart) = length_known w u l in (lw, lu)

  pub fine_length : (w u : ℕ) → w < nodes s → u < nodes s → answer_at 0 (outcome (queue_length w u) s []) ≡ length ((read s).queue w u)
  unfolding refusals done read_as judge
  fine_length w u lw lu = go (ℕ_discrete w u)
    where
      go : Dec (w ≡ u) → answer_at 0 (outcome (queue_length w u) s []) ≡ length ((read s).queue w u)
      go (yes e) =
          let none : length ((read s).queue w u) ≡ 0 = rw e (none_own (read s) f.sound.state u lu) in
          let zero : ¬ (0 < answer_at 0 (outcome (queue_length w u) s [])) = λ l. (length_known w u l).2 e in
          omega arith
      go (no apart) = ap (answer_at 0) (outcome_done (queue_length w u) s [] (fine_ends w u [] lw lu apart))

-- ---- a state that is stored

module _ (t : State) (o : Sound t) (r : List ℕ) (some : 1 ≤ t.n) (most : t.n ≤ 40) where
  pub stored_fine : Fine (stored t ++ r)
  unfolding size
  stored_fine =
      let e = nodes_stored t r in
      let long : size t.n ≤ length (stored t ++ r) = omega (arith, length-append (stored t) r, length_stored t) in
      record { some = omega (arith, long); least = rw e some; most = rw e most; room = rw e long; sound = stored_sound o r }
