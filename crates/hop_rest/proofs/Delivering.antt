-- Single deliveries on bytes: every call that is done leaves the rule's next state stored where the last one was, and a pass by calls is a pass of that state. Assumes nothing.
use mathlib.Core.Path.{◌≡◌, refl, sym, ap, subst, ◌∙◌}
use mathlib.Core.Bool.{not}
use mathlib.Core.List.{List, [], ◌∷◌, ◌++◌, flatten}
use Prim.Native.Nat.{ℕ, suc, ◌*◌, ◌-◌, ◌≤◌, ◌<◌}
use native.Mathlib.Nat.{le_of_eq}
use native.Mathlib.Decide.{ℕ_discrete, dec_lt}
use native.Mathlib.Omega.{arith}
use lib.ListN.{length, drop}
use lib.Seq.{drop_at}
use borrow.Author.Tests.{ne_eqb}
use Rattle.hop_rule.specs.State.{State}
use Rattle.hop_rule.specs.Rule as rule
use Rattle.hop_rule.specs.Stored.{size, stored, nodes, read_as, read}
use Rattle.hop_rule.specs.Sound.{Sends}
use Rattle.hop_rule.specs.Calls.{check, deliver, queue_length, total_queued, Refusal, judge, not_sending, nothing_waits, refusals, restored, done, outcome}
use Rattle.hop_laws.specs.Same.{Same}
use Rattle.hop_laws.specs.Fine.{Fine}
use Rattle.hop_laws.proofs.Tests.{tells_eq, tells_and, decides}
use Rattle.hop_laws.proofs.Sound.{tells_sends}
use Rattle.hop_laws.proofs.Stored.{length_stored}
use Rattle.hop_laws.proofs.Same.{stored_same}
use Rattle.hop_laws.proofs.Read.{stored_read}
use Rattle.hop_laws.proofs.Ceiling.{total_most}
use Rattle.hop_laws.proofs.Calls.{judge_next, outcome_done, outcome_refused, outcome_number}
use Rattle.hop_laws.proofs.Accepted.{accepted_fine, ends_known, fine_ends, fine_accepted, fine_total, fine_length, fine_length_nodes}
use Rattle.hop_rest.specs.Orders.{Queue, Nodes, deliveries, count, Pass, Passes, after}
use Rattle.hop_rest.specs.OnBytes.{asked, RestedBytes, SettledBytes, delivery, delivering, NoneRefused, PassBytes, PassesBytes, DeliveriesSettle}
use Rattle.hop_rest.specs.Delivered.{Over, Delivered, Within}
use Rattle.hop_rest.proofs.Frame.{deliver_n}
use Rattle.hop_rest.proofs.Right.{over_self, over_sends}
use Rattle.hop_rest.proofs.Delivered.{deliver_over}
use Rattle.hop_rest.proofs.Runs.{count_at, count_other, within_first, deliveries_over}
use Rattle.hop_rest.proofs.Ascending.{deliveries_both}
use Rattle.hop_rest.proofs.Same.{deliver_same}
use Rattle.hop_rest.proofs.Settling.{passes_settle}
use Rattle.hop_rest.proofs.OnBytes.{over_head, over_read, over_fine, rested_bytes, settled_bytes}
use Rattle.hop_rest.proofs.Comes.{comes_to_rest}

-- ---- one list behind another

refused_both : (s : List ℕ) (p q : List Queue) → NoneRefused s p → NoneRefused (delivering s p) q → NoneRefused s (p ++ q)
unfolding delivering
refused_both s [] q h k = k
refused_both s (x ∷ p) q h k = (h.0, refused_both (delivery s x).bytes p q h.1 k)

after_deliveries : (s : State) (ps : List (List Queue)) → after s ps ≡ deliveries s (flatten ps)
unfolding after deliveries flatten
after_deliveries s [] = refl
after_deliveries s (p ∷ ps) = after_deliveries (deliveries s p) ps ∙ sym (deliveries_both s p (flatten ps))

-- ---- a pass by calls

-- Between nodes are those lists that name only nodes.
count_nodes : (n : ℕ) (qs : List Queue) → ((w u : ℕ) → 0 < count w u qs → (w < n) × (u < n)) → Nodes n qs
unfolding count
count_nodes n [] h = tt
count_nodes n (q ∷ qs) h =
    let first = h q.sender q.receiver (omega (arith, count_at q.sender q.receiver q qs refl refl)) in
    (first.0, first.1, count_nodes n qs (λ w u l. h w u (omega arith)))

nodes_count : (n : ℕ) (qs : List Queue) → Nodes n qs → (w u : ℕ) → 0 < count w u qs → (w < n) × (u < n)
unfolding count
nodes_count n [] l w u c = absurd (omega arith)
nodes_count n (q ∷ qs) l w u c = go (decides (tells_and (tells_eq w q.sender) (tells_eq u q.receiver))) (nodes_count n qs l.2 w u)
  where
    go : Dec ((w ≡ q.sender) × (u ≡ q.receiver)) → (0 < count w u qs → (w < n) × (u < n)) → (w < n) × (u < n)
    go (yes p) more = (rw p.0 l.0, rw p.1 l.1)
    go (no f) more = more (omega (arith, count_other w u q qs (λ i j. f (i, j))))

-- Two numbers that are equal for nodes, and 0 for all others.
equal_within : (n w u x y : ℕ) → (0 < x → (w < n) × (u < n)) → (0 < y → (w < n) × (u < n)) → (w < n → u < n → x ≡ y) → x ≡ y
equal_within n w u x y f h e = go (dec_lt 0 x) (dec_lt 0 y)
  where
    go : Dec (0 < x) → Dec (0 < y) → x ≡ y
    go (yes l) m = e (f l).0 (f l).1
    go (no l) (yes m) = e (h m).0 (h m).1
    go (no l) (no m) = omega arith

-- So a pass by calls is one of the state that is read, and the other way round.
module _ (s : List ℕ) (f : Fine s) (qs : List Queue) where
  pub pass_read : PassBytes s qs → Pass (read s) qs
  unfolding read_as
  pass_read h = record {
    nodes = count_nodes (nodes s) qs (λ w u l. fine_length_nodes s f w u (omega (arith, h w u)));
    each = λ w u lw lu. h w u ∙ fine_length s f w u lw lu;
  }

  pub read_pass : Pass (read s) qs → PassBytes s qs
  unfolding read_as
  read_pass p w u =
      equal_within (nodes s) w u (count w u qs) (asked (queue_length w u) s) (nodes_count (nodes s) qs p.nodes w u) (fine_length_nodes s f w u) (λ lw lu. p.each w u lw lu ∙ sym (fine_length s f w u lw lu))

pass_same : {s t : State} {qs : List Queue} → Same s t → Pass s qs → Pass t qs
pass_same {s} {t} {qs} e p = record {
  nodes = subst (λ (m : ℕ). Nodes m qs) e.n p.nodes;
  each = λ w u lw lu. p.each w u (omega (arith, e.n)) (omega (arith, e.n)) ∙ ap length (e.queue w u (omega (arith, e.n)) (omega (arith, e.n)));
}

-- ---- one delivery on the buffer of a state

-- The rule's delivery from a queue, and what is judged of the call's after its two nodes.
abbrev next : State → Queue → State
next t q = rule.deliver t q.sender q.receiver

abbrev of_queue : List ℕ → Queue → List Refusal
of_queue s q = not_sending s q.sender q.receiver ∷ nothing_waits s q.sender q.receiver ∷ []

pub restored_same : {t r : State} (s : List ℕ) → Same t r → restored t s ≡ restored r s
restored_same s e = rw (stored_same e, e.n)

-- What is stored over a stored state of as many nodes is stored over the bytes as they were.
pub restored_twice : (s : List ℕ) (t r : State) → r.n ≡ t.n → restored r (restored t s) ≡ restored r s
restored_twice s t r e = ap (λ x. stored r ++ x) (rw e (drop_at (stored t) (drop (size t.n) s) (size t.n) (length_stored t)))

module _ (s : List ℕ) (f : Fine s) (t : State) (o : Over (read s) t) (q : Queue) where
  judged : (delivery (restored t s) q).number ≡ judge (refusals (deliver q.sender q.receiver) (restored t s) [])
  judged = outcome_number (deliver q.sender q.receiver) (restored t s) []

  -- One that is done is between two nodes, and leaves the rule's next state.
  call_nodes : (delivery (restored t s) q).number ≡ 0 → (q.sender < (read s).n) × (q.receiver < (read s).n)
  unfolding refusals read_as
  call_nodes z =
      let (lw, lu, apart, last) = ends_known (restored t s) q.sender q.receiver (of_queue (restored t s) q) (sym judged ∙ z) in
      (rw (over_head s f t o) at lw, rw (over_head s f t o) at lu)

  call_over : (delivery (restored t s) q).number ≡ 0 → Over (read s) (next t q)
  call_over z = let (lw, lu) = call_nodes z in deliver_over (read s) t q.sender q.receiver o lw lu

  call_leaves : (delivery (restored t s) q).number ≡ 0 → (delivery (restored t s) q).bytes ≡ restored (next t q) s
  unfolding done
  call_leaves z =
      let (lw, lu) = call_nodes z in
      let same = over_read s f t o in
      ap (λ x. x.bytes) (outcome_done (deliver q.sender q.receiver) (restored t s) [] (sym judged ∙ z))
      ∙ restored_same (restored t s) (deliver_same q.sender q.receiver (over_fine s f t o).sound.state (omega (arith, same.n, o.nodes)) (omega (arith, same.n, o.nodes)) same)
      ∙ restored_twice s t (next t q) (deliver_n t q.sender q.receiver)

  -- One from a queue that is not empty is done.
  call_done : Delivered (read s) t q.sender q.receiver (next t q) → (delivery (restored t s) q).number ≡ 0
  unfolding refusals judge read_as
  call_done d =
      let sound = f.sound.state in
      let same = over_read s f t o in
      let lw : q.sender < nodes (restored t s) = rw (over_head s f t o) d.sender in
      let lu : q.receiver < nodes (restored t s) = rw (over_head s f t o) d.receiver in
      let there = over_sends (read s) t o q.sender q.receiver d.sender d.receiver d.linked in
      let sends : Sends (read (restored t s)) q.sender q.receiver = (same.link _ _ lw lu ∙ there.0, same.link _ _ lu lw ∙ there.1) in
      let waits : length ((read (restored t s)).queue q.sender q.receiver) ≡ suc (length d.rest) = ap length (same.queue _ _ lw lu ∙ d.waited) in
      let apart : q.sender ≡ q.receiver → ⊥ = λ e. omega (arith, d.linked.1, subst (λ (x : ℕ). (read s).link q.receiver x ≡ 0) (sym e) (sound.diagonal _ d.receiver)) in
      judged
      ∙ fine_ends (restored t s) (over_fine s f t o) q.sender q.receiver (of_queue (restored t s) q) lw lu apart
      ∙ judge_next (not_sending (restored t s) q.sender q.receiver) (nothing_waits (restored t s) q.sender q.receiver ∷ []) (ap not ((tells_sends (read (restored t s)) q.sender q.receiver).if_so sends))
      ∙ judge_next (nothing_waits (restored t s) q.sender q.receiver) [] (ne_eqb (length ((read (restored t s)).queue q.sender q.receiver)) 0 (λ z. omega (arith, waits)))

  -- Done or refused, it leaves the buffer of a state over the same links.
  call_keeps : (P : List ℕ → Type 0) → ((r : State) → Over (read s) r → P (restored r s)) → P (delivery (restored t s) q).bytes
  call_keeps P h = go (ℕ_discrete (judge (refusals (deliver q.sender q.receiver) (restored t s) [])) 0)
    where
      go : Dec (judge (refusals (deliver q.sender q.receiver) (restored t s) []) ≡ 0) → P (delivery (restored t s) q).bytes
      go (yes z) = subst P (sym (call_leaves (judged ∙ z))) (h (next t q) (call_over (judged ∙ z)))
      go (no e) = subst P (sym (ap (λ x. x.bytes) (outcome_refused (deliver q.sender q.receiver) (restored t s) [] e))) (h t o)

-- ---- deliveries one after another

module _ (s : List ℕ) (f : Fine s) where
  delivering_keeps : (P : List ℕ → Type 0) → ((r : State) → Over (read s) r → P (restored r s)) → (t : State) (qs : List Queue) → Over (read s) t → P (delivering (restored t s) qs)
  unfolding delivering
  delivering_keeps P h t [] o = h t o
  delivering_keeps P h t (q ∷ qs) o = call_keeps s f t o q (λ b. P (delivering b qs)) (λ r k. delivering_keeps P h r qs k)

  delivering_leaves : (t : State) (qs : List Queue) → Over (read s) t → NoneRefused (restored t s) qs → delivering (restored t s) qs ≡ restored (deliveries t qs) s
  unfolding delivering deliveries
  delivering_leaves t [] o h = refl
  delivering_leaves t (q ∷ qs) o h =
      let e = call_leaves s f t o q h.0 in
      ap (λ b. delivering b qs) e ∙ delivering_leaves (next t q) qs (call_over s f t o q h.0) (subst (λ b. NoneRefused b qs) e h.1)

  -- Deliveries that take from each queue no more than it held are all done.
  within_done : (t : State) (qs : List Queue) → Over (read s) t → Nodes (read s).n qs → Within (read s) t qs → NoneRefused (restored t s) qs
  within_done t [] o l h = tt
  within_done t (q ∷ qs) o l h =
      let (d, within) = within_first (read s) t q qs o l h in
      let z = call_done s f t o q d in
      (z, subst (λ b. NoneRefused b qs) (sym (call_leaves s f t o q z)) (within_done (next t q) qs d.recomputed l.2 within))

  -- So passes by calls are passes of the state, and none of their deliveries is refused.
  passes_done : (t : State) (ps : List (List Queue)) → Over (read s) t → PassesBytes (restored t s) ps → Passes t ps × NoneRefused (restored t s) (flatten ps)
  unfolding flatten
  passes_done t [] o h = (tt, tt)
  passes_done t (p ∷ ps) o h =
      let pass = pass_same (over_read s f t o) (pass_read (restored t s) (over_fine s f t o) p h.0) in
      let between : Nodes (read s).n p = subst (λ (m : ℕ). Nodes m p) o.nodes pass.nodes in
      let first = within_done t p o between (λ w u lw lu. le_of_eq (pass.each w u (omega (arith, o.nodes)) (omega (arith, o.nodes)))) in
      let e = delivering_leaves t p o first in
      let (passes, others) = passes_done (deliveries t p) ps (deliveries_over (read s) t p o between) (subst (λ b. PassesBytes b ps) e h.1) in
      ((pass, passes), refused_both (restored t s) p (flatten ps) first (subst (λ b. NoneRefused b (flatten ps)) (sym e) others))

-- ---- the statement

module _ (s : List ℕ) (accepted : (outcome check s []).number ≡ 0) where
  fine : Fine s
  fine = accepted_fine s accepted

  start : Over (read s) (read s)
  start = over_self fine.sound.state

  -- The buffer is that of the state which it holds.
  from_own : (P : List ℕ → Type 0) → P (restored (read s) s) → P s
  unfolding read_as
  from_own P p = subst P (stored_read s fine.room fine.sound) p

  passed : (ps : List (List Queue)) → PassesBytes s ps → Passes (read s) ps × NoneRefused s (flatten ps)
  passed ps = from_own (λ b. PassesBytes b ps → Passes (read s) ps × NoneRefused b (flatten ps)) (passes_done s fine (read s) ps start)

  leaves : (qs : List Queue) → NoneRefused s qs → delivering s qs ≡ restored (deliveries (read s) qs) s
  leaves qs = from_own (λ b. NoneRefused b qs → delivering b qs ≡ restored (deliveries (read s) qs) s) (delivering_leaves s fine (read s) qs start)

  keeps : (P : List ℕ → Type 0) → ((r : State) → Over (read s) r → P (restored r s)) → (qs : List Queue) → P (delivering s qs)
  keeps P h qs = from_own (λ b. P (delivering b qs)) (delivering_keeps s fine P h (read s) qs start)

  -- What passes leave is the buffer of the state after them.
  left : (ps : List (List Queue)) → PassesBytes s ps → delivering s (flatten ps) ≡ restored (after (read s) ps) s
  left ps h = leaves (flatten ps) (passed ps h).1 ∙ ap (λ t. restored t s) (sym (after_deliveries (read s) ps))

  over : (ps : List (List Queue)) → PassesBytes s ps → Over (read s) (after (read s) ps)
  over ps h = (passes_settle (read s) fine.sound.state ps (passed ps h).0).over

  pub deliveries_settle : DeliveriesSettle s
  unfolding read_as
  deliveries_settle =
      let rests = comes_to_rest (read s) fine.sound.state in
      record {
        passes = λ qs. (pass_read s fine qs, read_pass s fine qs);
        none_refused = λ ps h. (passed ps h).1;
        deliveries_most = λ ps h. rests.deliveries_most ps (passed ps h).0;
        rests = λ ps h l. subst (RestedBytes s) (sym (left ps h)) (rested_bytes s fine (after (read s) ps) (over ps h) (rests.rests ps (passed ps h).0 l));
        settles = λ agree ps h l. subst (SettledBytes s) (sym (left ps h)) (settled_bytes s fine (after (read s) ps) (over ps h) (rests.settles agree ps (passed ps h).0 l));
        left = leaves;
        accepted = keeps (λ b. (outcome check b []).number ≡ 0) (λ r o. fine_accepted _ (over_fine s fine r o));
        waiting_most = keeps (λ b. asked total_queued b ≤ nodes s * nodes s * (nodes s - 1)) (λ r o.
            let g = over_fine s fine r o in
            rw (fine_total _ g, ← over_head s fine r o) (total_most _ g.sound.state));
      }
