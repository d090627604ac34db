-- Each question, where it goes on: what the code reads or counts is the answer of the call's outcome. Assumes nothing.
use Rattle.std.specs.Prelude.{Result, Ok, Err}
use mathlib.Core.Path.{◌≡◌, refl, sym, ap, ◌∙◌}
use mathlib.Core.List.{List, [], ◌∷◌}
use Prim.Native.Nat.{ℕ, ◌≤◌, ◌<◌}
use native.Mathlib.Omega.{arith}
use lib.ListN.{length}
use borrow.Author.Tests.{ltb-false}
use Rattle.hop_rule.specs.declared.Refused.{Refused}
use Rattle.hop_rule.specs.declared.Table.TheVariants.{Lengths}
use Rattle.hop_rule.specs.Rule as rule
use Rattle.hop_rule.specs.Route as question
use Rattle.hop_rule.specs.Stored.{nodes, read_as, read}
use Rattle.hop_rule.specs.Records.{record_of, status_record, written}
use Rattle.hop_rule.specs.Calls.{Call, route, queue_length, total_queued, status, judge, refusals, short, done, outcome}
use Rattle.hop_laws.specs.Fine.{Fine}
use Rattle.hop_laws.proofs.Calls.{judge_none}
use Rattle.hop_laws.proofs.Records.{length_status}
use Rattle.hop_laws.proofs.Ceiling.{total_fits, waiting_for_fits, waiting_from_fits, reached_fits}
use Rattle.hop_cells.specs.declared.Way.{Way}
use Rattle.hop_cells.specs.Cells.{Room, get2, Reads}
use Rattle.hop_cells.proofs.Read.{length_read}
use Rattle.hop_counts.specs.Counts as counts
use Rattle.hop_bridge.proofs.Top.{queued_read, waiting_for_read, waiting_from_read, reached_read}
use Rattle.hop_judge.specs.Verdict.{Judges}
use Rattle.hop_judge.proofs.Judging.{gone, call_refused, call_done}
use Rattle.hop_judge.proofs.Known.{claim_known, fine_known, room_known, node_known}
use Rattle.hop_ask.specs.Answers.{asked, directed}

module _ (s : List ℕ) {j : Result ℕ Refused} {n : ℕ} (g : j ≡ Ok n) {x : ℕ} where
  -- Common to those with one value but status: what the code has is what the call answers.
  read_asked : (k : Call) {y : ℕ} → Judges (judge (refusals k s [])) (nodes s) j → asked (Ok y) s [] ≡ done k s [] → (n ≡ nodes s → x ≡ y) → asked (Ok x) s [] ≡ outcome k s []
  read_asked k e answer h = ap (λ v. asked (Ok v) s []) (h (gone _ _ e g).1) ∙ answer ∙ call_done k s [] (nodes s) e g

  pub total_asked : Judges (judge (refusals total_queued s [])) (nodes s) j → x ≡ counts.queued n s → asked (Ok x) s [] ≡ outcome total_queued s []
  unfolding refusals done
  total_asked e h = read_asked total_queued e refl (λ claim. h ∙ ap (λ m. counts.queued m s) claim ∙ queued_read s (fine_known s [] e g))

  pub length_asked : (a b : ℕ) → Judges (judge (refusals (queue_length a b) s [])) (nodes s) j → x ≡ get2 n Lengths a b s → asked (Ok x) s [] ≡ outcome (queue_length a b) s []
  unfolding done
  length_asked a b e h = read_asked (queue_length a b) e refl (λ claim. h ∙ length_read s claim a b)

-- A route has two answers.
pub route_asked : (s : List ℕ) {j : Result ℕ Refused} {n : ℕ} (u v : ℕ) {r : Way} → Judges (judge (refusals (route u v) s [])) (nodes s) j → j ≡ Ok n → Reads r (question.route (read_as n s) u v)
    → directed (Ok r) s ≡ outcome (route u v) s []
unfolding done
route_asked s u v e g h = rw (h.distance, h.downstream, (gone _ _ e g).1) (call_done (route u v) s [] (nodes s) e g)

-- And none where it is refused.
pub route_refused : (s : List ℕ) {j : Result ℕ Refused} (u v : ℕ) → Judges (judge (refusals (route u v) s [])) (nodes s) j → {r : Refused} → j ≡ Err r → directed (Err r) s ≡ outcome (route u v) s []
route_refused s u v e f = call_refused (route u v) s [] (nodes s) e f

-- ---- status

-- The five numbers of a status record as the code counts them.
pub record Counted (s : List ℕ) (n u for from reached total : ℕ) : Type 0 where
  pub for_it : for ≡ counts.waiting_for n u s
  pub from_it : from ≡ counts.waiting_from n u s
  pub reaches : reached ≡ counts.reached n u s
  pub in_all : total ≡ counts.queued n s

pub counted : {s : List ℕ} {n u for from reached total : ℕ} → for ≡ counts.waiting_for n u s → from ≡ counts.waiting_from n u s → reached ≡ counts.reached n u s → total ≡ counts.queued n s → Counted s n u for from reached total
counted a b c d = record { for_it = a; from_it = b; reaches = c; in_all = d }

module _ (s out : List ℕ) (u : ℕ) {j : Result ℕ Refused} (e : Judges (judge (refusals (status u) s out)) (nodes s) j) {n : ℕ} (g : j ≡ Ok n) where
  claim : n ≡ nodes s
  unfolding refusals
  claim = claim_known s _ e g

  fine : Fine s
  unfolding refusals
  fine = fine_known s _ e g

  node : (u < nodes s) × (judge (short out 14 ∷ []) ≡ 0)
  unfolding refusals
  node = node_known s u _ e g

  -- So the code may count for node u.
  pub status_counts : Room n s × (u < n)
  unfolding refusals
  status_counts = (room_known s _ e g, omega (arith, node.0, claim))

  status_room : 14 ≤ length out
  status_room = ltb-false (length out) 14 (judge_none (short out 14) [] (omega arith) node.1).0

  module _ {for from reached total : ℕ} (h : Counted s n u for from reached total) where
    is_for : for ≡ rule.waiting_for (read s) u
    is_for = h.for_it ∙ ap (λ m. counts.waiting_for m u s) claim ∙ waiting_for_read s fine u node.0

    is_from : from ≡ rule.waiting_from (read s) u
    is_from = h.from_it ∙ ap (λ m. counts.waiting_from m u s) claim ∙ waiting_from_read s fine u node.0

    is_reached : reached ≡ rule.reached (read s) u
    is_reached = h.reaches ∙ ap (λ m. counts.reached m u s) claim ∙ reached_read s fine u node.0

    is_total : total ≡ rule.total (read s)
    is_total = h.in_all ∙ ap (λ m. counts.queued m s) claim ∙ queued_read s fine

    -- Soundness makes them fit.
    pub status_ready : (14 ≤ length out) × (u < 65536) × (for < 65536) × (from < 65536) × (reached < 65536) × (total < 65536)
    unfolding read_as
    status_ready =
        let sound = fine.sound.state in (
          status_room,
          omega (arith, node.0, fine.most),
          omega (arith, is_for, waiting_for_fits (read s) sound fine.most u node.0),
          omega (arith, is_from, waiting_from_fits (read s) sound fine.most u node.0),
          omega (arith, is_reached, reached_fits (read s) sound fine.most u node.0),
          omega (arith, is_total, total_fits (read s) sound fine.most),
        )

    pub status_asked : {after : List ℕ} → after ≡ written (record_of 1 (u ∷ for ∷ from ∷ reached ∷ total ∷ [])) out → asked (Ok 14) s after ≡ outcome (status u) s out
    unfolding done status_record
    status_asked h =
        let r = status_record (read s) u in
        let same : record_of 1 (u ∷ for ∷ from ∷ reached ∷ total ∷ []) ≡ r = rw (is_for, is_from, is_reached, is_total) in
        ap (λ k. asked (Ok 14) s k) (h ∙ ap (λ k. written k out) same) ∙ ap (λ k. asked (Ok k) s (written r out)) (sym (length_status (read s) u)) ∙ call_done (status u) s out (nodes s) e g
