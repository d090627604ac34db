-- `full` meets its contract: the set, the bits and the faults are those of the entries passed, and at the end they decide. Assumes nothing.
use mathlib.Core.Path.{◌≡◌, refl, sym, ap, ◌∙◌}
use mathlib.Core.Logic.{inl, inr}
use Prim.Native.Nat.{ℕ, ◌+◌, ◌%◌}
use native.Mathlib.Omega.{arith}
use lib.Bits.{bit_and, bit_or, bit_xor}
use lib.Dec.{eqb, ltb}
use lib.ListN.{length, get_or}
use Rattle.hop_rows.specs.Rows.{byte}
use Rattle.hop_rows.proofs.Every.{every_none}
use Rattle.hop_rows.proofs.Parts.{byte_of, given_none, given_next, given_all}
use Rattle.hop_seen.specs.Seen.{added, below}
use Rattle.hop_seen.proofs.Faults.{xor_none, faults_more, low_turn}
use Rattle.hop_seen.proofs.Seen.{seen_none, seen_more, one_shifted, six_bits, full_found}
use Rattle.hop_seen.proofs.full.Goals as goal

pub loop-v-init : goal.loop-v-init
loop-v-init c = (0, given_none c.args.destinations.now c.args.values.now c.requires.2 (cc) (cc), seen_none _, sym (every_none _), sym (every_none _))

pub loop-v-preserved : goal.loop-v-preserved
loop-v-preserved c =
    let turn = c.loop-v in
    let inv = turn.invariant in
    let k = inv.0 in
    let destination = byte c.args.destinations.now 0 in
    let distances = c.args.distances.now in
    let v = c.in-Some.v.now in
    let x = c.in-Some.x.now in
    let next = given_next inv.1 c.in-Some.ensures.steps in
    let found : eqb x (get_or distances c.from.result 0) ≡ eqb (byte c.args.values.now 0 k) (byte distances 0 (destination k)) =
    rw (c.from.ensures, next.first, next.second, byte_of distances (destination k)) refl in (
      k + 1,
      next.given,
      seen_more (λ q. destination q % 64) k inv.2 (c.added-set.ensures ∙ ap (λ (x : ℕ). added turn.set (bit_and x 63)) next.first ∙ ap (added turn.set) (six_bits (destination k))),
      ap (λ (x : ℕ). ltb (bit_or turn.bits x) 64) next.first ∙ low_turn 6 k destination turn.bits inv.3,
      faults_more _ _ turn.faults (bit_xor x (get_or distances c.from.result 0)) inv.4 (xor_none x (get_or distances c.from.result 0) ∙ found),
    )

pub returns : goal.returns
unfolding below
returns c =
    let turn = c.loop-v in
    let inv = turn.invariant in
    let destinations = c.args.destinations.now in
    let over : inv.0 ≡ length destinations = given_all inv.1 (elim c.in-None.ensures.steps [ inl z ↦ inl z.1.0 | inr z ↦ inr z.1.0 ]) in
    rw (one_shifted _ c.requires.1) (full_found _ _ _ (omega arith) turn.bits turn.set turn.faults (rw over at inv.3) (rw over at inv.2) (rw over at inv.4))
