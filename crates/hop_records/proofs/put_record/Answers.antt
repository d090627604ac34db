-- `hop_records::put_record` meets its contract: each turn stores one word more, and at the end the words are the record. Assumes nothing.
use mathlib.Core.Path.{◌≡◌, ◌∙◌}
use mathlib.Core.List.{List, [], ◌∷◌}
use Prim.Native.Nat.{ℕ, ◌+◌, ◌*◌}
use native.Mathlib.Omega.{arith}
use lib.ListN.{length, take}
use Rattle.std.proofs.lemmas.List.{length-take-le, take_all, take_more}
use Rattle.hop_records.proofs.Stores.{word_more, stored_record}
use Rattle.hop_records.proofs.put_record.Goals as goal

pub loop-i-init : goal.loop-i-init
loop-i-init g c = rw (c.write_word-2.ensures, c.write_word.ensures) (word_more (_ ∷ []) _ _ _ (omega arith))

pub loop-i-preserved : goal.loop-i-preserved
loop-i-preserved g c =
    let ws : List ℕ = (2 + 2 * g.row.N) ∷ c.args.kind ∷ take c.loop-i.i c.args.body in
    let long : length (take c.loop-i.i c.args.body) ≡ c.loop-i.i = length-take-le c.loop-i.i c.args.body (omega arith) in
    rw (c.write_word-in-loop-i.ensures, c.loop-i.invariant, take_more c.args.body c.loop-i.i 0 (omega arith)) (word_more ws _ _ _ (omega arith))

pub returns : goal.returns
returns g c = c.loop-i.invariant ∙ rw (take_all c.loop-i.i c.args.body (omega arith)) (stored_record _ _ _ _ (omega arith) (omega arith))
