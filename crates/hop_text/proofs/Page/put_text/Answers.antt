-- `put_text` meets its contract: each turn writes the next byte of the text behind those before it. Assumes nothing.
use Rattle.std.proofs.lemmas.List.{take_more}
use Rattle.hop_text.proofs.Writing.{puts_both}
use Rattle.hop_text.proofs.Page.put_text.Goals as goal

pub loop-b-preserved : goal.loop-b-preserved
loop-b-preserved c = rw (take_more c.args.text.now c.loop-b.b-index 0 c.loop-b-test.true) (puts_both c.loop-b.invariant c.put_byte.ensures)
