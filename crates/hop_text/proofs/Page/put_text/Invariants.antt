-- The bytes before this turn's are on the page.
use Rattle.std.specs.Prelude.{take}
use Rattle.hop_text.specs.Writing.{Puts}
use Rattle.hop_text.proofs.Page.put_text.Given as goal

abbrev pub invariant-loop-b : goal.invariant-loop-b
invariant-loop-b l = Puts (take l.b-index l.text) l.initial.self l.self
