-- 01, 'Refusal numbers', and the two of 02: the number of each refusal. 0 is done, and no refusal has it.
use Rattle.std.specs.Prelude.{ℕ, Result, Ok, Err}
use Rattle.hop_rule.specs.declared.Refused.{Refused}
use Rattle.hop_rule.specs.declared.Refused.TheVariants.{BadCount, Short, NotSound, NoNode, OneNode, IsUp, IsDown, NothingWaits, CutShort, UnknownKind, WrongLength, NotAtRest, OneEnded}

abbrev pub number : Refused → ℕ
-- the node count, asked for or the state's first byte, is not 1 to 40
number BadCount = 1
-- a buffer is shorter than needed
number Short = 2
number NotSound = 3
-- a node or destination number is not below n
number NoNode = 4
-- both ends are one node
number OneNode = 5
-- link up asked where it is up
number IsUp = 6
-- link down, a notice or delivery asked where it is down
number IsDown = 7
number NothingWaits = 8
-- a record is cut short; its kind is unknown; its length is not that of its kind
number CutShort = 9
number UnknownKind = 10
number WrongLength = 11
-- 02, R-1
number NotAtRest = 12
-- 02, R-5: a link has just one end up
number OneEnded = 13

-- What a call that may be refused answers first: 0 where it is done, and otherwise the refusal's number.
abbrev pub code : {A : Type 0} → Result A Refused → ℕ
code (Ok x) = 0
code (Err r) = number r
