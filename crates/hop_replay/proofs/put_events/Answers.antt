-- `put_events` meets its contract. The invariant: to write the whole from the start is to write, from here, what is left. The place grows with each record. Assumes nothing.
use native.Mathlib.Omega.{arith}
use Rattle.hop_replay.proofs.Left.{reading_is, found_ends, found_on, found_next, end_done, refused_ends, refused_done}
use Rattle.hop_replay.proofs.put_events.Goals as goal

pub put_event-requires : goal.put_event-requires
put_event-requires c =
    rw (c.from.ensures, c.queued.ensures) (refused_ends c.loop-found.invariant c.read_from-step.ensures c.in-Err.is c.requires)

pub returns-in_default : goal.returns-in_default
returns-in_default c =
    refused_done c.loop-found.invariant c.read_from-step.ensures c.in-Err.is (rw (c.from.ensures, c.queued.ensures) at c.put_event.ensures)

pub put_applied-requires : goal.put_applied-requires
put_applied-requires c =
    found_ends c.loop-found.invariant c.read_from-step.ensures (reading_is c.in-Ok.is c.in-Some.is) c.requires

pub loop-found-smaller : goal.loop-found-smaller
loop-found-smaller c =
    omega (arith, found_on c.loop-found.invariant c.read_from-step.ensures (reading_is c.in-Ok.is c.in-Some.is))

pub loop-found-preserved : goal.loop-found-preserved
loop-found-preserved c =
    found_next c.loop-found.invariant c.read_from-step.ensures (reading_is c.in-Ok.is c.in-Some.is) c.put_applied.ensures.0 c.put_applied.ensures.1

pub returns-in_default-found : goal.returns-in_default-found
returns-in_default-found c = end_done c.loop-found.invariant c.read_from-step.ensures (reading_is c.in-Ok.is c.in_default-found.is)
