-- `put_routes` meets its contract: where a state is judged to be there, its cells can be read. Assumes nothing.
use Rattle.hop_text.proofs.Writing.{puts_nothing}
use Rattle.hop_replay.proofs.Checked.{routes_refused, room_now, routes_go}
use Rattle.hop_replay.proofs.put_routes.Goals as goal

pub invariant_of-put_all_routes : goal.invariant_of-put_all_routes
invariant_of-put_all_routes c = record { room = room_now _ c.judge_state.ensures c.in-Ok.is }

pub put_all_routes-requires : goal.put_all_routes-requires
put_all_routes-requires c = rw (routes_go _ c.judge_state.ensures c.in-Ok.is) at c.requires

pub returns-in_default : goal.returns-in_default
returns-in_default c = rw (routes_refused c.args.state.now c.judge_state.ensures c.in_default.is) (puts_nothing _)
