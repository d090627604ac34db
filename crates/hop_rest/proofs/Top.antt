-- What follows from the definitions, as specs/ states it; each claim is proved in the file that it cites. Assumes nothing.
use mathlib.Core.Path.{sym, ◌∙◌}
use Rattle.hop_rule.specs.Calls.{outcome}
use Rattle.hop_rest.specs.Rest.{EverySoundStateRests}
use Rattle.hop_rest.specs.OnBytes.{EveryRunSettles, EveryDeliverySettles}
use Rattle.hop_rest.specs.Right.{EveryRestTrusts}
use Rattle.hop_rest.specs.Frame.{EveryDeliveryRewritesOnly, EveryNoticeRewritesOnly}
use Rattle.hop_rest.specs.Accepted.{AcceptedStays, MadeAccepted}
use Rattle.hop_rest.specs.Route.{EveryRouteTells, RestingRoutesRight, RefusedRouteIs0}
use Rattle.hop_rest.specs.Tails.{TailsUnread, TwoTailsOneAnswer, MakeReadsNothing}
use Rattle.hop_rest.specs.Ends.{EitherEndFirst, NoticesMeetAtDown, DownGivesMissing, StaysUntilNotice}
use Rattle.hop_rest.specs.Worth.{EveryLineRuns, EveryLineFits, EveryLineTells, EveryPairHasItsLine, EveryWorthTells, WorthTailUnread}
use Rattle.hop_rest.specs.Why.{EveryReasonShows, SidesApart, PathsAreWalks, ClosedSetsPart, EveryWhyTells, ListOfNFits, WhyTailUnread}
use Rattle.hop_rest.proofs.Comes as comes
use Rattle.hop_rest.proofs.Right as right
use Rattle.hop_rest.proofs.Rest as rest
use Rattle.hop_rest.proofs.OnBytes as bytes
use Rattle.hop_rest.proofs.Delivering as bytes_by_deliveries
use Rattle.hop_rest.proofs.Frame as frame
use Rattle.hop_rest.proofs.Accepted as accepted
use Rattle.hop_rest.proofs.Route as route
use Rattle.hop_rest.proofs.Tails as tails
use Rattle.hop_rest.proofs.AtOnce as at_once
use Rattle.hop_rest.proofs.Ends as ends
use Rattle.hop_rest.proofs.Alone as alone
use Rattle.hop_rest.proofs.Worth as worth
use Rattle.hop_rest.proofs.Lines as lines
use Rattle.hop_rest.proofs.WorthCall as worth_call
use Rattle.hop_rest.proofs.Why as why
use Rattle.hop_rest.proofs.WhyCall as why_call

-- ---- coming to rest, of states; of bytes by a run, and by single deliveries

pub every_sound_state_rests : EverySoundStateRests
every_sound_state_rests = comes.comes_to_rest

pub every_run_settles : EveryRunSettles
every_run_settles s k accepted enough = bytes.run_settles s accepted k enough

pub every_delivery_settles : EveryDeliverySettles
every_delivery_settles s accepted = bytes_by_deliveries.deliveries_settle s accepted

-- What distances are at rest beside links with one end up.
pub every_rest_trusts : EveryRestTrusts
every_rest_trusts s sound rests = rest.rest_right s s (right.over_self sound) rests

-- ---- what a delivery and a notice rewrite

pub delivery_rewrites_only : EveryDeliveryRewritesOnly
delivery_rewrites_only = frame.delivery_rewrites_only

pub notice_rewrites_only : EveryNoticeRewritesOnly
notice_rewrites_only = at_once.notice_rewrites_only

-- ---- accepted buffers

pub accepted_stays : AcceptedStays
accepted_stays = accepted.accepted_stays

pub made_accepted : MadeAccepted
made_accepted = accepted.made_accepted

-- ---- R-4's answer, at rest or not

pub every_route_tells : EveryRouteTells
every_route_tells = route.route_tells

pub resting_routes_right : RestingRoutesRight
resting_routes_right = route.resting_routes_right

pub refused_route_is_0 : RefusedRouteIs0
refused_route_is_0 = route.refused_route_is_0

-- ---- bytes behind the form

pub tails_unread : TailsUnread
tails_unread = tails.tails_unread

-- So one form has one answer, whatever follows it.
pub two_tails_one_answer : TwoTailsOneAnswer
two_tails_one_answer c f r t out room =
    let e = tails.tails_unread c f out room in
    record {
      number = e.number r ∙ sym (e.number t);
      answers = e.answers r ∙ sym (e.answers t);
      output = e.output r ∙ sym (e.output t);
      left = (outcome c f out).bytes;
      length_left = e.length_kept;
      first = e.bytes r;
      second = e.bytes t;
    }

-- Making a state looks at no byte.
pub make_reads_nothing : MakeReadsNothing
make_reads_nothing = tails.nothing_read

-- ---- the two ends of a link

pub either_end_first : EitherEndFirst
either_end_first = ends.ends_alike

pub notices_meet_at_down : NoticesMeetAtDown
notices_meet_at_down = ends.notices_meet

pub down_gives_missing : DownGivesMissing
down_gives_missing = ends.down_gives_missing

pub stays_until_notice : StaysUntilNotice
stays_until_notice = alone.stays_until_notice

-- ---- what each link is worth

pub every_line_runs : EveryLineRuns
every_line_runs = worth.lines_run

pub every_line_fits : EveryLineFits
every_line_fits = worth.line_fits

pub every_line_tells : EveryLineTells
every_line_tells = worth.lines_tell

pub every_pair_has_its_line : EveryPairHasItsLine
every_pair_has_its_line = lines.pairs_have_lines

pub every_worth_tells : EveryWorthTells
every_worth_tells = worth_call.worth_tells

pub worth_tail_unread : WorthTailUnread
worth_tail_unread = worth_call.worth_tail_unread

-- ---- why a node reaches a destination, or not

pub every_reason_shows : EveryReasonShows
every_reason_shows = why.reasons_show

pub sides_apart : SidesApart
sides_apart = why.sides_apart

pub paths_are_walks : PathsAreWalks
paths_are_walks = why.paths_are_walks

pub closed_sets_part : ClosedSetsPart
closed_sets_part = why.closed_sets_part

pub every_why_tells : EveryWhyTells
every_why_tells = why_call.why_tells

pub list_of_n_fits : ListOfNFits
list_of_n_fits = why_call.list_of_n_fits

pub why_tail_unread : WhyTailUnread
why_tail_unread = why_call.why_tail_unread
