use Rattle.mb_mailbox.proofs.Closing.{ends_over, finish_is_closed, finish_is_over, finish_lane, finish_not_busy, finish_same, finish_still, found_none}
use Rattle.mb_mailbox.proofs.Closing.{full_lane, full_stays, full_still, is_end, is_full, stays_full}
use Rattle.mb_mailbox.proofs.Putting.{is_closed, is_put, offer_is_over, is_refused, not_busy, over_stays, room, still}
use Rattle.mb_mailbox.proofs.producer.moves.producers_move_on.Goals as goal

pub returns-clause-linked : goal.returns-clause-linked
returns-clause-linked c s x k one two a b now i o f g = is_put c.lanes_keep_to_their_parts.ensures s
    x k one two a b now i o f g

pub returns-clause-kept : goal.returns-clause-kept
returns-clause-kept c s x k one two a b now i o f g = still c.lanes_keep_to_their_parts.ensures s x
    k one two a b now i o f g

pub returns-clause-room : goal.returns-clause-room
returns-clause-room c s x k one two a b now i o f g = room c.lanes_keep_to_their_parts.ensures s x k
    one two a b now i o f g

pub returns-clause-linked_stays : goal.returns-clause-linked_stays
returns-clause-linked_stays c s x k one two a b now i o f g = over_stays
    c.lanes_keep_to_their_parts.ensures s x k one two a b now i o f g

pub returns-clause-full : goal.returns-clause-full
returns-clause-full c s x now i h m = is_full c.lanes_keep_to_their_parts.ensures s x now h m

pub returns-clause-full_stays : goal.returns-clause-full_stays
returns-clause-full_stays c s x now m = full_stays s x now m

pub returns-clause-stays_full : goal.returns-clause-stays_full
returns-clause-stays_full c s x answer now h m none going = stays_full
    c.lanes_keep_to_their_parts.ensures s x answer now h m none going

pub returns-clause-full_kept : goal.returns-clause-full_kept
returns-clause-full_kept c s x now i m = full_still c.lanes_keep_to_their_parts.ensures s x now i m

pub returns-clause-refused : goal.returns-clause-refused
returns-clause-refused c s x now m = is_refused s x now m

pub returns-clause-closed : goal.returns-clause-closed
returns-clause-closed c s x now h m = is_closed c.lanes_keep_to_their_parts.ensures s x now h m

pub returns-clause-ended : goal.returns-clause-ended
returns-clause-ended c s x answer now h m over = offer_is_over c.lanes_keep_to_their_parts.ensures s
    x answer now h m over

pub returns-clause-never_busy : goal.returns-clause-never_busy
returns-clause-never_busy c s x now i m = not_busy s x now i m

pub returns-clause-finished : goal.returns-clause-finished
returns-clause-finished c s now m = is_end s now m

pub returns-clause-finish_kept : goal.returns-clause-finish_kept
returns-clause-finish_kept c s answer now i m = finish_still c.lanes_keep_to_their_parts.ensures s answer now i m

pub returns-clause-finish_refused : goal.returns-clause-finish_refused
returns-clause-finish_refused c s now m = finish_same s now m

pub returns-clause-finish_closed : goal.returns-clause-finish_closed
returns-clause-finish_closed c s now h m = finish_is_closed c.lanes_keep_to_their_parts.ensures s now h m

pub returns-clause-finish_ended : goal.returns-clause-finish_ended
returns-clause-finish_ended c s answer now h m over = finish_is_over
    c.lanes_keep_to_their_parts.ensures s answer now h m over

pub returns-clause-finish_idle : goal.returns-clause-finish_idle
returns-clause-finish_idle c s now i m = finish_not_busy s now i m

pub returns-clause-over : goal.returns-clause-over
returns-clause-over c s answer now i h m = ends_over c.lanes_keep_to_their_parts.ensures s answer now i h m

pub returns-clause-found : goal.returns-clause-found
returns-clause-found c s x now h m = found_none c.lanes_keep_to_their_parts.ensures s x now h m

pub returns-clause-full_lane : goal.returns-clause-full_lane
returns-clause-full_lane c s x now m = full_lane s x now m

pub returns-clause-finish_lane : goal.returns-clause-finish_lane
returns-clause-finish_lane c s answer now m = finish_lane s answer now m
