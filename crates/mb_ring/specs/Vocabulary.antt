-- The names that clauses and proofs use. Those of accounts, histories and sleep are a segment's.
pub use Rattle.mb_segment.specs.History.{Claim, Entry, History, all_entries, cuts_by, drawn, entries, got_by, has_cut, is_of, sent_by, spot, spots_by, spots_to, taken, values}
pub use Rattle.mb_segment.specs.Walk.{AreTrue, GoesOn, draws, times_empty, times_full, waiting_after}
pub use Rattle.mb_segment.specs.Vocabulary.{AllHeed, Below, Distinct, Has, Heeds, In, IsWhole, Match, Quiet, Rises, Shut, free, if_hub, no_duty, nothing_done, one_if_member}
pub use Rattle.mb_segment.specs.Moves.{done, enters, falls_asleep, gives_up, goes_unseen, hands_on, has_closed, has_woken, leaves, leaves_with_token, looked}
pub use Rattle.mb_segment.specs.Moves.{mark_in, or, owes_all, owes_wake, same, wakes_up}
pub use Rattle.mb_ring.specs.Types.{Account, Claimed, Drew, Duties, Duty, Event, FoundEmpty, FoundFull, Half, Issuer, Known, Member, Nothing, Reads, Role, Room, Sight, Spent, Spot, Tallies, Tokens}
pub use Rattle.mb_ring.specs.Types.{Values, View, Want, Writes}
pub use Rattle.mb_ring.specs.Slots.{HalfFits, HasHalf, Homes, IsTaken, Taken, Undrawn, Waiting, Waits, turn}
pub use Rattle.mb_ring.specs.Passes.{blank, blind, closing, debts, in_list, listed, member, new_hub, no_duties, no_tallies, out, owed, part, sleeping, spent, tally, tokens_given, tokens_taken, total}
pub use Rattle.mb_ring.specs.Moves.{FoundCut, IsCalm, KnowsCut, KnowsOver, MaySend, MayTake, SawAllGot, SawAllTaken, SawEmpty, SawFull, bare, blinded, calm, did_cut, done_with_all, dozes, drew, ended}
pub use Rattle.mb_ring.specs.Moves.{counted, found_empty, found_full, gives_token, gives_tokens, got_at, on, owes_both, issued, marked_to, sees_cut, sees_drawn, sees_empty, sees_full}
pub use Rattle.mb_ring.specs.Moves.{sees_mark, sees_room, sees_taken, sent_at, takes_token, tallied, told, took, took_back, uncounted, with_duty}
pub use Rattle.mb_ring.specs.Rule.{CountsEmpty, CountsFull, Fits, Heard, IsAwaited, IsHub, IsMember, Keeps, SightFits, ready}
pub use Rattle.mb_ring.specs.Steps.{Sat, always, asking, becomes, claiming, counting, drawing, drawing_picked, ending, exchanging}
pub use Rattle.mb_ring.specs.Steps.{if_none_waits, list_word, looking, seeing_cut, seeing_mark, seeing_room, seeing_taken}
pub use Rattle.mb_ring.specs.Laws.{IsAwake, IsCut, IsOfPass, IsPassOf, IsViewOf, RingState, claimed_in, drawn_in, load_in, sleepers, waiting_in}
pub use Rattle.mb_ring.specs.Seats.{Becomes, BecomesUncounted, IsFree, IsStill, held_by, hub_view, view_in}
pub use Rattle.mb_ring.specs.Answers.{IsClosed, IsOver, OfCut, OfDraw, OfLeave, OfLook, OfRest, OfWake}
pub use Rattle.mb_ring.specs.Ending.{HasLeft, Stand}
pub use Rattle.mb_ring.specs.Waiting.{IsShutOut, OfFound, OfNotSent, OfPlace, OfReceived, value_of}
