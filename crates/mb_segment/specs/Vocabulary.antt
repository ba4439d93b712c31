-- The names that clauses and proofs use.
pub use Rattle.mb_segment.specs.Types.{Account, Claimed, Drew, Duty, Event, FoundEmpty, FoundFull, Half, Issuer, Known, Member, Nothing, Reads, Role, Sight, Spent, Spot, Tokens, View, Writes}
pub use Rattle.mb_segment.specs.History.{Claim, Entry, History, all_entries, cuts_by, drawn, entries, got_by, has_cut, is_of, sent_by, spot, spots_by, spots_to, taken, values}
pub use Rattle.mb_segment.specs.Walk.{AreTrue, GoesOn, draws, times_empty, times_full, waiting_after}
pub use Rattle.mb_segment.specs.Sleeping.{Quiet, Shut, closing, free, listed, owed, sleeping, tokens_given, tokens_taken, total}
pub use Rattle.mb_segment.specs.Slots.{HalfFits, HasHalf, Homes, IsTaken, Taken, Undrawn, Waiting, Waits, row}
pub use Rattle.mb_segment.specs.Passes.{Called, Distinct, In, Match, if_hub, named, nothing_done, one_if_member, blank, blind, member, new_hub, no_duty, no_tokens, out, spent}
pub use Rattle.mb_segment.specs.Heard.{AllHeed, Below, Heard, Heeds, IsAware}
pub use Rattle.mb_segment.specs.Rule.{Fits, HasLooked, IsCalled, IsHub, IsMember, Keeps}
pub use Rattle.mb_segment.specs.Moves.{IsCalm, MaySend, MayTake, SawAllTaken, bare, calm, did_cut, done, drew, ended, enters, falls_asleep, found_empty, gives_token, gives_tokens, gives_up}
pub use Rattle.mb_segment.specs.Moves.{goes_unseen, got_at, hands_on, has_closed, has_woken, is_over, issued, learns_drawn, learns_taken, leaves, leaves_with_token, looked, mark_in, marked_to, or}
pub use Rattle.mb_segment.specs.Moves.{owes_all, owes_wake, same, sees_cut, sees_empty, sees_full, sees_mark, sees_taken, sent_at, takes_token, told, took, took_back, wakes_up, with_duty}
pub use Rattle.mb_segment.specs.Steps.{Sat, always, asking, becomes, claiming, drawing, drawing_picked, ending, exchanging, learning_drawn, learning_taken}
pub use Rattle.mb_segment.specs.Steps.{if_none_waits, looking, seeing_cut, seeing_mark, seeing_taken}
pub use Rattle.mb_segment.specs.Whole.{IsWhole, Stand}
pub use Rattle.mb_segment.specs.Seats.{Becomes, IsFree, IsStill, held_by, hub_view, view_in}
pub use Rattle.mb_segment.specs.Answers.{OfCut, OfDraw, OfLeave, OfLook, OfRest, OfWake}
pub use Rattle.mb_segment.specs.Waiting.{OfFound, OfNotSent, OfReceived, value_of}
pub use Rattle.mb_segment.specs.Laws.{FindsEmpty, Has, IsCut, IsOfPass, IsOver, IsPassOf, IsViewOf, Rises, SegmentState, claimed_in, drawn_in, positions_in}
pub use Rattle.mb_segment.specs.Ending.{HasLeft}
pub use Rattle.mb_segment.specs.Fates.{Each, IsFate, OfFate, Somebody, fate_in, fate_of, name_in}
