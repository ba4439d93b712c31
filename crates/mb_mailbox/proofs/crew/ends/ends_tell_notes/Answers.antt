use Rattle.mb_mailbox.proofs.Endings.{notes_by}
use Rattle.mb_mailbox.proofs.crew.ends.ends_tell_notes.Goals as goal

pub returns : goal.returns
returns c size roll h p done s i theirs mine o =
    notes_by c.readers_follow_lanes.ensures.whole c.parts_have_accesses.ensures.only
    c.end_marks_are_last.ensures.reader c.parts_tell_lanes.ensures.linked
    size roll h p done s i theirs mine o
