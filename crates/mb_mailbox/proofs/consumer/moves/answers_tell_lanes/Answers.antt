use Rattle.mb_mailbox.proofs.Telling.{noted, tells_end, tells_nothing}
use Rattle.mb_mailbox.specs.Imports.{cells_met}
use Rattle.mb_mailbox.proofs.consumer.moves.answers_tell_lanes.Goals as goal

pub returns-clause-noted : goal.returns-clause-noted
returns-clause-noted c s p at i e = noted s p at i e

pub returns-clause-nothing : goal.returns-clause-nothing
returns-clause-nothing c s p at now i h e m =
    tells_nothing c.laws_hold.ensures c.lanes_are_empty_if_nothing_is_found.ensures
    c.looks_tell_links.ensures.nothing s p at now i h e m
    (λ theirs known met word. c.known_lanes_are_read_whole.ensures.nothing s.reader now at p theirs
    (cells_met p s.reader.part) known met word m)

pub returns-clause-ended : goal.returns-clause-ended
returns-clause-ended c s p at now i h e m =
    tells_end c.laws_hold.ensures c.looks_tell_links.ensures.ended s p at now i h e m
    (λ theirs known met word. c.known_lanes_are_read_whole.ensures.ended s.reader now at p theirs
    (cells_met p s.reader.part) known met word m)
