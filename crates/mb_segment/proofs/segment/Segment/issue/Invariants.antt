use Rattle.mb_segment.proofs.segment.Segment.issue.Given as goal

abbrev pub ghosts-issue_named : goal.ghosts-issue_named
ghosts-issue_named g a = record { name = a.name }
