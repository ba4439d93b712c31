use Rattle.std.proofs.Common.{ap, is_some, subst, sym, true≢false, ◌∙◌}
use Rattle.std.specs.Prelude.{Some}
use Rattle.mb_channel.specs.declared.inside.Inside.{Inside}
use Rattle.mb_channel.specs.Ends.{stand_of}
use Rattle.mb_channel.specs.Inside.{pass_there}
use Rattle.mb_channel.specs.Standing.{OneSent}
use Rattle.mb_channel.specs.Work.{work_in, work_of}
use Rattle.mb_channel.proofs.EndLogs.{one_sent}
use Rattle.mb_channel.proofs.end.End.send_inside.Goals.{in-Sent, in-Again, in-Over}
use Rattle.mb_channel.proofs.end.End.send_inside.Goals as goal

pub returns-in-Owes-clause-answer : goal.returns-in-Owes-clause-answer
returns-in-Owes-clause-answer g c = one_sent c.args.self.chair _ (work_in c.in-Some.inside) (work_of c.in-Owes.busy)
    c.args.value (ap pass_there c.in-Some.is) c.in-Owes.ensures.answer

pub returns-in-None-clause-answer : goal.returns-in-None-clause-answer
returns-in-None-clause-answer g c = let chair = c.args.self.chair in elim c.match-try_send.branch [
  | in-Sent w ↦ subst (λ (i : Inside _). OneSent c.args.value (stand_of c.args.self)
      (record { chair = chair; pass = pass_there (Some i) })) (sym (ap (λ p. p.0) w.inside-is))
      (one_sent chair _ (work_in c.in-Some.inside) (work_in w.in-Sent.inside) c.args.value
      (ap pass_there c.in-Some.is) w.in-Sent.ensures.answer)
  | in-Again w ↦ absurd (true≢false (ap is_some (sym (ap (λ p. p.1) w.inside-is) ∙ c.in-None.is)))
  | in-Over w ↦ absurd (true≢false (ap is_some (sym (ap (λ p. p.1) w.inside-is) ∙ c.in-None.is)))
]
