use Rattle.std.proofs.Common.{IfNone, IfSome, Option, ap, subst, sym, true, ◌≡◌, ◌∙◌}
use Rattle.mb_channel.specs.declared.inside.Inside.{Inside}
use Rattle.mb_channel.specs.Ends.{stand_of}
use Rattle.mb_channel.specs.Inside.{pass_there, told_in}
use Rattle.mb_channel.specs.Receives.{OfTried, SawEmpty}
use Rattle.mb_channel.specs.Standing.{NoMore, OneGot}
use Rattle.mb_channel.specs.Work.{work_in}
use Rattle.mb_channel.proofs.EndLogs.{told_if, tried_if}
use Rattle.mb_channel.proofs.end.End.try_receive.Goals as goal

pub returns-else-is_none-clause-answer : goal.returns-else-is_none-clause-answer
returns-else-is_none-clause-answer g c = let self = c.args.self.now in
    subst (λ (o : Option (Inside _)). IfSome c.try_receive-inside.result.1 (λ t. OfTried t
    (λ x. OneGot x (stand_of self) (record { chair = self.chair; pass = pass_there o }))
    (SawEmpty (stand_of self) (record { chair = self.chair; pass = pass_there o })
    × NoMore (stand_of self) (record { chair = self.chair; pass = pass_there o }))
    (NoMore (stand_of self) (record { chair = self.chair; pass = pass_there o }))))
    (sym c.replace.ensures.after)
    (tried_if self.chair _ (work_in c.in_ok-inside.inside) (work_in c.try_receive-inside.result.0)
    c.try_receive-inside.result.1 (ap pass_there (sym c.take.ensures.value ∙ c.in_ok-inside.was))
    c.try_receive-inside.ensures.answer)

pub returns-then-is_none-clause-none : goal.returns-then-is_none-clause-none
returns-then-is_none-clause-none g c = let self = c.args.self.now in
    subst (λ (o : Option (Inside _)). IfNone c.try_receive-inside.result.1 (IfSome o (λ i. told_in i ≡ true)
    × NoMore (stand_of self) (record { chair = self.chair; pass = pass_there o })))
    (sym c.replace.ensures.after)
    (told_if self.chair _ (work_in c.in_ok-inside.inside) (work_in c.try_receive-inside.result.0)
    c.try_receive-inside.result.1 (ap pass_there (sym c.take.ensures.value ∙ c.in_ok-inside.was))
    c.try_receive-inside.ensures.over)
