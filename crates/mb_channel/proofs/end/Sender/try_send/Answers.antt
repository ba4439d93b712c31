use Rattle.std.proofs.Common.{arith, subst, sym, ◌∙◌}
use Rattle.mb_channel.specs.declared.debtor.Step.{Step}
use Rattle.mb_channel.specs.declared.debtor.Step.TheVariants as step
use Rattle.mb_channel.specs.Ends.{IsBehind, stand_of}
use Rattle.mb_channel.proofs.Since.{more_then}
use Rattle.mb_channel.proofs.end.Sender.try_send.Goals as goal

-- the end that comes back from a segment where no more can be sent is behind the last one
abbrev BehindIn : {T : Type 0} → Step T → Type 0
BehindIn (step.Sent e) = ⊥
BehindIn (step.Owes d) = ⊥
BehindIn (step.Again e x) = ⊥
BehindIn (step.Over e x) = IsBehind e

pub loop-preserved : goal.loop-preserved
loop-preserved g c = let i = c.loop.invariant in let o = c.in-Over.ensures in let e = c.go_on.ensures in (
  more_then (stand_of c.args.self.end) (stand_of c.loop.end) (stand_of c.go_on.new.self) i.0
      (more_then (stand_of c.loop.end) (stand_of c.in-Over.back) (stand_of c.go_on.new.self) o.answer.0
      (record { one = e.end; sent = e.sent; got = e.got })),
  o.answer.1 ∙ i.1,
  (let x = i.2 in let y = o.wakes in let z = e.wakes in omega arith),
  λ b. let j = (i.3 b).0 in
      absurd (c.in_default.not-Err _ (e.still (subst BehindIn (sym (o.outside (c.loop.end.outside j.0))) j))),
)
