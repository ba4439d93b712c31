use Rattle.std.proofs.Common.{arith, subst, sym}
use Rattle.std.specs.Prelude.{Err, Ok, Result}
use Rattle.mb_channel.specs.declared.begun.Miss.{Miss}
use Rattle.mb_channel.specs.declared.end.End.{End}
use Rattle.mb_channel.specs.declared.halfway.Halfway.{Halfway}
use Rattle.mb_channel.specs.Ends.{IsBehind, stand_of}
use Rattle.mb_channel.specs.Halves.{stand_half}
use Rattle.mb_channel.proofs.Since.{more_then, sent_since}
use Rattle.mb_channel.proofs.end.Sender.draw.Goals as goal

-- the end that comes back from a segment where no more can be sent is behind the last one
abbrev BehindIn : {T : Type 0} → Result (Halfway T) (End T × Miss) → Type 0
BehindIn (Ok h) = ⊥
BehindIn (Err e) = IsBehind e.0

pub returns-in-Ok-clause-answer : goal.returns-in-Ok-clause-answer
returns-in-Ok-clause-answer g c = let x = c.in-Ok.ensures.drawn.0 in (
  sent_since c.args.value.now (stand_of c.args.self.end) (stand_of c.loop.end) (stand_half c.in-Ok.half)
      c.loop.invariant.0 x.0,
  x.2,
)

pub returns-in-Err-go_on-clause-still : goal.returns-in-Err-go_on-clause-still
returns-in-Err-go_on-clause-still g c = λ b.
    let j = (c.loop.invariant.2 b).0 in
    let o = c.in-Err-default-Over.ensures in
    let e = c.in-Err-go_on.ensures.still
    (subst BehindIn (sym (o.outside (c.loop.end.outside j.0))) j) in
    (cc)

pub loop-preserved : goal.loop-preserved
loop-preserved g c = let i = c.loop.invariant in let o = c.in-Err-default-Over.ensures in let e = c.go_on.ensures in (
  more_then (stand_of c.args.self.end) (stand_of c.loop.end) (stand_of c.go_on.new.self) i.0
      (more_then (stand_of c.loop.end) (stand_of c.in-Err-default-Over.back) (stand_of c.go_on.new.self) o.missed.0
      (record { one = e.end; sent = e.sent; got = e.got })),
  (let x = i.1 in let y = o.told in let z = e.wakes in omega arith),
  λ b. let j = (i.2 b).0 in
      absurd (c.in_default.not-Err _ (e.still (subst BehindIn (sym (o.outside (c.loop.end.outside j.0))) j))),
)
