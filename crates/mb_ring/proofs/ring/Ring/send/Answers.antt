use Rattle.mb_ring.proofs.SendMoves.{sent_listed, sent_woken}
use Rattle.mb_ring.proofs.ring.Ring.send.Goals as goal

pub returns-in-At-find_place_listed-clause-sent : goal.returns-in-At-find_place_listed-clause-sent
returns-in-At-find_place_listed-clause-sent g c = (
  c.in-At-find_place_listed.at,
  sent_listed c.in-At-find_place_listed.at c.args.value c.args.pass.now.seat.me.0 c.find_place.new.pass.seat.me.0
      c.loop.pass.seat.me.0 c.enter_list.new.pass.seat.me.0 c.in-Full.ensures.answer.0 c.loop.invariant.4
      c.enter_list.ensures.entered.0 c.find_place_listed.new.pass.seat.me.0
      c.give-in-At-find_place_listed.new.pass.seat.me.0 c.leave_list.new.pass.seat.me.0
      c.in-At-find_place_listed.ensures.answer.2 c.give-in-At-find_place_listed.ensures.given
      c.leave_list.ensures.left.0,
  c.loop.invariant.7,
)

pub returns-in-At-find_place-clause-sent : goal.returns-in-At-find_place-clause-sent
returns-in-At-find_place-clause-sent g c = (
  c.in-At-find_place.at,
  sent_woken c.in-At-find_place.at c.args.value c.args.pass.now.seat.me.0 c.find_place.new.pass.seat.me.0
      c.loop.pass.seat.me.0 c.enter_list.new.pass.seat.me.0 c.in-Full.ensures.answer.0 c.loop.invariant.4
      c.enter_list.ensures.entered.0 c.find_place_listed.new.pass.seat.me.0
      c.sleep.new.pass.seat.me.0 c.find_place-in-loop.new.pass.seat.me.0 c.give-in-At-find_place.new.pass.seat.me.0
      c.in-Full-find_place_listed.ensures.answer.0 c.sleep.ensures.woken.0
      c.in-At-find_place.ensures.answer.2 c.give-in-At-find_place.ensures.given,
  c.loop.invariant.7,
)
