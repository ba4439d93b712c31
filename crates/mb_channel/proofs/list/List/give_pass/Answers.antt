use Rattle.std.proofs.Common.{sym, ap, ◌∙◌, ◌∷◌, ◌-◌, ◌≡◌, subst}
use Rattle.atomic_table.specs.Table.{rest}
use Rattle.mb_segment.specs.Seats.{view_in as pass_view}
use Rattle.mb_channel.specs.Homes.{Changes, HasTakenBack}
use Rattle.mb_channel.proofs.Chairs.{only_one, was}
use Rattle.mb_channel.proofs.Freed.{changes_all, place_is}
use Rattle.mb_channel.proofs.Views.{there}
use Rattle.mb_channel.proofs.list.List.give_pass.Goals as goal

pub slot_mut-homes-requires : goal.slot_mut-homes-requires
slot_mut-homes-requires g c = let t = c.requires.homes in (
  c.requires.list,
  (
    t.0,
    t.1 ∙ ap (λ l. (0, t.0) ∷ rest l)
        (sym t.1),
  ),
)

pub take_back-done-requires-clause-live : goal.take_back-done-requires-clause-live
take_back-done-requires-clause-live g c = let t = c.requires.homes in
    (place_is t.2 c.args.chair.now.me.0.before t.0 c.slot_mut-homes.result.now c.args.at
    (λ h. c.args.pass.seat.table_id ≡ h.hub.seat.table_id)
    (was c.args.chair.now.me.1 t.0 c.slot_mut-homes.result.now t.1 c.slot_mut-homes.ensures.value) t.3 t.4
    c.requires.segment).1

pub take_back-done-requires-clause-there : goal.take_back-done-requires-clause-there
take_back-done-requires-clause-there g c = let t = c.requires.homes in
    let a = (place_is t.2 c.args.chair.now.me.0.before t.0 c.slot_mut-homes.result.now c.args.at
    (λ h. c.args.pass.seat.table_id ≡ h.hub.seat.table_id)
    (was c.args.chair.now.me.1 t.0 c.slot_mut-homes.result.now t.1 c.slot_mut-homes.ensures.value) t.3 t.4
    c.requires.segment).2 in
    there c.slot_mut-homes.result.now.list.items (c.args.at - c.slot_mut-homes.result.now.first) a.0 a.1

pub take_back-done-requires-clause-segment : goal.take_back-done-requires-clause-segment
take_back-done-requires-clause-segment g c = let t = c.requires.homes in
    (place_is t.2 c.args.chair.now.me.0.before t.0 c.slot_mut-homes.result.now c.args.at
    (λ h. c.args.pass.seat.table_id ≡ h.hub.seat.table_id)
    (was c.args.chair.now.me.1 t.0 c.slot_mut-homes.result.now t.1 c.slot_mut-homes.ensures.value) t.3 t.4
    c.requires.segment).2

pub returns-clause-homes : goal.returns-clause-homes
returns-clause-homes g c = let t = c.requires.homes in
    let p = place_is t.2 c.args.chair.now.me.0.before t.0 c.slot_mut-homes.result.now c.args.at
    (λ h. c.args.pass.seat.table_id ≡ h.hub.seat.table_id)
    (was c.args.chair.now.me.1 t.0 c.slot_mut-homes.result.now t.1 c.slot_mut-homes.ensures.value) t.3 t.4
    c.requires.segment in
    let ch = changes_all t.2 c.slot_mut-homes.result.now c.take_back-done.new.self c.args.at
    (λ h g. HasTakenBack h g (pass_view c.args.pass) × (c.take_back-done.result ≡ g.done)) p.0 p.1
    c.take_back-done.ensures.list c.take_back-done.ensures.first in (
      c.sweep.new.self,
      only_one c.args.chair.now.me.1 t.0 c.sweep.new.self t.1,
      ch.0,
      c.sweep.ensures.stands ch.0 ch.1,
      subst (λ b. Changes b ch.0 c.args.at (λ h g. HasTakenBack h g (pass_view c.args.pass)
          × (c.take_back-done.result ≡ g.done))) t.4 ch.2,
    )
