-- Proof of `LaneSeat::has_ended`, which returns whether the producer has stored the end mark of the lane.
use Rattle.std.proofs.Common.{◌≡◌, Bool, true, false, refl, sym, ap, ◌∙◌, subst}
use Rattle.std.specs.Option.{option_eq}
use Rattle.std.specs.Prelude.{Option, Some, None}
use Rattle.mb_cells.specs.declared.answer.Finish.{Finish}
use Rattle.mb_cells.specs.declared.answer.Finish.TheVariants.{Busy, Closed, Ended}
use Rattle.mb_cells.specs.Vocabulary.{History, IsLaneAfter, has_ended}
use Rattle.mb_shared_cells.specs.Seats.{done_in, size_in}
use Rattle.mb_shared_cells.specs.Shown.{LaneSeatView}
use Rattle.mb_shared_cells.proofs.table.LaneSeat.has_ended.Goals as goal

-- if d is true exactly if a refusal is `Closed`, then d is what the comparison of the refusal with `Closed` returns
compared : (test : Finish → Finish → Bool) (o : Option Finish) (b d : Bool) → b ≡ option_eq test o (Some Closed)
    → test Closed Closed ≡ true → test Busy Closed ≡ false → test Ended Closed ≡ false
    → (o ≡ Some Closed → d ≡ true) → (d ≡ true → o ≡ Some Closed) → b ≡ d
compared test o b false e x y z to from = e ∙ other o to
  where
    other : (o : Option Finish) → (o ≡ Some Closed → false ≡ true) → option_eq test o (Some Closed) ≡ false
    other None to = refl
    other (Some Closed) to = absurd (let f = to refl in cc)
    other (Some Busy) to = y
    other (Some Ended) to = z
compared test o b true e x y z to from = e ∙ ap (λ r. option_eq test r (Some Closed)) (from refl) ∙ x

pub returns : goal.returns
returns c =
    let i = c.self.invariant in
    let me = c.self.inside.seat.me in
    let p = c.self.inside.number in
    let h : History = i.history.0 in
    let place = subst (λ (d : History). IsLaneAfter (size_in me.0).cells p c.self.inside.place d)
    (sym i.history.2) i.stands in
    let law = c.lanes_refuse_by_what_was_done.ensures.finish_closed (size_in me.0) h p
    c.self.inside.place i.history.1 place in
    let ended : has_ended p h ≡ has_ended p (done_in me.0) = c.parts_tell_lanes.ensures.ended h p
    ∙ ap (has_ended p) i.history.2 in
    compared _ c.finish_refusal.result c.eq.result (has_ended p (done_in me.0)) c.eq.ensures refl refl refl
    (λ e. sym ended ∙ law.0 (sym c.finish_refusal.ensures ∙ e)) (λ e. c.finish_refusal.ensures ∙ law.1 (ended ∙ e))
    ∙ ap (λ (v : LaneSeatView). has_ended v.lane v.part) c.self.view_is
