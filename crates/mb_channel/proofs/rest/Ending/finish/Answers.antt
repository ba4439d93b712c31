use Rattle.std.proofs.Common.{refl, sym, eqb-true, ◌∙◌}
use Rattle.std.proofs.lemmas.List.{nil_from_length}
use Rattle.mb_channel.proofs.Rests.{all_ended}
use Rattle.mb_channel.proofs.rest.Ending.finish.Goals as goal

pub returns-then-is_empty-clause-whole : goal.returns-then-is_empty-clause-whole
returns-then-is_empty-clause-whole g c = λ v hs is w. let e = c.end_first.new.self in
    all_ended v hs e (record { lefts = e.lefts }) (c.end_first.ensures.ending hs (c.loop.invariant hs is))
    (nil_from_length e.list.items (sym e.list.ok.0
    ∙ eqb-true e.list.len 0 (sym c.is_empty.ensures ∙ c.if-is_empty.true))) refl w
