use Rattle.std.proofs.Common.{sym, ap, ◌∙◌, ◌∷◌, subst}
use Rattle.atomic_table.specs.Table.{rest}
use Rattle.mb_channel.specs.Homes.{Stands}
use Rattle.mb_channel.specs.Lengths.{HaveLooked}
use Rattle.mb_channel.proofs.Chairs.{only_one, was}
use Rattle.mb_channel.proofs.Lengths.{stands_looked}
use Rattle.mb_channel.proofs.list.List.waiting.Goals as goal

pub slot_mut-homes-requires : goal.slot_mut-homes-requires
slot_mut-homes-requires g c = let t = c.requires.homes in (
  c.requires.list,
  (
    t.0,
    t.1 ∙ ap (λ l. (0, t.0) ∷ rest l)
        (sym t.1),
  ),
)

pub returns-clause-looked : goal.returns-clause-looked
returns-clause-looked g c = let t = c.requires.homes in
    let now = c.slot_mut-homes.result.now in
    let same = was c.args.chair.now.me.1 t.0 now t.1 c.slot_mut-homes.ensures.value in
    let s = subst (λ l. Stands t.2 l) (sym same) t.3 in
    let x = stands_looked t.2 now c.waiting.new.self s c.waiting.ensures.looked c.waiting.ensures.first in (
      c.waiting.new.self,
      only_one c.args.chair.now.me.1 t.0 c.waiting.new.self t.1,
      x.0,
      x.1,
      subst (λ b. HaveLooked b x.0) t.4 x.2,
      c.waiting.ensures.waiting,
    )
