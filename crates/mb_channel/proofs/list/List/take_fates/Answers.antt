use Rattle.std.proofs.Common.{sym, ap, ◌∙◌, ◌∷◌, subst}
use Rattle.atomic_table.specs.Table.{rest}
use Rattle.mb_channel.specs.Homes.{Stands}
use Rattle.mb_channel.proofs.Chairs.{only_one, was}
use Rattle.mb_channel.proofs.Audits.{taken_out}
use Rattle.mb_channel.proofs.list.List.take_fates.Goals as goal

pub slot_mut-homes-requires : goal.slot_mut-homes-requires
slot_mut-homes-requires g c = let t = c.requires.homes in (
  c.requires.list,
  (
    t.0,
    t.1 ∙ ap (λ l. (0, t.0) ∷ rest l)
        (sym t.1),
  ),
)

pub returns-clause-taken : goal.returns-clause-taken
returns-clause-taken g c = let t = c.requires.homes in
    let now = c.slot_mut-homes.result.now in
    let same = was c.args.chair.now.me.1 t.0 now t.1 c.slot_mut-homes.ensures.value in
    let s = subst (λ l. Stands t.2 l) (sym same) t.3 in
    let out = taken_out c.take_fates.result t.2 c.args.chair.now.me.0.before now c.take_fates.new.self s t.4
    c.take_fates.ensures.stands c.take_fates.ensures.some in (
      c.take_fates.new.self,
      only_one c.args.chair.now.me.1 t.0 c.take_fates.new.self t.1,
      out.0,
      out.1,
    )
