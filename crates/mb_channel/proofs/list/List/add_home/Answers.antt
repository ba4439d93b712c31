use Rattle.std.proofs.Common.{length, sym, ap, ◌≡◌, ◌∙◌, ◌∷◌, subst}
use Rattle.atomic_table.specs.Table.{rest}
use Rattle.mb_channel.specs.Homes.{Longer, Stands}
use Rattle.mb_channel.proofs.Chairs.{only_one, was}
use Rattle.mb_channel.proofs.Freed.{longer_of, same_of}
use Rattle.mb_channel.proofs.list.List.add_home.Goals as goal

pub slot_mut-homes-requires : goal.slot_mut-homes-requires
slot_mut-homes-requires g c = let t = c.requires.homes in (
  c.requires.list,
  (
    t.0,
    t.1 ∙ ap (λ l. (0, t.0) ∷ rest l)
        (sym t.1),
  ),
)

pub returns-clause-added : goal.returns-clause-added
returns-clause-added g c = let t = c.requires.homes in
    let now = c.slot_mut-homes.result.now in
    let same = was c.args.chair.now.me.1 t.0 now t.1 c.slot_mut-homes.ensures.value in
    let s = subst (λ l. Stands t.2 l) (sym same) t.3 in
    longer_of c.append.result c.args.at t.2 now c.append.new.self s
    (subst (λ b. length b ≡ c.args.at) (sym t.4) c.requires.last) c.append.ensures.more c.append.ensures.first _
    (λ gs stands longer. (
      c.append.new.self,
      only_one c.args.chair.now.me.1 t.0 c.append.new.self t.1,
      gs,
      stands,
      subst (λ b. Longer c.args.at b gs) t.4 longer,
    ))

pub returns-clause-refused : goal.returns-clause-refused
returns-clause-refused g c = let t = c.requires.homes in
    let now = c.slot_mut-homes.result.now in
    let same = was c.args.chair.now.me.1 t.0 now t.1 c.slot_mut-homes.ensures.value in
    let s = subst (λ l. Stands t.2 l) (sym same) t.3 in
    same_of c.append.result t.2 now c.append.new.self s c.append.ensures.same c.append.ensures.first _
    (λ stands. (
      c.append.new.self,
      only_one c.args.chair.now.me.1 t.0 c.append.new.self t.1,
      t.2,
      stands,
      t.4,
    ))
