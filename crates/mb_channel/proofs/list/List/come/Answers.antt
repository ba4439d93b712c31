use Rattle.std.proofs.Common.{ℕ, arith, sym, ap, length, ◌≡◌, ◌∙◌, ◌<◌, ◌⊎◌, ⊎_elim, subst, inl}
use Rattle.mb_channel.specs.Answers.{OfCame}
use Rattle.mb_channel.specs.Types.{Arc, Global, Pass, Segment}
use Rattle.mb_channel.specs.declared.answers.Came.{Came}
use Rattle.mb_channel.specs.declared.answers.Came.TheVariants.{Added, NotYet}
use Rattle.mb_channel.specs.declared.view.Knows.{Knows}
use Rattle.mb_channel.specs.Homes.{Changes, HasIssued, came_to, unlocked, went_on}
use Rattle.mb_channel.specs.Tallies.{GoesOnTo}
use Rattle.mb_channel.proofs.Chairs.{came_where}
use Rattle.mb_channel.proofs.Closing.{near_last}
use Rattle.mb_channel.proofs.list.List.come.Goals as goal

-- what is true where no segment was there
not_there : {T : Type 0} (r : Came T) (here : Arc (Segment T Global) Global → Pass T → Type 0) (gone : ℕ → Type 0)
    (none_ closed same : Type 0) → OfCame r here gone none_ closed same → (r ≡ NotYet) ⊎ (r ≡ Added) → none_
not_there r here gone none_ closed same o = ⊎_elim (λ e. subst (λ x. OfCame x here gone none_ closed same) e o)
    (λ e. subst (λ x. OfCame x here gone none_ closed same) e o)

pub get_pass-requires-clause-homes : goal.get_pass-requires-clause-homes
get_pass-requires-clause-homes g c = let x = c.try_lock.ensures.locked c.if-not-try_lock.false in
    (x.0, x.1, x.2, x.3, sym (ap (λ (v : Knows _). v.before) x.4.1))

pub enter-requires-clause-held : goal.enter-requires-clause-held
enter-requires-clause-held g c = let x = c.try_lock.ensures.locked c.if-not-try_lock.false in
    let same = c.get_pass.ensures.view ∙ x.4.1 in (
      ap (λ (v : Knows _). v.live) same ∙ c.requires.ready.0,
      ap (λ (v : Knows _). v.holds) same,
      ap (λ (v : Knows _). v.inside) same ∙ c.requires.here.1,
    )

pub enter-requires-clause-issued : goal.enter-requires-clause-issued
enter-requires-clause-issued g c = let x = c.try_lock.ensures.locked c.if-not-try_lock.false in
    let y = c.in-Here.ensures.answer.0 in (
      y.0,
      y.1,
      y.2,
      y.3,
      subst (λ (z : Knows _). Changes z.before y.2 z.at (λ h g. HasIssued h g c.in-Here.segment c.in-Here.pass))
          (sym c.get_pass.ensures.view)
          (subst (λ n. Changes c.try_lock.new.chair.me.0.before y.2 n (λ h g. HasIssued h g c.in-Here.segment
          c.in-Here.pass)) (sym (ap (λ (v : Knows _). v.at) x.4.1 ∙ c.requires.here.0)) y.4),
    )

pub enter-requires-clause-side : goal.enter-requires-clause-side
enter-requires-clause-side g c = let x = c.try_lock.ensures.locked c.if-not-try_lock.false in
    λ q. ap (λ (v : Knows _). v.takes) (c.get_pass.ensures.view ∙ x.4.1) ∙ c.requires.side q

pub go_on-requires-clause-held : goal.go_on-requires-clause-held
go_on-requires-clause-held g c = let x = c.try_lock.ensures.locked c.if-not-try_lock.false in
    let same = c.get_pass.ensures.view ∙ x.4.1 in (
      ap (λ (v : Knows _). v.live) same ∙ c.requires.ready.0,
      ap (λ (v : Knows _). v.holds) same,
      ap (λ (v : Knows _). v.inside) same ∙ c.requires.here.1,
    )

pub go_on-requires-clause-homes : goal.go_on-requires-clause-homes
go_on-requires-clause-homes g c = let y = c.in-Gone.ensures.answer.0 in
    (y.0, y.1, y.2, y.3, y.4 ∙ ap (λ (v : Knows _). v.before) (sym c.get_pass.ensures.view))

pub go_on-requires-clause-far : goal.go_on-requires-clause-far
go_on-requires-clause-far g c = let x = c.try_lock.ensures.locked c.if-not-try_lock.false in
    let a = c.in-Gone.ensures.answer in
    let same = c.get_pass.ensures.view ∙ x.4.1 in (
      subst (λ n. n < c.in-Gone.next) (sym (ap (λ (v : Knows _). v.at) same ∙ c.requires.here.0)) a.1,
      subst (λ b. GoesOnTo c.args.takes b c.in-Gone.next)
          (ap (λ (v : Knows _). v.before) (sym c.get_pass.ensures.view)) a.2,
    )

pub unlock-requires-clause-homes : goal.unlock-requires-clause-homes
unlock-requires-clause-homes g c = absurd c.in-Closed.ensures.answer

pub tell-requires-clause-homes : goal.tell-requires-clause-homes
tell-requires-clause-homes g c =
    let y = (not_there c.get_pass.result _ _ _ _ _ c.get_pass.ensures.answer c.in-NotYet.is).0 in
    (y.0, y.1, y.2, y.3, y.4 ∙ ap (λ (v : Knows _). v.before) (sym c.get_pass.ensures.view))

pub tell-requires-clause-last : goal.tell-requires-clause-last
tell-requires-clause-last g c = let x = c.try_lock.ensures.locked c.if-not-try_lock.false in
    let behind = (not_there c.get_pass.result _ _ _ _ _ c.get_pass.ensures.answer c.in-NotYet.is).1 in
    let near = near_last x.2 c.args.chair.now.me.0.at x.4.0.0 in
    let here = c.requires.here.0 in
    let same = c.get_pass.ensures.view ∙ x.4.1 in
    let old = ap (λ (v : Knows _). length v.before) x.4.1 in
    let now = ap (λ (v : Knows _). length v.before) c.get_pass.ensures.view in (
      omega arith,
      ap (λ (v : Knows _). v.at) same ∙ here,
      ap (λ (v : Knows _). v.orderly) same ∙ c.requires.orderly,
    )

pub unlock-requires-in-Crowded-clause-homes : goal.unlock-requires-in-Crowded-clause-homes
unlock-requires-in-Crowded-clause-homes g c = let y = c.in-Crowded.ensures.answer in
    (y.0, y.1, y.2, y.3, inl (y.4 ∙ ap (λ (v : Knows _). v.before) (sym c.get_pass.ensures.view)))

pub unlock-requires-in-Locked-clause-homes : goal.unlock-requires-in-Locked-clause-homes
unlock-requires-in-Locked-clause-homes g c = let y = c.in-Locked.ensures.answer in
    (y.0, y.1, y.2, y.3, inl (y.4 ∙ ap (λ (v : Knows _). v.before) (sym c.get_pass.ensures.view)))

pub returns-in-Here-clause-answer : goal.returns-in-Here-clause-answer
returns-in-Here-clause-answer g c = let x = c.try_lock.ensures.locked c.if-not-try_lock.false in
    let a = c.in-Here.ensures.answer in let e = c.enter.ensures.view in let y = a.0.4 in (
      e.1,
      e.0 ∙ ap (λ (z : Knows _). came_to c.in-Here.segment c.args.takes (unlocked z)) (c.get_pass.ensures.view
          ∙ x.4.1),
      came_where c.in-Here.segment c.in-Here.pass y.0 y.1 y.4,
      a.1,
      a.2,
    )

pub returns-in-Gone-clause-answer : goal.returns-in-Gone-clause-answer
returns-in-Gone-clause-answer g c = let x = c.try_lock.ensures.locked c.if-not-try_lock.false in
    let a = c.in-Gone.ensures.answer in let e = c.go_on.ensures.view in (
      a.1,
      e.1,
      e.0 ∙ ap (λ (z : Knows _). went_on c.in-Gone.next c.args.takes (unlocked z)) (c.get_pass.ensures.view ∙ x.4.1),
    )
