use Rattle.std.proofs.Common.{sym, ap, ◌∙◌, inl}
use Rattle.mb_channel.specs.declared.view.Knows.{Knows}
use Rattle.mb_channel.proofs.list.List.close.Goals as goal

pub unlock-requires-clause-homes : goal.unlock-requires-clause-homes
unlock-requires-clause-homes g c = let x = c.try_lock.ensures.locked c.if-not-try_lock.false in (
  x.0,
  c.mark_closed.ensures.held ∙ x.1,
  x.2,
  x.3,
  inl (sym (ap (λ (v : Knows _). v.before) c.mark_closed.ensures.closed ∙ ap (λ (v : Knows _). v.before) x.4.1)),
)
