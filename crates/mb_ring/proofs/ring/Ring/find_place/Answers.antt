use Rattle.std.specs.Prelude.{⊤}
use Rattle.mb_ring.proofs.Base.{subst}
use Rattle.mb_ring.proofs.SendMoves.{not_told}
use Rattle.mb_ring.specs.Vocabulary.{OfDraw}
use Rattle.mb_ring.proofs.ring.Ring.find_place.Goals as goal

pub returns-in-Worn-clause-open : goal.returns-in-Worn-clause-open
returns-in-Worn-clause-open g c = not_told c.args.pass.now.seat.me.0 c.loop.pass.seat.me.0
    c.loop.invariant.4 c.requires.member
    (λ told. subst (λ d. OfDraw d (λ _. ⊤) ⊤ ⊥ ⊤ ⊤ ⊤) (c.in-Worn.ensures.told told) tt)

pub returns-in-Full-clause-open : goal.returns-in-Full-clause-open
returns-in-Full-clause-open g c = not_told c.args.pass.now.seat.me.0 c.loop.pass.seat.me.0
    c.loop.invariant.4 c.requires.member
    (λ told. subst (λ d. OfDraw d (λ _. ⊤) ⊤ ⊥ ⊤ ⊤ ⊤) (c.in-Full.ensures.told told) tt)
