use Rattle.std.proofs.Common.{subst, sym, ◌∷◌, []}
use Rattle.mb_channel.specs.Rests.{AreLeft}
use Rattle.mb_channel.proofs.Rests.{next_is, next_not, next_past}
use Rattle.mb_channel.proofs.rest.Rest.next.Goals as goal

pub returns-in-Some-next-clause-some : goal.returns-in-Some-next-clause-some
returns-in-Some-next-clause-some g c = λ x xs has. let e = c.in-Some.ensures.items in
    let n = next_is c.in-Some.left c.next.new.self c.pop_front.new.self.items c.in-Some-next.value x xs
    (subst (λ l. AreLeft l (x ∷ xs)) e (c.loop-left.invariant (x ∷ xs) has))
    c.in-Some-next.ensures.some c.in-Some-next.ensures.none in
    (n.0, subst (λ l. AreLeft l xs) (sym c.push_front_reserved.ensures.items) n.1)

pub returns-in-Some-next-clause-none : goal.returns-in-Some-next-clause-none
returns-in-Some-next-clause-none g c = λ has. let e = c.in-Some.ensures.items in
    let n = next_not c.in-Some.left c.next.new.self c.pop_front.new.self.items c.in-Some-next.value
    (subst (λ l. AreLeft l []) e (c.loop-left.invariant [] has)) c.in-Some-next.ensures.none in
    (n.0, subst (λ l. AreLeft l []) (sym c.push_front_reserved.ensures.items) n.1)

pub loop-left-preserved : goal.loop-left-preserved
loop-left-preserved g c = λ xs has. next_past c.in-Some.left c.next.new.self c.pop_front.new.self.items xs
    (subst (λ l. AreLeft l xs) c.in-Some.ensures.items (c.loop-left.invariant xs has))
    c.in_default-next.ensures.some
