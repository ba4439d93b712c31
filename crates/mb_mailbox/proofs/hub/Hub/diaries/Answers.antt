-- Proof of `Hub::diaries`: the diaries of all consumers, one consumer after the other.
use Rattle.std.proofs.Common.{◌≡◌, ◌+◌, ◌*◌, ◌≤◌, ℕ, arith, subst}
use Rattle.std.proofs.Math.Nat.{mul-le-mul_right}
use Rattle.mb_mailbox.specs.Gathering.{AreDiaries}
use Rattle.mb_mailbox.proofs.hub.Hub.diaries.Goals as goal

pub add_diaries-requires-clause-room : goal.add_diaries-requires-clause-room
add_diaries-requires-clause-room g c =
    let most : (c.loop-c.c + 1) * c.args.lanes ≤ c.args.consumers * c.args.lanes =
    mul-le-mul_right c.args.lanes (omega (arith, c.loop-c-test.true)) in
    let room = c.loop-c.invariant.room in
    omega (arith, most, room)

pub returns : goal.returns
returns g c =
    let end : c.loop-c.c ≡ c.args.consumers = omega arith in
    subst (λ (n : ℕ). AreDiaries c.args.lanes c.args.self.now (n * c.args.lanes) c.loop-c.diaries.items) end
    c.loop-c.invariant.made
