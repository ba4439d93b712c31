-- How many accesses steps and polls make.
use Rattle.std.proofs.Common.{◌≡◌, ℕ, ◌+◌, ◌<◌, ◌≤◌, [], ◌∷◌, length, refl, ap, ◌∙◌, arith}
use Rattle.std.specs.Prelude.{Option}
use Rattle.std.proofs.lemmas.List.{length-append}
use Rattle.mb_mailbox.specs.Imports.{ReaderSeatView, SeatView, Stream, ToCells, ToClaims, WorldHistory, claim_accesses, pool_accesses}
use Rattle.mb_mailbox.specs.Consumers.{ConsumerView}
use Rattle.mb_mailbox.specs.Jobs.{accesses_made}
use Rattle.mb_mailbox.specs.Steps.{AreSteps, HasDone, IsPollOf, LeadTo, outcome}
use Rattle.mb_mailbox.specs.declared.consumer.Poll.{Poll}
use Rattle.mb_mailbox.specs.declared.consumer.Poll.TheVariants as poll

-- each access is to the cells or to the claims
both : (done : WorldHistory) → length (pool_accesses done) + length (claim_accesses done) ≡ length done
both [] = refl
both (ToCells a ∷ older) = let e = both older in omega (arith, e)
both (ToClaims a ∷ older) = let e = both older in omega (arith, e)

-- a poll without an access has a budget of 0
none_made : (p budget : ℕ) (answer : Poll) (s : ConsumerView) → LeadTo p (outcome answer) [] s
    → (answer ≡ poll.Spent → 0 ≡ budget) → 0 ≡ budget
none_made p budget poll.Spent s lead spent = spent refl
none_made p budget (poll.Took x) s lead spent = absurd (cc)
none_made p budget (poll.Lost w) s lead spent = absurd (cc)
none_made p budget poll.Undecided s lead spent = absurd (cc)
none_made p budget poll.Nothing s lead spent = absurd (cc)
none_made p budget poll.Ended s lead spent = absurd (cc)
none_made p budget poll.NoLane s lead spent = absurd (cc)

-- a poll with a budget above 0 makes an access
some_made : (p budget : ℕ) (answer : Poll) (done : WorldHistory) (s : ConsumerView) → 0 < budget
    → LeadTo p (outcome answer) done s
    → (answer ≡ poll.Spent → length done ≡ budget) → 0 < length done
some_made p budget answer [] s able lead spent = let none = none_made p budget answer s lead spent
    in omega (arith, able, none)
some_made p budget answer (a ∷ older) s able lead spent = omega arith

-- after accesses on a lane, the consumer has made as many accesses more as these are
pub grown_by : (p : ℕ) (done : WorldHistory) (answer : Option Poll) (old new : ConsumerView)
    → HasDone p done answer old new → accesses_made new ≡ accesses_made old + length done
grown_by p done answer old new h =
    let reads = ap (λ (r : ReaderSeatView). length r.part) h.reader
    ∙ length-append (pool_accesses done) old.reader.part in
    let claimed = ap (λ (c : SeatView). length c.part) h.seat
    ∙ length-append (claim_accesses done) old.seat.part in
    let all = both done in
    omega (arith, reads, claimed, all)

-- after n steps the consumer has made n accesses more
pub steps_grow : (p n : ℕ) (answer : Option Poll) (t u : Stream) (from new : ConsumerView)
    → AreSteps p n answer t u from new → accesses_made new ≡ accesses_made from + n
steps_grow p n answer t u from new so =
    let count = so.count in
    let grown = grown_by p so.accesses answer from new so.done in
    omega (arith, count, grown)

-- after a poll with a budget above 0 the consumer has made more accesses than before
pub made_by : (p budget : ℕ) (answer : Poll) (s t : Stream) (old new : ConsumerView) → 0 < budget
    → IsPollOf p budget answer s t old new
    → accesses_made old < accesses_made new
made_by p budget answer s t old new able i =
    let some = some_made p budget answer i.accesses old able i.lead i.spent in
    let grown = grown_by p i.accesses (outcome answer) old new i.done in
    omega (arith, some, grown)

-- after a poll the consumer has made at most the budget more accesses than before
pub most_by : (p budget : ℕ) (answer : Poll) (s t : Stream) (old new : ConsumerView)
    → IsPollOf p budget answer s t old new
    → accesses_made new ≤ accesses_made old + budget
most_by p budget answer s t old new i =
    let within = i.within in
    let grown = grown_by p i.accesses (outcome answer) old new i.done in
    omega (arith, within, grown)
