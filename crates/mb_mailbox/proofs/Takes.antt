-- Takes: polls one after another, past the items that are lost.
use Rattle.std.proofs.Common.{◌≡◌, ◌≢◌, ◌+◌, ◌-◌, ◌*◌, ◌<◌, ◌≤◌, ℕ, List, [], ◌∷◌, ◌++◌, ap, append_assoc, arith, length, subst, sym, true, ◌∙◌}
use Rattle.std.specs.Prelude.{Some}
use Rattle.mb_mailbox.specs.Imports.{Cursor, History, ReaderSeatView, Stream, WorldHistory, most_accesses, pool_accesses, shape_of}
use Rattle.mb_mailbox.specs.{Came.TakeCameTo, Consumers.{ConsumerView, IsConsumer, IsConsumerOf}}
use Rattle.mb_mailbox.specs.Jobs.{accesses_made}
use Rattle.mb_mailbox.specs.{Mailboxes.MailboxView, NoteLists.HasAllRoom, Pursuits.{at_link, with_fields}}
use Rattle.mb_mailbox.specs.declared.consumer.ConsumerFields.{ConsumerFields}
use Rattle.mb_mailbox.specs.Steps.{AnswerTells, IsPollOf, LeadTo, outcome}
use Rattle.mb_mailbox.specs.Takes.{HasPassed, IsPollOfRest, IsTakeOf}
use Rattle.mb_mailbox.specs.declared.consumer.Poll.{Poll}
use Rattle.mb_mailbox.specs.declared.consumer.Poll.TheVariants as poll
use Rattle.mb_mailbox.proofs.Grown.{grown_by}
use Rattle.mb_mailbox.proofs.Polls.{came_to, told_from}

-- after a poll of what is left, the accesses since `start` are at most `most`. By `spent_by` they are `most` if spent
within_by : (p most : ℕ) (answer : Poll) (s t : Stream) (start old new : ConsumerView)
    → IsPollOfRest p most answer s t start old new → accesses_made new ≤ accesses_made start + most
within_by p most answer s t start old new i =
    let few = i.poll.within in
    let rest = i.rest in
    let grown = grown_by p i.poll.accesses _ old new i.poll.done in
    omega (arith, few, rest, grown)

pub spent_by : (p most : ℕ) (answer : Poll) (s t : Stream) (start old new : ConsumerView)
    → IsPollOfRest p most answer s t start old new → answer ≡ poll.Spent
    → accesses_made new ≡ accesses_made start + most
spent_by p most answer s t start old new i e =
    let all = i.poll.spent e in
    let rest = i.rest in
    let grown = grown_by p i.poll.accesses _ old new i.poll.done in
    omega (arith, all, rest, grown)

-- ---- a take that goes on with the budget that is left
-- `mid` is the consumer after some accesses, and `left` is what they left of `most`
module _ (p most left : ℕ) (start mid : ConsumerView)
    (rest : accesses_made mid + left ≡ accesses_made start + most) where
  rest_on : (answer : Poll) (s t : Stream) (old new : ConsumerView)
      → IsPollOfRest p left answer s t mid old new → IsPollOfRest p most answer s t start old new
  rest_on answer s t old new i = record { left = i.left; rest = i.rest ∙ rest; poll = i.poll }

  -- if items are passed up to `mid`, and others from there on with what is left, all of them are passed from `start` on
  pub passed_on : (older later : List ℕ) (s t u : Stream) (new : ConsumerView) → HasPassed p most older s t start mid
      → HasPassed p left later t u mid new → HasPassed p most (later ++ older) s u start new
  passed_on older [] s t u new was (drawn, is) =
      subst (λ (z : Stream × ConsumerView). HasPassed p most older s z.0 start z.1) (λ i. (sym drawn i, sym is i)) was
  passed_on older (w ∷ later) s t u new was (v, last, more, one) =
      (v, last, passed_on older later s t v last was more, rest_on (poll.Lost w) v u last new one)

  -- items passed up to `mid`, and a take from there on with what is left, make one take from `start` on
  pub take_on : (older : List ℕ) (answer : Poll) (s t u : Stream) (new : ConsumerView)
      → HasPassed p most older s t start mid → IsTakeOf p left answer t u mid new → IsTakeOf p most answer s u start new
  take_on older answer s t u new was i = record {
    winners = i.winners ++ older;
    mid = i.mid;
    rest = i.rest;
    passed = passed_on older i.winners s t i.rest i.mid was i.passed;
    last = rest_on answer i.rest u i.mid new i.last;
    over = i.over;
  }

-- ---- a poll that lost an item
-- a poll that lost an item made an access. So by `lost_grows` the consumer has made more accesses than before
lost_by : (p w : ℕ) (done : WorldHistory) (s : ConsumerView) → LeadTo p (Some (poll.Lost w)) done s → 0 < length done
lost_by p w [] s lead = absurd (cc)
lost_by p w (a ∷ older) s lead = omega arith

pub lost_grows : (p budget w : ℕ) (s t : Stream) (old new : ConsumerView)
    → IsPollOf p budget (poll.Lost w) s t old new → accesses_made old < accesses_made new
lost_grows p budget w s t old new i =
    let some = lost_by p w i.accesses old i.lead in
    let grown = grown_by p i.accesses _ old new i.done in
    omega (arith, some, grown)

-- a consumer that has passed items, or none, has made no fewer accesses than before
pub passed_grows : (p most : ℕ) (winners : List ℕ) (s t : Stream) (start new : ConsumerView)
    → HasPassed p most winners s t start new → accesses_made start ≤ accesses_made new
passed_grows p most [] s t start new (drawn, is) = let same = ap accesses_made is in omega (arith, same)
passed_grows p most (w ∷ older) s t start new (u, mid, was, last) =
    let before = passed_grows p most older s u start mid was in
    let more = lost_grows p last.left w u t mid new last.poll in
    omega (arith, before, more)

-- a consumer that has passed items has made loads, and is the same reader as before
pub passed_reads : (p most : ℕ) (winners : List ℕ) (s t : Stream) (start new : ConsumerView)
    → HasPassed p most winners s t start new
    → (loads : History) × (new.reader ≡ record start.reader { part = loads ++ start.reader.part })
passed_reads p most [] s t start new (drawn, is) = ([], ap (λ (v : ConsumerView). v.reader) is)
passed_reads p most (w ∷ older) s t start new (u, mid, was, last) =
    let before = passed_reads p most older s u start mid was in
    let more = pool_accesses last.poll.accesses in (
      more ++ before.0,
      last.poll.done.reader ∙ ap (λ (r : ReaderSeatView). record r { part = more ++ r.part }) before.1
          ∙ ap (λ (h : History). record start.reader { part = h }) (sym (append_assoc more before.0 start.reader.part)),
    )

-- ---- the end of a take
-- items passed, and then a poll of what is left that loses no item, make a take, and `AnswerTells` holds of it
pub take_by : (p most left : ℕ) (winners : List ℕ) (answer : Poll) (s t u : Stream) (start mid new : ConsumerView)
    → HasPassed p most winners s t start mid → accesses_made mid + left ≡ accesses_made start + most
    → IsPollOf p left answer t u mid new → ((w : ℕ) → answer ≢ poll.Lost w)
    → AnswerTells p (outcome answer) mid new
    → IsTakeOf p most answer s u start new × AnswerTells p (outcome answer) start new
take_by p most left winners answer s t u start mid new was rest one over tells =
    let reads = passed_reads p most winners s t start mid was in (
      record {
        winners = winners;
        mid = mid;
        rest = t;
        passed = was;
        last = record { left = left; rest = rest; poll = one };
        over = over;
      },
      told_from p (outcome answer) start mid new reads.0 reads.1 tells,
    )

-- a take of a lane that there is came to this answer
pub take_came : (m : MailboxView) (p most : ℕ) (answer : Poll) (s t : Stream) (old new : ConsumerView)
    → p < m.cells.size.lanes → answer ≢ poll.NoLane → IsTakeOf p most answer s t old new
    → ((most_accesses m.claims.layout + 1) * (m.cells.size.cells + 1) < most → answer ≢ poll.Spent)
    → ((shape_of m.claims.layout).last ≡ true → answer ≢ poll.Undecided)
    → AnswerTells p (outcome answer) old new → TakeCameTo m p most answer s t old new
take_came m p most answer s t old new low some take unspent decided told = record {
  came = came_to m p answer s t old new low some decided told;
  taken = λ there. take;
  not_lost = take.over;
  within = within_by p most answer take.rest t old take.mid new take.last;
  spent = spent_by p most answer take.rest t old take.mid new take.last;
  unspent = unspent;
}

-- ---- items passed while a variable has the cursor
-- what is left of a budget of `most` with which so many items may be lost, after all but `more` of them
abbrev pub rest_of : ℕ → ℕ → ℕ → ℕ
rest_of most losses more = more * 2 + (most - losses * 2)

-- a consumer with these fields, but with the cursor `at` on lane p, has passed items of lane p. Its own field for the
-- place there may be out of date. `left` is what is left of `most`
pub record HasPassedTo {Z : Type 0} (m : MailboxView) (p most : ℕ) (s t : Stream) (start : ConsumerView) (at : Cursor)
    (f : ConsumerFields Z) (left : ℕ) : Type 0 where
  pub winners : List ℕ
  pub passed : HasPassed p most winners s t start (at_link p at (with_fields f))
  pub rest : accesses_made (with_fields f) + left ≡ accesses_made start + most
  pub is : IsConsumer (at_link p at (with_fields f))
  pub belongs : IsConsumerOf m (with_fields f)
  pub wide : HasAllRoom f.reader.table.size.cells f.notes
  pub lane : p < length f.places.items
