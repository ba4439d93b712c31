-- Steps on a lane, one after another, and the poll that they make.
use Rattle.std.proofs.Common.{◌<◌, ◌≤◌, ◌≡◌, ◌≢◌, ℕ, true, ◌+◌, ◌++◌, [], ◌∷◌, append_assoc, refl, sym, ap, ◌∙◌, subst, arith}
use Rattle.std.specs.Prelude.{Option, None, slice_get}
use Rattle.mb_mailbox.specs.Imports.{History, ReaderSeatView, SeatView, Stream, ToCells, ToClaims, WorldAccess, WorldHistory, claims_at, most_accesses, shape_of}
use Rattle.mb_mailbox.specs.declared.consumer.Poll.{Poll}
use Rattle.mb_mailbox.specs.declared.consumer.Poll.TheVariants as poll
use Rattle.mb_mailbox.specs.Consumers.{ConsumerView, parts_of}
use Rattle.mb_mailbox.specs.{Came.{CameTo, PollCameTo}, ConsumerStep.ConsumerStep, Mailboxes.MailboxView}
use Rattle.mb_mailbox.specs.Emptiness.{empty_load}
use Rattle.mb_mailbox.specs.Steps.{AnswerTells, AreDrawn, AreSteps, HasDone, IsPollOf, IsStep, LeadTo, note_with, outcome, with_note, drawn_words}

-- if `HasDone` holds of accesses without an answer, and then of one more access, it holds of all of them
done_more : (p : ℕ) (a : WorldAccess) (done : WorldHistory) (answer : Option Poll)
    (old now new : ConsumerView) → HasDone p done None old now
    → HasDone p (a ∷ []) answer now new → HasDone p (a ∷ done) answer old new
done_more p (ToCells b) done answer old now new was h = record {
  reader = h.reader ∙ ap (λ (v : ReaderSeatView). record v { part = b ∷ v.part }) was.reader;
  seat = h.seat ∙ was.seat;
  notes = h.notes ∙ ap (with_note p (note_with answer)) was.notes;
}
done_more p (ToClaims b) done answer old now new was h = record {
  reader = h.reader ∙ was.reader;
  seat = h.seat ∙ ap (λ (v : SeatView). record v { part = b ∷ v.part }) was.seat;
  notes = h.notes ∙ ap (with_note p (note_with answer)) was.notes;
}

-- with one more access, each access is still the next one by the parts before it
lead_more : (p : ℕ) (a : WorldAccess) (done : WorldHistory) (answer : Option Poll)
    (old now : ConsumerView) → HasDone p done None old now
    → LeadTo p None done old → LeadTo p answer (a ∷ []) now → LeadTo p answer (a ∷ done) old
lead_more p a done answer old now was lead step = (
  subst (λ (z : ReaderSeatView × SeatView). ConsumerStep (claims_at z.1.table) z.1.consumer p
      (parts_of z.0 z.1) a answer)
      (λ j. (was.reader j, was.seat j)) step.0,
  lead,
)

-- with one more access, the words drawn are those drawn before and then its word, if it draws one
drawn_more : (a : WorldAccess) (done : WorldHistory) (s t u : Stream) → AreDrawn s (drawn_words done) t
    → AreDrawn t (drawn_words (a ∷ [])) u
    → AreDrawn s (drawn_words (a ∷ done)) u
drawn_more (ToCells b) done s t u was d = subst (λ z. AreDrawn s (drawn_words done) z) (sym d) was
drawn_more (ToClaims b) done s t u was d = (d.0, subst (λ z. AreDrawn s (drawn_words done) z) (sym d.1) was, d.2)

-- n steps and one more are n + 1 steps
pub steps_more : (p n : ℕ) (answer : Option Poll) (s t u : Stream) (old now new : ConsumerView)
    → AreSteps p n None s t old now → IsStep p answer t u now new
    → AreSteps p (n + 1) answer s u old new
steps_more p n answer s t u old now new m st =
    let count = m.count in
    record {
      accesses = st.access ∷ m.accesses;
      done = done_more p st.access m.accesses answer old now new m.done st.done;
      lead = lead_more p st.access m.accesses answer old now m.done m.lead st.leads;
      drawn = drawn_more st.access m.accesses s t u m.drawn st.drawn;
      count = omega arith;
    }

-- a consumer that made no step is as before
pub no_steps : (p : ℕ) (s : Stream) (old : ConsumerView) → AreSteps p 0 None s s old old
no_steps p s old = record {
  accesses = [];
  done = record {
    reader = refl;
    seat = refl;
    notes = refl;
  };
  lead = refl;
  drawn = refl;
  count = refl;
}

-- one step alone makes `AreSteps` with n = 1
pub history_extends : (p : ℕ) (answer : Option Poll) (s t : Stream) (old new : ConsumerView)
    → IsStep p answer s t old new → AreSteps p 1 answer s t old new
history_extends p answer s t old new st = steps_more p 0 answer s s t old old new (no_steps p s old) st

-- ---- the poll that steps make
-- steps make a poll if they are at most the budget, and just as many as the budget if the poll is spent
pub poll_of : (p n budget : ℕ) (x : Poll) (s t : Stream) (old new : ConsumerView)
    → AreSteps p n (outcome x) s t old new → n ≤ budget
    → (x ≡ poll.Spent → n ≡ budget) → IsPollOf p budget x s t old new
poll_of p n budget x s t old new m few all = record {
  accesses = m.accesses;
  done = m.done;
  lead = m.lead;
  drawn = m.drawn;
  within = subst (λ z. z ≤ budget) (sym m.count) few;
  spent = λ e. m.count ∙ all e;
}

-- ---- what a poll comes to
-- a poll or a take of a lane that there is came to this answer
pub came_to : (m : MailboxView) (p : ℕ) (x : Poll) (s t : Stream) (old new : ConsumerView) → p < m.cells.size.lanes
    → x ≢ poll.NoLane → ((shape_of m.claims.layout).last ≡ true → x ≢ poll.Undecided)
    → AnswerTells p (outcome x) old new → CameTo m p x s t old new
came_to m p x s t old new low some decided told = record {
  no_lane = ((λ e. absurd (some e)), (λ wide. absurd (omega (arith, wide, low))));
  refused = λ e. absurd (some e);
  decided = decided;
  told = λ there. told;
}

pub poll_came : (m : MailboxView) (p budget : ℕ) (x : Poll) (s t : Stream) (old new : ConsumerView)
    → p < m.cells.size.lanes → x ≢ poll.NoLane → IsPollOf p budget x s t old new
    → (most_accesses m.claims.layout + 2 ≤ budget → x ≢ poll.Spent)
    → ((shape_of m.claims.layout).last ≡ true → x ≢ poll.Undecided)
    → AnswerTells p (outcome x) old new → PollCameTo m p budget x s t old new
poll_came m p budget x s t old new low some polled unspent decided told = record {
  came = came_to m p x s t old new low some decided told;
  polled = λ there. polled;
  unspent = unspent;
}

-- `AnswerTells` from `now` on holds from `old` on, too, if the consumer made no more than these loads in between
pub told_from : (p : ℕ) (answer : Option Poll) (old now new : ConsumerView) (loads : History)
    → now.reader ≡ record old.reader { part = loads ++ old.reader.part }
    → AnswerTells p answer now new → AnswerTells p answer old new
told_from p answer old now new loads same tells = record {
  noted = tells.noted;
  ended = tells.ended;
  empty = λ nothing.
      let found = tells.empty nothing in
      let all : found.made ++ now.reader.part ≡ (found.made ++ loads) ++ old.reader.part =
      ap (λ (r : ReaderSeatView). found.made ++ r.part) same
      ∙ sym (append_assoc found.made loads old.reader.part) in
      record {
        made = found.made ++ loads;
        newest = found.newest ∙ ap (λ l. empty_load p new ∷ l) all;
        moment = λ later before lawful own. found.moment later before lawful (own ∙ sym all);
      };
  known_nothing = λ theirs k. tells.known_nothing theirs (ap (λ (r : ReaderSeatView). slice_get r.known p) same ∙ k);
  known_ended = λ theirs k. tells.known_ended theirs (ap (λ (r : ReaderSeatView). slice_get r.known p) same ∙ k);
}
