-- A poll loads one end mark if it returns `Ended`, and else none. A *look* says what a load of a head or link found.
use Rattle.std.proofs.Common.{◌≡◌, ◌≢◌, ℕ, ◌+◌, Bool, true, false, List, [], ◌∷◌, ◌++◌, Option, Some, None, length, refl, subst, ap, ◌∙◌, arith}
use Rattle.std.specs.Int.{from_bool}
use Rattle.mb_cells.specs.declared.answer.Look.TheVariants as look
use Rattle.mb_claim.specs.declared.access.Stage.TheVariants as stage
use Rattle.mb_mailbox.specs.Imports.{Claims, History, Look, Parts, PoolAccess, ReaderSeatView, Stream, ToCells, ToClaims, WorldAccess, WorldHistory, cells_met, link_load, look_of, pool_accesses}
use Rattle.mb_mailbox.specs.ConsumerStep.{ConsumerStep, competes, link_answer, looks, takes}
use Rattle.mb_mailbox.specs.Consumers.{ConsumerView}
use Rattle.mb_mailbox.specs.Jobs.{accesses_made, ends_met, is_ended, tells_end}
use Rattle.mb_mailbox.specs.Steps.{IsPollOf, LeadTo, outcome}
use Rattle.mb_mailbox.specs.declared.consumer.Poll.{Poll}
use Rattle.mb_mailbox.specs.declared.consumer.Poll.TheVariants as poll

-- whether an access loads an end mark
abbrev told_by : WorldAccess → Bool
told_by (ToCells a) = tells_end a.word a.act
told_by (ToClaims a) = false

-- a look whose answer is not `Ended` finds no end mark
not_ended : (l : Look) → (link_answer l ≡ Some poll.Ended → ⊥) → is_ended l ≡ false
not_ended look.Nothing n = refl
not_ended look.Ended n = absurd (n refl)
not_ended (look.Cell k) n = refl

-- a load of the link past these cells loads an end mark exactly if its look is `Ended`
past_told : (c p : ℕ) (ks : List ℕ) (v : ℕ) → told_by (link_load c p ks v) ≡ is_ended (look_of v)
past_told c p [] v = refl
past_told c p (k ∷ ks) v = refl

-- a step whose answer is not `Ended` loads no end mark
step_told : (cs : Claims) (c p : ℕ) (x : Parts) (b : PoolAccess) (answer : Option Poll)
    → ConsumerStep cs c p x (ToCells b) answer
    → (answer ≡ Some poll.Ended → ⊥) → tells_end b.word b.act ≡ false
step_told cs c p x b answer (looks v past e is) n = ap told_by e
    ∙ past_told c p (cells_met p x.reads) v ∙ not_ended (look_of v) (λ z. n (is ∙ z))
step_told cs c p x b answer (competes k t now last going after e is) n = ap told_by e
step_told cs c p x b answer (takes k v last won e is) n = ap told_by e

-- steps that do not come to `Ended` load no end mark
none_told : (p : ℕ) (answer : Option Poll) (done : WorldHistory) (s : ConsumerView)
    → LeadTo p answer done s → (answer ≡ Some poll.Ended → ⊥)
    → ends_met (pool_accesses done) ≡ 0
none_told p answer [] s lead n = refl
none_told p answer (ToCells b ∷ older) s lead n =
    let one : from_bool (tells_end b.word b.act) ≡ 0 = ap from_bool (step_told _ _ p _ b answer lead.0 n) in
    let rest = none_told p None older s lead.1 (λ z. cc) in
    omega (arith, one, rest)
none_told p answer (ToClaims b ∷ older) s lead n = none_told p None older s lead.1 (λ z. cc)

-- a look whose answer is `Ended` finds the end mark
told_end : (l : Look) → Some poll.Ended ≡ link_answer l → is_ended l ≡ true
told_end look.Nothing e = absurd (cc)
told_end look.Ended e = refl
told_end (look.Cell k) e = absurd (cc)

-- a step whose answer is `Ended` loads an end mark
step_end : (cs : Claims) (c p : ℕ) (x : Parts) (a : WorldAccess)
    → ConsumerStep cs c p x a (Some poll.Ended) → told_by a ≡ true
step_end cs c p x a (looks v past e is) = ap told_by e ∙ past_told c p (cells_met p x.reads) v ∙ told_end (look_of v) is
step_end cs c p x a (competes k t stage.Going last going after e is) = absurd (cc)
step_end cs c p x a (competes k t stage.Won last going after e is) = absurd (cc)
step_end cs c p x a (competes k t (stage.Lost w) last going after e is) = absurd (cc)
step_end cs c p x a (competes k t stage.Undecided last going after e is) = absurd (cc)
step_end cs c p x a (takes k v last won e is) = absurd (cc)

-- steps that come to `Ended` load one end mark
one_told : (p : ℕ) (done : WorldHistory) (s : ConsumerView) → LeadTo p (Some poll.Ended) done s
    → ends_met (pool_accesses done) ≡ 1
one_told p [] s lead = absurd (cc)
one_told p (ToCells b ∷ older) s lead =
    let one : from_bool (tells_end b.word b.act) ≡ 1 = ap from_bool (step_end _ _ p _ (ToCells b) lead.0) in
    let rest = none_told p None older s lead.1 (λ z. cc) in
    omega (arith, one, rest)
one_told p (ToClaims b ∷ older) s lead = let no : false ≡ true = step_end _ _ p _ (ToClaims b) lead.0 in absurd (cc)

-- the number of end marks that two histories joined load is the sum of their two numbers
ends_append : (xs ys : History) → ends_met (xs ++ ys) ≡ ends_met xs + ends_met ys
ends_append [] ys = omega arith
ends_append (x ∷ xs) ys = let rest = ends_append xs ys in omega (arith, rest)

-- if the accesses of a poll come to `Ended`, the poll returns `Ended`
ended : (answer : Poll) → outcome answer ≡ Some poll.Ended → answer ≡ poll.Ended
ended poll.Spent e = absurd (cc)
ended (poll.Took x) e = absurd (cc)
ended (poll.Lost w) e = absurd (cc)
ended poll.Undecided e = absurd (cc)
ended poll.Nothing e = absurd (cc)
ended poll.Ended e = refl
ended poll.NoLane e = absurd (cc)

module _ (p budget : ℕ) (answer : Poll) (s t : Stream) (old new : ConsumerView)
    (i : IsPollOf p budget answer s t old new) where
  -- the end marks loaded after a poll are those loaded before it, and those that its accesses load
  all : ends_met new.reader.part ≡ ends_met (pool_accesses i.accesses) + ends_met old.reader.part
  all = ap (λ (r : ReaderSeatView). ends_met r.part) i.done.reader
      ∙ ends_append (pool_accesses i.accesses) old.reader.part

  -- a poll that does not return `Ended` loads no end mark
  pub no_end_by : answer ≢ poll.Ended → ends_met new.reader.part ≡ ends_met old.reader.part
  no_end_by n =
      let sum = all in
      let none = none_told p (outcome answer) i.accesses old i.lead (λ z. n (ended answer z)) in
      omega (arith, sum, none)

  -- a poll that returns `Ended` loads one end mark
  pub one_end_by : answer ≡ poll.Ended → ends_met new.reader.part ≡ ends_met old.reader.part + 1
  one_end_by is =
      let sum = all in
      let one = one_told p i.accesses old (subst (λ (a : Poll). LeadTo p (outcome a) i.accesses old) is i.lead) in
      omega (arith, sum, one)

-- if a history's length and n add up to 0, it loads no end mark
no_end : (h : History) (n : ℕ) → length h + n ≡ 0 → ends_met h ≡ 0
no_end [] n e = refl
no_end (x ∷ h) n e = absurd (omega (arith, e))

-- a consumer that has made no access has loaded no end mark
pub none_met : (s : ConsumerView) → accesses_made s ≡ 0 → ends_met s.reader.part ≡ 0
none_met s none = no_end s.reader.part (length s.seat.part) none
