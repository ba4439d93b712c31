-- A take makes few accesses: for each cell that it meets those of a link and of a claim, and as many once more.
use Rattle.std.proofs.Common.{◌≡◌, ◌+◌, ◌*◌, ◌≤◌, ℕ, List, [], ◌∷◌, ◌++◌, length, refl, sym, ap, ◌∙◌, subst, arith}
use Rattle.std.proofs.Math.Nat.{mul-le-mul_left, mul-suc}
use Rattle.std.specs.Prelude.{Option, Some, None}
use Rattle.std.specs.List.{cons_option}
use Rattle.mb_cells.specs.declared.answer.Look.TheVariants as look
use Rattle.mb_claim.specs.History.{step_by}
use Rattle.mb_world.specs.{ConsumerPath.claim_access, Fitting.cell_given, Imports.{is_same_word}}
use Rattle.mb_mailbox.specs.Imports.{ClaimAccess, Look, ObjectTurn, Parts, Stream, ToCells, ToClaims, WorldAccess, WorldHistory}
use Rattle.mb_mailbox.specs.Imports.{cells_met, claim_accesses, claim_step, claims_at, link_load, look_of, part_on, place_past}
use Rattle.mb_mailbox.specs.ConsumerStep.{competes, looks, takes}
use Rattle.mb_mailbox.specs.ConsumerWords.{ConsumerStep, ConsumerView, LeadTo, Poll, link_answer, parts_of}
use Rattle.mb_mailbox.specs.Jobs.{accesses_made}
use Rattle.mb_mailbox.specs.Steps.{HasDone, outcome, parts_after}
use Rattle.mb_mailbox.specs.Takes.{HasPassed, IsTakeOf}
use Rattle.mb_mailbox.specs.declared.consumer.Poll.TheVariants as poll
use Rattle.mb_mailbox.proofs.Grown.{grown_by}
use Rattle.mb_mailbox.proofs.ShortPolls.{MeetsCell, TellsCell, found, pushed}
use Rattle.mb_mailbox.proofs.Straight.{OwnCell}

-- a take goes on after an access that comes to no answer or to a loss, and ends with any other answer
abbrev GoesOn : Option Poll → Type 0
GoesOn None = Unit {0}
GoesOn (Some (poll.Lost w)) = Unit {0}
GoesOn _ = ⊥

-- if the load of a link comes to an answer after which a take goes on, that is no answer
no_answer : (l : Look) (answer : Option Poll) → answer ≡ link_answer l → GoesOn answer → None ≡ link_answer l
no_answer look.Nothing answer e goes = absurd (subst GoesOn e goes)
no_answer look.Ended answer e goes = absurd (subst GoesOn e goes)
no_answer (look.Cell k) answer e goes = refl

-- a part is no shorter with one more access, and with more accesses
one_longer : (o : Option ObjectTurn) (xs : List ObjectTurn) → length xs ≤ length (cons_option o xs)
one_longer None xs = omega arith
one_longer (Some x) xs = omega arith

longer : (c k : ℕ) (later h : List ClaimAccess) → length (part_on c k h) ≤ length (part_on c k (later ++ h))
longer c k [] h = omega arith
longer c k (a ∷ later) h =
    let more = one_longer (step_by c k a) (part_on c k (later ++ h)) in
    let rest = longer c k later h in
    omega (arith, more, rest)

module _ (own : OwnCell) (meets : MeetsCell) (tells : TellsCell) (p most : ℕ) where
  -- no claim has made more than `most` accesses
  abbrev AreWithin : Parts → Type 0
  AreWithin x = (k : ℕ) → length (x.claimed k) ≤ most

  -- how many accesses the claim on the first of these cells has made, or `most` if there is none
  abbrev on_last : Parts → List ℕ → ℕ
  on_last x [] = most
  on_last x (k ∷ ks) = length (x.claimed k)

  -- with these cells met this grows by each access but the last of a take
  abbrev mark_by : Parts → List ℕ → ℕ
  mark_by x ks = (most + 1) * length ks + on_last x ks

  abbrev mark : Parts → ℕ
  mark x = mark_by x (cells_met p x.reads)

  at_most : (x : Parts) (ks : List ℕ) → AreWithin x → on_last x ks ≤ most
  at_most x [] few = omega arith
  at_most x (k ∷ ks) few = few k

  -- one more cell makes the mark larger
  one_cell : (x y : Parts) (k : ℕ) (ks : List ℕ) → AreWithin x → mark_by x ks + 1 ≤ mark_by y (k ∷ ks)
  one_cell x y k ks few =
      let low = at_most x ks few in
      let more = mul-suc (most + 1) (length ks) in
      omega (arith, low, more)

  module _ (old : ConsumerView) where
    abbrev x : WorldHistory → Parts
    x done = parts_after done old

    abbrev met : WorldHistory → List ℕ
    met done = cells_met p (x done).reads

    rises : (answer : Option Poll) (a : WorldAccess) (done : WorldHistory) → GoesOn answer → AreWithin (x done)
        → ConsumerStep (claims_at old.seat.table) old.seat.consumer p (x done) a answer
        → mark (x done) + 1 ≤ mark (x (a ∷ done))
    rises answer a done goes few (looks v past e told) =
        let cell = found tells v (look_of v) refl (no_answer (look_of v) answer told goes) in
        let is : met (a ∷ done) ≡ cell.0 ∷ met done =
        ap (λ (b : WorldAccess). met (b ∷ done)) (e ∙ ap (link_load old.seat.consumer p (met done)) cell.1)
        ∙ meets old.seat.consumer p cell.0 (x done).reads cell.2 in
        subst (λ ks. mark (x done) + 1 ≤ mark_by (x (a ∷ done)) ks) (sym is)
        (one_cell (x done) (x (a ∷ done)) cell.0 (met done) few)
    rises answer a done goes few (competes k t now last going after e told) =
        let longer = own (claim_access old.seat.consumer k t) (claim_accesses done ++ old.seat.part) in
        subst (λ (b : WorldAccess). mark (x done) + 1 ≤ mark (x (b ∷ done))) (sym e)
        (subst (λ ks. mark_by (x done) ks + 1
        ≤ mark_by (x (claim_step old.seat.consumer k t ∷ done)) ks) (sym last.met)
        (let more = ap length longer in omega (arith, more)))
    rises answer a done goes few (takes k v last won e told) = absurd (subst GoesOn told goes)

    fewer : (a : WorldAccess) (done : WorldHistory) → AreWithin (x (a ∷ done)) → AreWithin (x done)
    fewer (ToCells a) done few = few
    fewer (ToClaims a) done few = λ k.
        let more = longer old.seat.consumer k (a ∷ []) (claim_accesses done ++ old.seat.part) in
        let most-here = few k in
        omega (arith, more, most-here)

    -- accesses of a poll that lost its item, or that came to no answer yet
    pub lead_rises : (answer : Option Poll) (done : WorldHistory) → GoesOn answer → LeadTo p answer done old
        → AreWithin (x done) → mark (x []) + length done ≤ mark (x done)
    lead_rises answer [] goes lead few = omega arith
    lead_rises answer (a ∷ done) goes lead few =
        let less = fewer a done few in
        let was = lead_rises None done tt lead.1 less in
        let more = rises answer a done goes less lead.0 in
        omega (arith, was, more)

    grown : (a : WorldAccess) (done : WorldHistory) → length (met done) ≤ length (met (a ∷ done))
    grown (ToClaims a) done = omega arith
    grown (ToCells a) done =
        pushed (is_same_word a.word (place_past p (met done))) (cell_given a.act) (met done)

    -- accesses of a poll with any answer
    pub lead_ends : (answer : Option Poll) (done : WorldHistory) → LeadTo p answer done old → AreWithin (x done)
        → mark (x []) + length done ≤ (most + 1) * length (met done) + most + 1
    lead_ends answer [] lead few = let low = at_most (x []) (met []) few in omega (arith, low)
    lead_ends answer (a ∷ done) lead few =
        let less = fewer a done few in
        let was = lead_rises None done tt lead.1 less in
        let low = at_most (x done) (met done) less in
        let wide = mul-le-mul_left (most + 1) (grown a done) in
        omega (arith, was, low, wide)

  -- ---- polls one after another
  abbrev y : ConsumerView → Parts
  y s = parts_of s.reader s.seat

  -- the parts of a consumer after these accesses are those that it has
  after : (done : WorldHistory) (answer : Option Poll) (old new : ConsumerView) → HasDone p done answer old new
      → y new ≡ parts_after done old
  after done answer old new h = λ i. parts_of (h.reader i) (h.seat i)

  within_before : (done : WorldHistory) (answer : Option Poll) (old new : ConsumerView)
      → HasDone p done answer old new → AreWithin (y new) → AreWithin (y old)
  within_before done answer old new h few = λ k.
      let more = longer old.seat.consumer k (claim_accesses done) old.seat.part in
      let most-here = subst (λ (x : Parts). length (x.claimed k) ≤ most) (after done answer old new h) (few k) in
      omega (arith, more, most-here)

  passed_rises : (budget : ℕ) (winners : List ℕ) (s t : Stream) (start new : ConsumerView)
      → HasPassed p budget winners s t start new → AreWithin (y new)
      → mark (y start) + accesses_made new ≤ accesses_made start + mark (y new)
  passed_rises budget [] s t start new (drawn, is) few =
      subst (λ n. mark (y start) + accesses_made n ≤ accesses_made start + mark (y n)) (sym is) (omega arith)
  passed_rises budget (w ∷ older) s t start new (u, mid, was, last) few =
      let done = last.poll.accesses in
      let o = outcome (poll.Lost w) in
      let before = passed_rises budget older s u start mid was
      (within_before done o mid new last.poll.done few) in
      let now = after done o mid new last.poll.done in
      let more = subst (λ z. mark (y mid) + length done ≤ mark z) (sym now)
      (lead_rises mid o done tt last.poll.lead (subst AreWithin now few)) in
      let grown = grown_by p done o mid new last.poll.done in
      omega (arith, before, more, grown)

  pub take_few : (budget : ℕ) (answer : Poll) (s t : Stream) (old new : ConsumerView)
      → IsTakeOf p budget answer s t old new → AreWithin (y new)
      → accesses_made new + (most + 1) * length (cells_met p old.reader.part)
      ≤ accesses_made old + (most + 1) * length (cells_met p new.reader.part) + most + 1
  take_few budget answer s t old new i few =
      let done = i.last.poll.accesses in
      let o = outcome answer in
      let before = passed_rises budget i.winners s i.rest old i.mid i.passed
      (within_before done o i.mid new i.last.poll.done few) in
      let now = after done o i.mid new i.last.poll.done in
      let more = subst (λ (x : Parts). mark (y i.mid) + length done
      ≤ (most + 1) * length (cells_met p x.reads) + most + 1) (sym now)
      (lead_ends i.mid o done i.last.poll.lead (subst AreWithin now few)) in
      let grown = grown_by p done o i.mid new i.last.poll.done in
      omega (arith, before, more, grown)
