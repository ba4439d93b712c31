-- In a run each consumer has a note at each item, or has made from 2^64 - 2 to the budget times 2^64 - 2 accesses.
use Rattle.std.proofs.Common.{◌≡◌, ◌+◌, ◌-◌, ◌*◌, ◌^◌, ◌<◌, ◌≤◌, ℕ, zero, suc, Bool, true, false, List, [], ◌∷◌, Option, Some, inl, inr, length, map, slice_get, refl, sym, ap, ◌∙◌, subst, arith}
use Rattle.std.specs.List.{All}
use Rattle.std.proofs.lemmas.Bool.{lt-ltb}
use Rattle.std.proofs.lemmas.Option.{slice_get-get_or, slice_get-map}
use Rattle.mb_world.specs.Theorem.{ReportView, notes}
use Rattle.mb_mailbox.specs.Imports.{Reader, consumer_count, consumer_part, part, taken_part}
use Rattle.mb_mailbox.specs.Gathering.{IsGathered, IsReportIn, kept_at, notes_in}
use Rattle.mb_mailbox.specs.Hubs.{HubView, ConsumerRecordView}
use Rattle.mb_mailbox.specs.Jobs.{IsStoppedPoll}
use Rattle.mb_mailbox.specs.Mailboxes.{MailboxView}
use Rattle.mb_mailbox.specs.Steps.{notes_on}
use Rattle.mb_mailbox.specs.Worked.{AreStoppedPolls, ConsumerEnd, HasNoteAtEach, ProducerEnd}
use Rattle.mb_mailbox.specs.declared.gate.Who.{Who}
use Rattle.mb_program.specs.Running.{HasNotedAll, accesses_by}

-- if `Some x` and `Some y` are equal, x and y are
pub same_some : {X : Type 0} {x y : X} → ◌≡◌ {A = Option X} (Some x) (Some y) → x ≡ y
same_some e = cc

-- ---- what holds of all holds of each
-- the part of a consumer that was returned is the one that this consumer left
taken_at : (cs : List ConsumerEnd) (c : ℕ) (one : ConsumerEnd) → slice_get cs c ≡ Some one
    → taken_part (map (λ x. Some x.claimed) cs) c ≡ one.claimed
taken_at [] c one at = absurd (cc)
taken_at (x ∷ xs) zero one at = ap (λ (y : ConsumerEnd). y.claimed) (same_some at)
taken_at (x ∷ xs) (suc c) one at = taken_at xs c one at

-- what is said of each consumer that was stopped holds of the consumer at place c, if it was stopped
stopped_at : (may_stop : Who → ℕ → Type 0) (budget from : ℕ) (cs : List ConsumerEnd) (c : ℕ)
    (one : ConsumerEnd) → AreStoppedPolls may_stop budget from cs
    → slice_get cs c ≡ Some one → one.stopped ≡ true
    → IsStoppedPoll may_stop budget (from + c) (length one.reads + length one.claimed)
stopped_at may_stop budget from [] c one all at = absurd (cc)
stopped_at may_stop budget from (x ∷ xs) zero one all at =
    let e : x ≡ one = same_some at in
    let here : from ≡ from + 0 = omega arith in
    subst (λ (k : ℕ). one.stopped ≡ true → IsStoppedPoll may_stop budget k (length one.reads + length one.claimed)) here
    (subst (λ (y : ConsumerEnd). y.stopped ≡ true
    → IsStoppedPoll may_stop budget from (length y.reads + length y.claimed)) e all.0)
stopped_at may_stop budget from (x ∷ xs) (suc c) one all at =
    let next : suc from + c ≡ from + suc c = omega arith in
    subst (λ (k : ℕ). one.stopped ≡ true → IsStoppedPoll may_stop budget k (length one.reads + length one.claimed)) next
    (stopped_at may_stop budget (suc from) xs c one all.1 at)

-- a consumer with a note at each item of the lanes from `from` on has as many on lane `from + p` as that has items
noted_at : (from : ℕ) (lanes : List ProducerEnd) (p : ℕ) (l : ProducerEnd) (kept : ConsumerRecordView)
    → HasNoteAtEach from lanes kept → slice_get lanes p ≡ Some l
    → length (notes_on (from + p) kept.notes) ≡ length l.put
noted_at from [] p l kept has at = absurd (cc)
noted_at from (x ∷ xs) zero l kept has at =
    let here : from + 0 ≡ from = omega arith in
    ap (λ (k : ℕ). length (notes_on k kept.notes)) here ∙ has.0 ∙ ap (λ (y : ProducerEnd). length y.put)
    (same_some at)
noted_at from (x ∷ xs) (suc p) l kept has at =
    let next : from + suc p ≡ suc from + p = omega arith in
    ap (λ (k : ℕ). length (notes_on k kept.notes)) next ∙ noted_at (suc from) xs p l kept has.1 at

-- at each position below its length a list has an element
one_at : {X : Type 0} (xs : List X) (k : ℕ) → k < length xs → (x : X) × (slice_get xs k ≡ Some x)
one_at [] k low = absurd (omega (arith, low))
one_at (x ∷ xs) zero low = (x, refl)
one_at (x ∷ xs) (suc k) low = one_at xs k (omega (arith, low))

-- what holds of all elements of a list holds of element k
of_one : {X : Type 0} (P : X → Type 0) (xs : List X) (k : ℕ) (x : X) → All P xs → k < length xs
    → slice_get xs k ≡ Some x → P x
of_one P xs k x all low at = subst P (same_some (sym (slice_get-get_or xs k x low) ∙ at)) (all k x low)

-- if the gate stops nobody, a consumer was only stopped after 2^64 - 2 calls, so its accesses have these bounds
come_to_last : (may_stop : Who → ℕ → Type 0) → ((w : Who) (n : ℕ) → may_stop w n → ⊥)
    → (budget c made : ℕ) → IsStoppedPoll may_stop budget c made
    → (2 ^ 64 - 2 ≤ made) × (made ≤ budget * (2 ^ 64 - 2))
come_to_last may_stop never budget c made was =
    let within = was.within in
    elim was.stop [
      | inl stops ↦ absurd (never _ _ stops)
      | inr last ↦ (
        omega (arith, last, within),
        (let e : was.call - 1 ≡ 2 ^ 64 - 2 = omega (arith, last) in subst (λ (k : ℕ). made ≤ budget * k) e was.most),
      )
    ]

-- ---- the notes of the report
-- if the gate stops nobody, each consumer has a note at each item, or has made at least 2^64 - 2 accesses
pub notes_told : (may_stop : Who → ℕ → Type 0) (budget : ℕ) → ((w : Who) (n : ℕ) → may_stop w n → ⊥)
    → (count : ℕ) (m : MailboxView) (h : HubView) (r : ReportView)
    (left : List ProducerEnd) (cs : List ConsumerEnd) (g : IsGathered m h r)
    → IsReportIn m.cells.size.lanes (consumer_count m.claims.layout) h r
    → h.records ≡ map (λ x. Some x.kept) cs → h.cells.roll.readers ≡ map (λ x. Some x.reads) cs
    → h.claims.roll ≡ map (λ x. Some x.claimed) cs
    → length cs ≡ consumer_count m.claims.layout → AreStoppedPolls may_stop budget 0 cs
    → All (λ x. x.stopped ≡ false → HasNoteAtEach 0 left x.kept) cs
    → ((p : ℕ) → p < m.cells.size.lanes → (l : ProducerEnd) × (slice_get left p ≡ Some l) × (length l.put ≡ count))
    → (c p : ℕ) → c < consumer_count m.claims.layout → p < m.cells.size.lanes
    → HasNotedAll count budget c p g.histories r
notes_told may_stop budget never count m h r left cs g told records readers claims many stopped
    noted lanes c p low_c low_p = go one.stopped refl
  where
    -- consumer c is among those that worked, and this is what it left
    there : c < length cs
    there = omega (arith, low_c, many)

    found : (x : ConsumerEnd) × (slice_get cs c ≡ Some x)
    found = one_at cs c there

    one : ConsumerEnd
    one = found.0

    at : slice_get cs c ≡ Some one
    at = found.1

    -- the hub's record of consumer c is what this consumer left
    kept : kept_at h.records c ≡ Some one.kept
    kept = ap (λ xs. kept_at xs c) records ∙ rw (slice_get-map (λ (x : ConsumerEnd). Some x.kept) cs c, at) refl

    -- the notes in the report are those of the hub, and these are those of the record
    in_report : notes c p r ≡ notes_in c p h
    in_report = rw (told.lanes_count, lt-ltb p m.cells.size.lanes low_p, told.diary c p low_c low_p) refl

    in_record : notes_in c p h ≡ notes_on p one.kept.notes
    in_record = rw kept refl

    -- the parts of consumer c in the histories are those that it left, so its accesses are as many
    reads : part (Reader (g.histories.reader_of c)) g.histories.pool ≡ one.reads
    reads = ap (λ (k : ℕ). part (Reader k) g.histories.pool) (g.reader c)
        ∙ g.pool.parts (Reader c) one.reads (ap (λ xs. slice_get xs c) readers
        ∙ rw (slice_get-map (λ (x : ConsumerEnd). Some x.reads) cs c, at) refl)

    claimed : consumer_part c g.histories.claims ≡ one.claimed
    claimed = g.claims c ∙ ap (λ xs. taken_part xs c) claims ∙ taken_at cs c one at

    made : accesses_by c g.histories ≡ length one.reads + length one.claimed
    made = rw (reads, claimed) refl

    -- a consumer that was not stopped has all notes, and one that was stopped has made the accesses
    go : (b : Bool) → one.stopped ≡ b → HasNotedAll count budget c p g.histories r
    go false e =
        let l = lanes p low_p in
        let has = of_one (λ x. x.stopped ≡ false → HasNoteAtEach 0 left x.kept) cs c one noted there at e in
        let here : p ≡ 0 + p = omega arith in
        inl (ap length (in_report ∙ in_record) ∙ ap (λ (k : ℕ). length (notes_on k one.kept.notes)) here
        ∙ noted_at 0 left p l.0 one.kept has l.1 ∙ l.2)
    go true e =
        let last = come_to_last may_stop never budget (0 + c)
        (length one.reads + length one.claimed)
        (stopped_at may_stop budget 0 cs c one stopped at e) in
        inr (
          subst (λ (k : ℕ). 2 ^ 64 - 2 ≤ k) (sym made) last.0,
          subst (λ (k : ℕ). k ≤ budget * (2 ^ 64 - 2)) (sym made) last.1,
        )
