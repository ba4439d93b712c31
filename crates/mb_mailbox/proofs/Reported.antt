-- The report of what was returned to a hub is the report of the two histories that have the parts returned.
use Rattle.std.proofs.Common.{◌≡◌, ℕ, zero, suc, ◌+◌, ◌*◌, ◌<◌, Bool, true, false, not, ◌||◌, List, [], length, refl, sym, ap, ◌∙◌, subst, arith}
use Rattle.std.proofs.lemmas.Bool.{false≢true, lt-ltb}
use Rattle.std.specs.Prelude.{Option, Some, None, if◌then◌else◌, nat_lt, slice_get}
use Rattle.std.specs.Option.{option_map_or}
use Rattle.mb_world.specs.Theorem.{DiaryView, ReportView, diary, items_where, note}
use Rattle.mb_world.specs.Fitting.{parts_of as parts_in}
use Rattle.mb_world.specs.PartSteps.{no_parts}
use Rattle.mb_world.specs.Plan.{Histories, Plan, consumers_of}
use Rattle.mb_world.specs.Reporting.{HasMetAll, IsDiaryOf, IsReportOf, any_below, is_took, is_taken, lane_view, values_put}
use Rattle.mb_mailbox.specs.Imports.{Claim, IsClaimIn, IsClaimPrefix, Note, ObjectTurn, Parts, Stage, cells_met, claim_stage, consumer_of}
use Rattle.mb_world.specs.Places.{has_begun_at}
use Rattle.mb_mailbox.specs.Gathering.{IsReportIn, begun_in, diary_in, is_taken_in, items_in, lane_in, notes_in}
use Rattle.mb_mailbox.specs.Hubs.{HubView, ConsumerRecordView}
use Rattle.mb_mailbox.specs.Mailboxes.{MailboxView, plan_at}
use Rattle.mb_world.specs.declared.place.Place.{Place}
use Rattle.mb_mailbox.proofs.Lists.{get_some}
use Rattle.mb_mailbox.proofs.TakenIn.{Keeps, Tells}
use Rattle.mb_mailbox.proofs.ToldDiaries.{diary_is}

-- two tests that agree choose the same items
where_same : (f g : ℕ → Bool) (xs : List ℕ) → ((j : ℕ) → f j ≡ g j) → items_where f xs ≡ items_where g xs
where_same f g xs same = λ i. items_where (λ j. same j i) xs

any_same : (n : ℕ) (f g : ℕ → Bool) → ((c : ℕ) → c < n → f c ≡ g c) → any_below n f ≡ any_below n g
any_same zero f g same = refl
any_same (suc n) f g same = λ i. same n (omega arith) i || any_same n f g (λ c low. same c (omega arith)) i

-- if b is true, a choice by b is the first of the two
chosen : {X : Type 0} (b : Bool) (x y : X) → b ≡ true → (if b then x else y) ≡ x
chosen b x y e = ap (λ z. if z then x else y) e

-- the report's diary of consumer c on lane p is the one by the hub's records
pub notes_are : (lanes consumers : ℕ) (h : HubView) (r : ReportView)
    → IsReportIn lanes consumers h r → (c p : ℕ) → c < consumers → p < lanes
    → diary c p r ≡ Some (diary_in c p h)
notes_are lanes consumers h r is c p known low =
    let n : length r.lanes ≡ lanes = is.lanes_count in
    chosen (nat_lt p (length r.lanes)) (slice_get r.diaries (c * length r.lanes + p)) None
    (lt-ltb p (length r.lanes) (subst (λ z. p < z) (sym n) low))
    ∙ ap (λ z. slice_get r.diaries (c * z + p)) n ∙ is.diary c p known low

-- the notes in the hub's records and those in the report say the same of whether an item was taken
taken_same : (lanes consumers : ℕ) (h : HubView) (r : ReportView) → IsReportIn lanes consumers h r
    → (p j : ℕ) → p < lanes
    → is_taken_in consumers p j h ≡ is_taken consumers p j r
taken_same lanes consumers h r is p j low =
    any_same consumers (λ c. is_took (slice_get (notes_in c p h) j)) (λ c. is_took (note c p j r))
    (λ c known. ap (λ (o : Option DiaryView). is_took (slice_get (option_map_or (λ d. d.notes) o []) j))
    (sym (notes_are lanes consumers h r is c p known low)))

-- lane p by the hub's records is lane p by the histories
pub lane_is : (m : MailboxView) (h : HubView) (hs : Histories) (r : ReportView) (p : ℕ) → p < m.cells.size.lanes
    → IsReportIn m.cells.size.lanes (consumers_of (plan_at m)) h r → Tells m h hs.pool p
    → lane_in (consumers_of (plan_at m)) p h ≡ lane_view (plan_at m) p hs r
lane_is m h hs r p low is t =
    let n = consumers_of (plan_at m) in
    let left : items_where (λ j. not (is_taken_in n p j h)) (items_in p h)
    ≡ items_where (λ j. not (is_taken n p j r)) (values_put p hs.pool) =
    where_same (λ j. not (is_taken_in n p j h)) (λ j. not (is_taken n p j r)) (items_in p h)
    (λ j. ap not (taken_same m.cells.size.lanes n h r is p j low))
    ∙ ap (items_where (λ j. not (is_taken n p j r))) t.items in
    λ i. record { put = t.items i; ended = t.ended i; left = left i }

-- a consumer that has done nothing has an empty diary
module _ (plan : Plan) (c p : ℕ) (hs : Histories) (empty : no_parts ≡ parts_in c hs)
    (met : HasMetAll (hs.reader_of c) p (cells_met p (parts_in c hs).reads) hs.pool) where
  -- the consumer has met no cell
  no_cells : cells_met p (parts_in c hs).reads ≡ []
  no_cells = ap (λ (x : Parts). cells_met p x.reads) (sym empty)

  -- the histories say, too, that the consumer's diary is empty
  pub silent_diary : IsDiaryOf plan c p hs (record { consumer = c; lane = p; notes = []; begun = false })
  silent_diary = record {
    consumer = refl;
    lane = refl;
    cells = [];
    met = subst (λ ks. HasMetAll (hs.reader_of c) p ks hs.pool) no_cells met;
    notes = λ j n e. absurd (cc);
    all = λ j k n e end. absurd (cc);
    begun = (λ e. absurd (false≢true e), λ t. absurd t.1);
  }

-- the diary of consumer c by the hub's records is its diary by the histories
pub diary_told : (m : MailboxView) (h : HubView) (hs : Histories) (c p : ℕ) → p < m.cells.size.lanes
    → ((xs : List ObjectTurn) (s r : Stage) → IsClaimPrefix (plan_at m).claims c xs s
    → IsClaimPrefix (plan_at m).claims c xs r → s ≡ r)
    → ((claim : Claim) (xs : List ObjectTurn) → IsClaimIn m.claims.layout claim xs → consumer_of claim ≡ c
    → IsClaimPrefix (plan_at m).claims c xs (claim_stage claim))
    → HasMetAll (hs.reader_of c) p (cells_met p (parts_in c hs).reads) hs.pool
    → Keeps m h hs c → IsDiaryOf (plan_at m) c p hs (diary_in c p h)
diary_told m h hs c p low one path met (Keeps.was_in l e places lists fit stands) =
    let place = get_some l.places p (subst (λ n. p < n) (sym places) low) in
    let list = get_some l.notes p (subst (λ n. p < n) (sym lists) low) in
    let noted : list.0 ≡ notes_in c p h =
    sym (ap (λ (o : Option ConsumerRecordView). option_map_or
    (λ (z : ConsumerRecordView). option_map_or (λ (ns : List Note). ns) (slice_get z.notes p) []) o [])
    e
    ∙ ap (λ (o : Option (List Note)). option_map_or (λ (ns : List Note). ns) o []) list.1) in
    let begun : has_begun_at place.0 ≡ begun_in c p h =
    sym (ap (λ (o : Option ConsumerRecordView). option_map_or
    (λ (z : ConsumerRecordView). option_map_or has_begun_at (slice_get z.places p) false) o false) e
    ∙ ap (λ (o : Option Place). option_map_or has_begun_at o false) place.1) in
    subst (λ (d : DiaryView). IsDiaryOf (plan_at m) c p hs d)
    (λ i. record { consumer = c; lane = p; notes = noted i; begun = begun i })
    (diary_is (plan_at m) m.claims.layout c p hs list.0 place.0 one path met (stands p place.0 list.0 place.1 list.1))
diary_told m h hs c p low one path met (Keeps.never e empty) =
    let noted : [] ≡ notes_in c p h =
    sym (ap (λ (o : Option ConsumerRecordView). option_map_or
    (λ (z : ConsumerRecordView). option_map_or (λ (ns : List Note). ns) (slice_get z.notes p) []) o [])
    e) in
    let begun : false ≡ begun_in c p h =
    sym (ap (λ (o : Option ConsumerRecordView). option_map_or
    (λ (z : ConsumerRecordView). option_map_or has_begun_at (slice_get z.places p) false) o false) e) in
    subst (λ (d : DiaryView). IsDiaryOf (plan_at m) c p hs d)
    (λ i. record { consumer = c; lane = p; notes = noted i; begun = begun i })
    (silent_diary (plan_at m) c p hs empty met)

-- the report by the hub's records is the report by the histories
pub report_is : (m : MailboxView) (h : HubView) (hs : Histories) (r : ReportView)
    → IsReportIn m.cells.size.lanes (consumers_of (plan_at m)) h r
    → ((p : ℕ) → Tells m h hs.pool p)
    → ((c p : ℕ) → c < consumers_of (plan_at m) → p < m.cells.size.lanes
    → IsDiaryOf (plan_at m) c p hs (diary_in c p h))
    → IsReportOf (plan_at m) hs r
report_is m h hs r is tells diaries = record {
  lanes_count = is.lanes_count;
  diaries_count = is.diaries_count;
  lane = λ p low. is.lane p low ∙ ap Some (lane_is m h hs r p low is (tells p));
  diary = λ c p known low. (diary_in c p h, is.diary c p known low, diaries c p known low);
}
