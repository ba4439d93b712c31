-- What a hub records of those returned agrees with the two histories that have their parts.
use Rattle.std.proofs.Common.{◌≡◌, ℕ, zero, suc, ◌<◌, ◌≤◌, false, List, [], ◌∷◌, length, map, refl, sym, ap, ◌∙◌, subst, arith}
use Rattle.std.specs.Prelude.{Option, Some, None, slice_get}
use Rattle.std.specs.Option.{option_map_or}
use Rattle.std.proofs.lemmas.Option.{slice_get_past}
use Rattle.mb_cells.specs.declared.access.Process.{Process}
use Rattle.mb_cells.specs.Vocabulary.{Entry, fetch, part, put_list}
use Rattle.mb_shared_cells.specs.Vocabulary.{IsRollOf}
use Rattle.mb_shared_claims.specs.Vocabulary.{Roll, count_out, taken_part}
use Rattle.mb_world.specs.Fitting.{parts_of as parts_in}
use Rattle.mb_world.specs.PartSteps.{no_parts}
use Rattle.mb_world.specs.Plan.{Histories}
use Rattle.mb_world.specs.Reporting.{values_put}
use Rattle.mb_mailbox.specs.Imports.{CellsName, ClaimAccess, ClaimTable, Fits, Has, History, Note, Parts, PoolAccess, Producer, Reader, TableSize}
use Rattle.mb_mailbox.specs.Imports.{consumer_part, claims_in, has_ended, linked_cells, part_on}
use Rattle.mb_mailbox.specs.Consumers.{StandsOn}
use Rattle.mb_mailbox.specs.Gathering.{count_missing, ended_in, items_in, kept_at}
use Rattle.mb_mailbox.specs.Hubs.{HubView, IsHub, IsHubOf, IsConsumerRecord, IsPutList, ConsumerRecordView, PutListView, parts_by}
use Rattle.mb_mailbox.specs.Mailboxes.{MailboxView, plan_at}
use Rattle.mb_world.specs.declared.place.Place.{Place}
use Rattle.mb_mailbox.proofs.Lists.{some_same}

-- ---- lists by number, with `None` for each that was not returned
-- at this place something was returned, or the place is past the list
pub data At {X : Type 0} (xs : List (Option X)) (n : ℕ) : Type 0 where
  here : (x : X) → slice_get xs n ≡ Some (Some x) → At xs n
  past : slice_get xs n ≡ None → length xs ≤ n → At xs n

-- if nothing is missing, something was returned at each place, or the place is past the list
pub at : {X : Type 0} (xs : List (Option X)) (n : ℕ) → count_missing xs ≡ 0 → At xs n
at [] n e = past refl (omega arith)
at (Some x ∷ xs) zero e = here x refl
at (None ∷ xs) n e = absurd (omega arith)
at (Some x ∷ xs) (suc n) e = by (at xs n e)
  where
    by : At xs n → At (Some x ∷ xs) (suc n)
    by (here y f) = here y f
    by (past f low) = past f (omega arith)

-- if a part was returned for each number of the roll, no seat is out, that is, issued and not returned
pub none_out : (roll : Roll) → ((c : ℕ) → c < length roll → (done : List ClaimAccess)
    × (slice_get roll c ≡ Some (Some done)))
    → count_out roll ≡ 0
none_out [] all = refl
none_out (Some done ∷ roll) all = none_out roll (λ c low. all (suc c) (omega arith))
none_out (None ∷ roll) all =
    let t = all 0 (omega arith) in
    let e : None ≡ Some t.0 = some_same None (Some t.0) t.1 in
    absurd (cc)

-- the part that the roll has at number c is the part returned of consumer c
taken_is : (roll : Roll) (c : ℕ) (done : List ClaimAccess) → slice_get roll c ≡ Some (Some done)
    → taken_part roll c ≡ done
taken_is [] c done e = absurd (cc)
taken_is (Some d ∷ roll) zero done e = some_same d done (some_same (Some d) (Some done) e)
taken_is (None ∷ roll) zero done e = let f : None ≡ Some done = some_same None (Some done) e in absurd (cc)
taken_is (Some d ∷ roll) (suc c) done e = taken_is roll c done e
taken_is (None ∷ roll) (suc c) done e = taken_is roll c done e

-- for a number past the end of the roll, the part returned has no access
taken_none : (roll : Roll) (c : ℕ) → length roll ≤ c → taken_part roll c ≡ []
taken_none [] c low = refl
taken_none (x ∷ roll) zero low = absurd (omega arith)
taken_none (Some d ∷ roll) (suc c) low = taken_none roll c (omega arith)
taken_none (None ∷ roll) (suc c) low = taken_none roll c (omega arith)

-- what `kept_at` gives for a number, by the element that the list has there
abbrev pub kept_of : {X : Type 0} → Option (Option X) → Option X
kept_of {X} o = option_map_or (λ (z : Option X). z) o None

-- ---- consumers
-- the hub's record of consumer c agrees with c's parts of the histories. If c was never issued, it has no record, and
-- its parts have no access
pub data Keeps (m : MailboxView) (h : HubView) (hs : Histories) (c : ℕ) : Type 0 where
  was_in : (l : ConsumerRecordView) → kept_at h.records c ≡ Some l
      → length l.places ≡ m.cells.size.lanes → length l.notes ≡ m.cells.size.lanes
      → Fits (plan_at m).claims c (parts_in c hs)
      → ((p : ℕ) (place : Place) (notes : List Note) → slice_get l.places p ≡ Some place
      → slice_get l.notes p ≡ Some notes
      → StandsOn m.claims.layout (plan_at m).claims c p (parts_in c hs) notes place)
      → Keeps m h hs c
  never : kept_at h.records c ≡ None → no_parts ≡ parts_in c hs → Keeps m h hs c

-- the two histories, in which consumer c is the reader with the same number c
abbrev pub histories_in : List ClaimAccess → History → Histories
histories_in claims pool = record { claims = claims; pool = pool; reader_of = λ c. c }

module _ (m : MailboxView) (h : HubView) (claims : List ClaimAccess) (pool : History) (i : IsHub h)
    (belongs : IsHubOf m h)
    (cut : (c k : ℕ) (h : List ClaimAccess) → part_on c k (consumer_part c h) ≡ part_on c k h)
    (made : (c : ℕ) → consumer_part c claims ≡ taken_part h.claims.roll c)
    (is : IsRollOf m.cells.size h.cells.roll pool) where
  abbrev hs : Histories
  hs = histories_in claims pool

  -- consumer c's steps on a cell are the same in its part that was returned and in the history of the claims
  steps : (c : ℕ) (done : List ClaimAccess) → taken_part h.claims.roll c ≡ done → (k : ℕ)
      → part_on c k done ≡ part_on c k claims
  steps c done e k = ap (λ l. part_on c k l) (sym (made c ∙ e)) ∙ cut c k claims

  -- the hub's record of a consumer that was returned agrees with the histories
  kept : (c : ℕ) (l : ConsumerRecordView) (reads : History) (done : List ClaimAccess)
      → slice_get h.records c ≡ Some (Some l)
      → part (Reader c) pool ≡ reads → taken_part h.claims.roll c ≡ done
      → IsConsumerRecord h.claims.table h.cells.table.size.lanes c reads done l → Keeps m h hs c
  kept c l reads done e r d k =
      let lanes : h.cells.table.size.lanes ≡ m.cells.size.lanes = ap (λ t. t.size.lanes) belongs.cells in
      let size : k.size ≡ record { layout = m.claims.layout; cells = m.claims.cells } =
      some_same k.size (record {
        layout = m.claims.layout;
        cells = m.claims.cells;
      }) (sym k.sized ∙ ap (λ (t : ClaimTable). t.size) belongs.claims) in
      let parts : parts_by c reads done ≡ parts_in c hs = λ j. record {
        reads = sym r j;
        claimed = λ n. steps c done d n j;
      } in
      was_in l (ap kept_of e) (k.places_count ∙ lanes) (k.notes_count ∙ lanes)
      (subst (λ (z : TableSize × Parts). Fits (claims_in z.0.layout z.0.cells) c z.1) (λ j. (size j, parts j)) k.fit)
      (λ p place notes f g.
      subst (λ (z : TableSize × Parts). StandsOn z.0.layout (claims_in z.0.layout z.0.cells) c p z.1 notes place)
      (λ j. (size j, parts j)) (k.lanes p place notes f g))

  -- if no consumer is missing, `Keeps` holds of each
  pub keeps : count_missing h.records ≡ 0 → (c : ℕ) → Keeps m h hs c
  keeps all c = by (at h.records c all)
    where
      by : At h.records c → Keeps m h hs c
      by (here l e) =
          let t = i.taken c l e in
          kept c l t.0 t.2.0 e (is.parts (Reader c) t.0 t.1) (taken_is h.claims.roll c t.2.0 t.2.1) t.2.2
      by (past e low) =
          let few : length h.cells.roll.readers ≤ c = subst (λ n. n ≤ c) i.readers low in
          let reads : part (Reader c) pool ≡ [] = is.others (Reader c) (slice_get_past h.cells.roll.readers c few) in
          let none : taken_part h.claims.roll c ≡ [] = taken_none h.claims.roll c (subst (λ n. n ≤ c) i.seats low) in
          never (ap kept_of e) (λ j. record { reads = sym reads j; claimed = λ k. steps c [] none k j })

-- if no consumer is missing, no seat of the claims is out, that is, issued and not returned
pub all_in : (h : HubView) → IsHub h → count_missing h.records ≡ 0 → count_out h.claims.roll ≡ 0
all_in h i all = none_out h.claims.roll (λ c low. by c low (at h.records c all))
  where
    by : (c : ℕ) → c < length h.claims.roll → At h.records c → (done : List ClaimAccess)
        × (slice_get h.claims.roll c ≡ Some (Some done))
    by c low (here l e) = let t = i.taken c l e in (t.2.0, t.2.1)
    by c low (past e most) = let same = i.seats in absurd (omega arith)

-- ---- producers
-- what the hub records of the producer of lane p agrees with the pool's history
pub record Tells (m : MailboxView) (h : HubView) (pool : History) (p : ℕ) : Type 0 where
  pub items : items_in p h ≡ values_put p pool
  pub ended : ended_in p h ≡ has_ended p pool
  pub linked : (e : Entry) → Has pool (fetch p e) → e.cell < m.cells.size.cells → Has (linked_cells p pool) e.cell

module _ (m : MailboxView) (h : HubView) (pool : History) (i : IsHub h) (belongs : IsHubOf m h)
    (is : IsRollOf m.cells.size h.cells.roll pool)
    (put : (p : ℕ) → put_list p pool ≡ put_list p (part (Producer p) pool))
    (ended : (p : ℕ) → has_ended p pool ≡ has_ended p (part (Producer p) pool))
    (linked : (p : ℕ) → linked_cells p pool ≡ linked_cells p (part (Producer p) pool))
    (all : (who : Process) (a : PoolAccess) → Has pool a → a.process ≡ who → Has (part who pool) a) where
  -- a producer's part puts the same values into its lane as the whole history does
  values : (p : ℕ) (done : History) → part (Producer p) pool ≡ done → values_put p done ≡ values_put p pool
  values p done e = ap (λ (l : List Entry). map (λ (z : Entry). z.value) l) (ap (put_list p) (sym e) ∙ sym (put p))

  -- what the hub records of a producer that was returned agrees with the history
  told : (p : ℕ) (l : PutListView) (done : History) → slice_get h.puts p ≡ Some (Some l) → part (Producer p) pool ≡ done
      → IsPutList h.cells.table.size.cells p done l → Tells m h pool p
  told p l done e d k = record {
    items = ap (λ o. option_map_or (λ (l : PutListView). l.items) (kept_of o) []) e ∙ k.items ∙ values p done d;
    ended = ap (λ o. option_map_or (λ (l : PutListView). l.ended) (kept_of o) false) e ∙ k.ended
        ∙ ap (has_ended p) (sym d) ∙ sym (ended p);
    linked = λ entry has low.
        subst (λ ks. Has ks entry.cell) (ap (linked_cells p) (sym d) ∙ sym (linked p))
        (k.linked entry (subst (λ z. Has z (fetch p entry)) d (all (Producer p) (fetch p entry) has refl))
        (subst (λ (t : CellsName). entry.cell < t.size.cells) (sym belongs.cells) low));
  }

  -- `Tells` holds of a lane that was never issued: by the hub and by the history it has no items and no end mark
  silent : (p : ℕ) → slice_get h.puts p ≡ None → part (Producer p) pool ≡ [] → Tells m h pool p
  silent p e none = record {
    items = ap (λ o. option_map_or (λ (l : PutListView). l.items) (kept_of o) []) e ∙ values p [] none;
    ended = ap (λ o. option_map_or (λ (l : PutListView). l.ended) (kept_of o) false) e
        ∙ ap (has_ended p) (sym none) ∙ sym (ended p);
    linked = λ entry has low.
        absurd (subst (λ z. Has z (fetch p entry)) none (all (Producer p) (fetch p entry) has refl));
  }

  -- if no producer is missing, `Tells` holds of each lane
  pub tells : count_missing h.puts ≡ 0 → (p : ℕ) → Tells m h pool p
  tells none p = by (at h.puts p none)
    where
      by : At h.puts p → Tells m h pool p
      by (here l e) = let t = i.put p l e in told p l t.0 e (is.parts (Producer p) t.0 t.1) t.2
      by (past e low) =
          silent p e (is.others (Producer p) (slice_get_past h.cells.roll.lanes p (subst (λ n. n ≤ p) i.lanes low)))
