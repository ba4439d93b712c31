-- The report of what a hub has taken back.
use Rattle.std.specs.Prelude.{ℕ, zero, suc, ◌≡◌, ◌≢◌, ◌+◌, ◌*◌, ◌<◌, Bool, false, not, List}
use Rattle.std.specs.Prelude.{[], ◌∷◌, ◌++◌, Option, Some, None, length, slice_get, sum_by}
use Rattle.std.specs.Option.{option_map_or}
use Rattle.mb_shared_cells.specs.Vocabulary.{IsRollOf}
use Rattle.mb_shared_claims.specs.Vocabulary.{taken_part}
use Rattle.mb_world.specs.Theorem.{DiaryView, HasCompeted, LaneView, MainTheorem, ReportView, items_where, note}
use Rattle.mb_world.specs.Places.{has_begun_at}
use Rattle.mb_world.specs.Plan.{Histories}
use Rattle.mb_world.specs.Reporting.{IsReportOf, any_below, is_took}
use Rattle.mb_world.specs.Sound.{AreSound}
use Rattle.mb_mailbox.specs.Imports.{HasFoundNone, History, Note, Undecided, consumer_part}
use Rattle.mb_mailbox.specs.Hubs.{ConsumerRecordView, HubView}
use Rattle.mb_mailbox.specs.Mailboxes.{MailboxView, plan_at}

-- ---- what is missing
-- how many of those issued were not returned
abbrev pub count_missing : {X : Type 0} → List (Option X) → ℕ
count_missing [] = 0
count_missing (Some x ∷ xs) = count_missing xs
count_missing (None ∷ xs) = suc (count_missing xs)

-- ---- what was returned, by numbers: `None` is at the number of each that was not returned
-- what was returned with this number, or `None` if nothing was
abbrev pub kept_at : {X : Type 0} → List (Option X) → ℕ → Option X
kept_at xs n = option_map_or (λ o. o) (slice_get xs n) None

-- the items of the producer of lane p, or none if it was not returned
abbrev pub items_in : ℕ → HubView → List ℕ
items_in p h = option_map_or (λ l. l.items) (kept_at h.puts p) []

-- whether the producer of lane p was returned and has ended the lane
abbrev pub ended_in : ℕ → HubView → Bool
ended_in p h = option_map_or (λ l. l.ended) (kept_at h.puts p) false

-- the notes of consumer c on lane p, or none if it was not returned
abbrev pub notes_in : ℕ → ℕ → HubView → List Note
notes_in c p h =
    option_map_or (λ l. option_map_or (λ ns. ns) (slice_get l.notes p) []) (kept_at h.records c) []

-- whether the consumer with this record holds a claim on lane p that has made an access. A consumer without a record
-- was not returned
abbrev pub begun_of : ℕ → Option ConsumerRecordView → Bool
begun_of p kept = option_map_or (λ l. option_map_or has_begun_at (slice_get l.places p) false) kept false

-- whether consumer c was returned with a claim on lane p that has made an access
abbrev pub begun_in : ℕ → ℕ → HubView → Bool
begun_in c p h = begun_of p (kept_at h.records c)

-- whether one of the first n consumers has noted that it took the item at position j of lane p
abbrev pub is_taken_in : ℕ → ℕ → ℕ → HubView → Bool
is_taken_in n p j h = any_below n (λ c. is_took (slice_get (notes_in c p h) j))

-- ---- the report
-- lane p with n consumers: the items put, whether it has ended, and the items that nobody took
abbrev pub lane_in : ℕ → ℕ → HubView → LaneView
lane_in n p h = record {
  put = items_in p h;
  ended = ended_in p h;
  left = items_where (λ j. not (is_taken_in n p j h)) (items_in p h);
}

-- the diary of consumer c on lane p
abbrev pub diary_in : ℕ → ℕ → HubView → DiaryView
diary_in c p h = record { consumer = c; lane = p; notes = notes_in c p h; begun = begun_in c p h }

-- the lane as in the report, but without the items put. They are moved in later, from the list that the hub keeps
abbrev pub lane_outline : ℕ → ℕ → HubView → LaneView
lane_outline n p h = record (lane_in n p h) { put = [] }

-- the diary of consumer c on lane p, but without the notes, by the hub's record of the consumer, if there is one. The
-- notes are added later, from the marks that the hub keeps
abbrev pub diary_outline : ℕ → ℕ → Option ConsumerRecordView → DiaryView
diary_outline c p kept = record { consumer = c; lane = p; notes = []; begun = begun_of p kept }

-- the consumer's diaries on the first n lanes, without the notes
abbrev pub outline_row : ℕ → Option ConsumerRecordView → ℕ → List DiaryView
outline_row c kept zero = []
outline_row c kept (suc n) = outline_row c kept n ++ diary_outline c n kept ∷ []

-- the notes of consumer c on lane p in these diaries, or none. The diaries come consumer by consumer, and for each
-- consumer lane by lane. There are this many lanes, and p is one of them
abbrev pub notes_among : ℕ → ℕ → ℕ → List DiaryView → List Note
notes_among lanes c p ds = option_map_or (λ d. d.notes) (slice_get ds (c * lanes + p)) []

-- these are the outlines of the first n lanes, if there are this many consumers
pub record AreLanesOutlined (consumers : ℕ) (h : HubView) (n : ℕ) (ls : List LaneView) : Type 0 where
  pub count : length ls ≡ n
  pub each : (p : ℕ) → p < n → slice_get ls p ≡ Some (lane_outline consumers p h)

-- these are the first n diaries of the hub's report: consumer by consumer, and for each consumer lane by lane
pub record AreDiaries (lanes : ℕ) (h : HubView) (n : ℕ) (ds : List DiaryView) : Type 0 where
  pub count : length ds ≡ n
  pub each : (c p : ℕ) → p < lanes → c * lanes + p < n
      → slice_get ds (c * lanes + p) ≡ Some (diary_in c p h)

-- this is the outline of the hub's report: the report before the items are moved in
pub record IsOutlineIn (lanes consumers : ℕ) (h : HubView) (r : ReportView) : Type 0 where
  pub each_lane : AreLanesOutlined consumers h lanes r.lanes
  pub each_diary : AreDiaries lanes h (consumers * lanes) r.diaries

-- this is the report of what was returned to the hub. Lane p is element p of the lanes. The diary of consumer c on lane
-- p is element c * lanes + p of the diaries
pub record IsReportIn (lanes consumers : ℕ) (h : HubView) (r : ReportView) : Type 0 where
  pub lanes_count : length r.lanes ≡ lanes
  pub diaries_count : length r.diaries ≡ consumers * lanes
  pub lane : (p : ℕ) → p < lanes → slice_get r.lanes p ≡ Some (lane_in consumers p h)
  pub diary : (c p : ℕ) → c < consumers → p < lanes
      → slice_get r.diaries (c * lanes + p) ≡ Some (diary_in c p h)

-- ---- what a report shows
-- the accesses of all that were returned make two histories that are sound, and the main theorem holds of the report
pub record IsGathered (m : MailboxView) (h : HubView) (r : ReportView) : Type 0 where
  -- the history of the claims' words and that of the pool's words. In both consumer c has the number c
  pub histories : Histories
  pub reader : (c : ℕ) → histories.reader_of c ≡ c
  -- each process's part of these histories is the part that was returned to the hub
  pub claims : (c : ℕ) → consumer_part c histories.claims ≡ taken_part h.claims.roll c
  pub pool : IsRollOf m.cells.size h.cells.roll histories.pool
  -- both histories are lawful, and the two parts of each consumer fit
  pub sound : AreSound (plan_at m) histories
  -- the report says what these histories did
  pub report : IsReportOf (plan_at m) histories r
  -- the main theorem holds of it
  pub main_theorem : MainTheorem histories.pool histories.reader_of r

-- how many items are put, on all lanes together
abbrev pub put_count : ReportView → ℕ
put_count r = sum_by (λ l. length l.put) r.lanes

-- if a producer that was returned found no cell, as many items are put as there are cells
abbrev pub FullTakesAll : MailboxView → HubView → ReportView → Type 0
FullTakesAll m h r =
    (p : ℕ) (done : History) → slice_get h.cells.roll.lanes p ≡ Some (Some done)
    → HasFoundNone m.cells.size.cells p done → put_count r ≡ m.cells.size.cells

-- if a note is undecided, at least two consumers competed for the item
abbrev pub UndecidedHasCompany : ReportView → Type 0
UndecidedHasCompany r =
    (c p j : ℕ) → note c p j r ≡ Some Undecided
    → HasCompeted c p j r × ((d : ℕ) × (d ≢ c) × HasCompeted d p j r)
