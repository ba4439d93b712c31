-- What the command `run` writes, and when it fails.
use Rattle.std.specs.Prelude.{◌≡◌, ◌≢◌, ◌<◌, ◌≤◌, ◌⊎◌, ◌↔◌, ◌+◌, ◌-◌, ◌*◌, ◌^◌, ℕ, List, Option}
use Rattle.std.specs.Prelude.{Some, Result, Err, IfErr, OnOk, length, map, slice_get, true}
use Rattle.std.specs.List.{range_with_len}
use Rattle.std.specs.Io.KnownBytes.{Appends}
use Rattle.mb_quorum.specs.declared.table.TableName.TheVariants.{Bits}
use Rattle.mb_world.specs.declared.setup.SetupFault.{SetupFault}
use Rattle.mb_world.specs.Theorem.{LaneView, MainTheorem, ReportView, notes}
use Rattle.mb_world.specs.Plan.{Histories, Plan}
use Rattle.mb_world.specs.Reporting.{IsReportOf}
use Rattle.mb_world.specs.Setups.{setup_refusal, shaped_plan}
use Rattle.mb_world.specs.Sound.{AreSound}
use Rattle.mb_script.specs.Vocabulary.{AppendsFront, IoModel, one_more, report_text}
use Rattle.mb_mailbox.specs.Imports.{Reader, Stream, consumer_part, part}
use Rattle.mb_mailbox.specs.ReportedRuns.{IsReportedRun, Terms}
use Rattle.mb_mailbox.specs.declared.crew.{WorkFault.WorkFault, Worked.Worked}
use Rattle.mb_mailbox.specs.declared.crew.WorkFault.TheVariants as work
use Rattle.mb_program.specs.Source.{source_from, words_from}
use Rattle.mb_program.specs.declared.fault.RunFault.{RunFault}
use Rattle.mb_program.specs.declared.fault.RunFault.TheVariants.{BadSetup, NoMemory, NoThread, WriteFault}
use Rattle.mb_program.specs.declared.options.Options.{Options}

-- ---- the mailbox that the options ask for
-- why the mailbox is refused, if it is. The mailbox has a cell for each item
abbrev pub setup_refused : Options → Option SetupFault
setup_refused o = setup_refusal o.producers o.consumers (o.producers * o.items) o.pairs

-- what the mailbox is made of. Its cells have the shape that is asked for
abbrev pub plan_asked : Options → Plan
plan_asked o = shaped_plan o.shape o.producers o.consumers (o.producers * o.items) o.pairs Bits

-- if the setup is not refused, there are at most 16 producers, 64 consumers, and 256 items of each producer
pub record AreFew (o : Options) : Type 0 where
  pub producers : o.producers ≤ 16
  pub consumers : o.consumers ≤ 64
  pub items : o.items ≤ 256

-- ---- the items that producers put
-- the items that producer p puts, in order, if each producer puts `count` of them
abbrev pub items_of : ℕ → ℕ → List ℕ
items_of p count = map (λ i. 1000 * p + i) (range_with_len 0 count)

-- the items of all producers, a list for each
abbrev pub item_lists : ℕ → ℕ → List (List ℕ)
item_lists producers count = map (λ p. items_of p count) (range_with_len 0 producers)

-- ---- the random words that are drawn
-- the random words that each consumer's source gives from its beginning on
abbrev pub words_asked : Options → List Stream
words_asked o = map (λ c. words_from (source_from o.seed c)) (range_with_len 0 o.consumers)

-- ---- the fault of a run, and its report
-- the fault of a run whose workers came to this, if it has no report: a refused thread, or else out of memory
abbrev pub fault_after : Result Worked WorkFault → RunFault
fault_after (Err work.NoThread) = NoThread
fault_after worked = NoMemory

-- lane p has ended, and the items put on it are all those of producer p
pub record IsLaneOf (p count : ℕ) (l : LaneView) : Type 0 where
  -- the lane has ended
  pub ended : l.ended ≡ true
  -- the items put on the lane are those of producer p, in their order
  pub whole : l.put ≡ items_of p count

-- how many accesses consumer c has made, to the words of the cells and to those of the claims
abbrev pub accesses_by : ℕ → Histories → ℕ
accesses_by c hs = length (part (Reader (hs.reader_of c)) hs.pool) + length (consumer_part c hs.claims)

-- each consumer is the reader of its own number
abbrev pub AreOwnReaders : Histories → Type 0
AreOwnReaders hs = (c : ℕ) → hs.reader_of c ≡ c

-- consumer c has a note at each of the `count` items of lane p. Or these histories have at least 2^64 - 2 accesses of
-- consumer c, and no more than 2^64 - 2 polls of this budget make
abbrev pub HasNotedAll : ℕ → ℕ → ℕ → ℕ → Histories → ReportView → Type 0
HasNotedAll count budget c p hs r =
    (length (notes c p r) ≡ count)
    ⊎ ((2 ^ 64 - 2 ≤ accesses_by c hs) × (accesses_by c hs ≤ budget * (2 ^ 64 - 2)))

-- the terms of the run: a mailbox of these options, the budget, and the sources of the seed that is asked for
abbrev pub terms_asked : Options → Terms
terms_asked o = record { plan = plan_asked o; budget = o.budget; sources = words_asked o }

-- the report of a mailbox of these options, in which each producer has put all its items
pub record IsRunReport (o : Options) (r : ReportView) : Type 0 where
  -- all accesses to the words of the claims, and all to those of the cells: they are lawful, and each consumer's
  -- parts fit. Consumer c is reader c
  pub histories : Histories
  pub reader : AreOwnReaders histories
  pub sound : AreSound (plan_asked o) histories
  -- the report is that of the histories, and one assignment agrees with it
  pub report : IsReportOf (plan_asked o) histories r
  pub main_theorem : MainTheorem histories.pool histories.reader_of r
  -- report and histories are those of a run with the budget and the seed that are asked for, which no gate stops. The
  -- run came to these counts
  pub counts : Worked
  pub run : IsReportedRun (λ _ _. ⊥) (λ _ _. Unit {0}) (terms_asked o)
      (item_lists o.producers o.items) counts histories r
  -- each producer has put its items, and nothing else
  pub lanes : (p : ℕ) → p < o.producers
      → (l : LaneView) × (slice_get r.lanes p ≡ Some l) × IsLaneOf p o.items l
  -- Each consumer has a note at each item of each lane, or these histories have at least 2^64 - 2 accesses of it, and
  -- at most the budget times 2^64 - 2. The histories need not be those of the threads, so this says nothing of the text
  -- alone. For a run of `work` see `IsWorked`.
  pub noted : (c p : ℕ) → c < o.consumers → p < o.producers → HasNotedAll o.items o.budget c p histories r

-- the text is that of a report of a run with these options
abbrev pub IsRunText : Options → List ℕ → Type 0
IsRunText o text = (r : ReportView) × IsRunReport o r × (text ≡ report_text r)

-- ---- a call of the command
-- one call of the command `run` has this result, with its writer before it and after it
pub record IsRun {X W : Type 0} (o : Options) (sink : IoModel W) (writer writer' : W)
    (result : Result X RunFault) : Type 0 where
  -- if the call did what was asked, the text of a report of such a run was written, and nothing else
  pub answered : OnOk result ((text : List ℕ) × IsRunText o text
      × Appends (sink.bytes writer) (sink.bytes writer') text)
  -- the setup is refused exactly if the options are out of range, for the first reason
  pub refused : (why : SetupFault) → (result ≡ Err (BadSetup why)) ↔ (setup_refused o ≡ Some why)
  -- a failed write comes exactly if the writer failed in this call, and it failed once
  pub write_failed : result ≡ Err WriteFault → sink.failures writer' ≡ one_more (sink.failures writer)
  pub write_worked : result ≢ Err WriteFault → sink.failures writer' ≡ sink.failures writer
  -- after a failed write a prefix of such a report's text was written, and after any other fault nothing
  pub front : result ≡ Err WriteFault →
      (text : List ℕ) × IsRunText o text × AppendsFront (sink.bytes writer) (sink.bytes writer') text
  pub untouched : IfErr result (λ e. e ≢ WriteFault → writer' ≡ writer)
