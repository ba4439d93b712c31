-- A script has at most one answer, by the laws of tables and of worlds.
use Rattle.std.proofs.Common.{◌≡◌, ℕ, ◌<◌, ◌≤◌, Bool, true, false, ◌||◌, nat_lt, List, [], ◌++◌, Option, Some, None, Ok, refl, sym, ap₂, ◌∙◌, subst, arith, if◌then◌else◌}
use Rattle.std.proofs.lemmas.Bool.{ltb-false}
use Rattle.mb_quorum.specs.declared.table.TableName.{TableName}
use Rattle.mb_quorum.specs.declared.values.TheConstants.{MAX_VALUES}
use Rattle.mb_quorum.specs.Vocabulary.{table_of, IsQuorumTable}
use Rattle.mb_cells.specs.declared.access.TheConstants.{END}
use Rattle.mb_claim.specs.declared.layout.TheConstants.{MAX_CELLS, MAX_PAIRS}
use Rattle.mb_world.specs.declared.event.Answer.{Answer}
use Rattle.mb_world.specs.declared.event.Event.{Event}
use Rattle.mb_world.specs.declared.setup.SetupFault.{SetupFault}
use Rattle.mb_world.specs.declared.setup.SetupFault.TheVariants.{BadProducers, BadConsumers, BadCells, BadRounds}
use Rattle.mb_world.specs.declared.setup.TheConstants.{MAX_PRODUCERS}
use Rattle.mb_world.specs.Vocabulary.{Histories, Plan, IsReplay, ReportView, IsReportOf, AreSound, WorldHistory, histories_of, IsWorldLawful}
use Rattle.mb_world.specs.Setups.{setup_refusal}
use Rattle.mb_script.specs.Vocabulary.{IsReplayText, report_text, Script, script_of, transcript_text}
use Rattle.mb_script.proofs.ScriptBack.{script_takes}

-- ---- the laws of the crates below, one name for each
-- each quorum table that has a name is lawful, if it has at most `MAX_VALUES` values
abbrev pub TablesAreLawful : Type 0
TablesAreLawful = (name : TableName) (m : ℕ) → m ≤ MAX_VALUES → IsQuorumTable (table_of name m)

-- the history of a new world is lawful, if the world has fewer cells than the number of the end mark
abbrev pub WorldsBegin : Type 0
WorldsBegin = (plan : Plan) → plan.claims.cells < END → IsWorldLawful plan []

-- with a lawful table, after a lawful history, events have at most one replay: one list of answers, and one history
abbrev pub ReplaysDoNotDiffer : Type 0
ReplaysDoNotDiffer = (plan : Plan) (es : List Event) (rs ss : List Answer) (was now other : WorldHistory)
    → IsQuorumTable plan.claims.table → IsWorldLawful plan was → IsReplay plan es rs was now
    → IsReplay plan es ss was other
    → (rs ≡ ss) × (now ≡ other)

-- with a lawful table, a replay after a lawful history leads to a lawful history
abbrev pub ReplaysAreLawful : Type 0
ReplaysAreLawful = (plan : Plan) (es : List Event) (rs : List Answer) (was now : WorldHistory)
    → IsQuorumTable plan.claims.table → IsWorldLawful plan was → IsReplay plan es rs was now → IsWorldLawful plan now

-- with a lawful table, the histories of a lawful world are sound
abbrev pub WorldsAreSound : Type 0
WorldsAreSound = (plan : Plan) (h : WorldHistory) → IsQuorumTable plan.claims.table → IsWorldLawful plan h
    → AreSound plan (histories_of h)

-- sound histories have at most one report
abbrev pub ReportsDoNotDiffer : Type 0
ReportsDoNotDiffer = (plan : Plan) (hs : Histories) (r s : ReportView) → AreSound plan hs → IsReportOf plan hs r
    → IsReportOf plan hs s → r ≡ s

-- ---- the numbers of a setup that is not refused
-- if a setup is not refused, the test for too many consumers does not hold
few_consumers : (a b x : Bool) (rest : Option SetupFault)
    → (if a then Some BadProducers else if b || x then Some BadConsumers else rest) ≡ None → x ≡ false
few_consumers true b x rest is = absurd (cc)
few_consumers false true x rest is = absurd (cc)
few_consumers false false true rest is = absurd (cc)
few_consumers false false false rest is = refl

-- if a setup is not refused, the test for too many cells does not hold
few_cells : (a b x : Bool) (rest : Option SetupFault)
    → (if a then Some BadProducers else if b then Some BadConsumers else if x then Some BadCells
    else rest) ≡ None → x ≡ false
few_cells true b x rest is = absurd (cc)
few_cells false true x rest is = absurd (cc)
few_cells false false true rest is = absurd (cc)
few_cells false false false rest is = refl

-- a setup that is not refused has no more consumers than a table may have values
consumers_fit : (p c m k : ℕ) → setup_refusal p c m k ≡ None → c ≤ MAX_VALUES
consumers_fit p c m k is =
    ltb-false MAX_VALUES c (few_consumers (nat_lt p 1 || nat_lt MAX_PRODUCERS p) (nat_lt c 1) (nat_lt MAX_VALUES c)
    (if nat_lt MAX_CELLS m then Some BadCells else if nat_lt k 1 || nat_lt MAX_PAIRS k then Some
    BadRounds else None) is)

-- a setup that is not refused has no more cells than a script may have
cells_fit : (p c m k : ℕ) → setup_refusal p c m k ≡ None → m ≤ MAX_CELLS
cells_fit p c m k is =
    ltb-false MAX_CELLS m (few_cells (nat_lt p 1 || nat_lt MAX_PRODUCERS p)
    (nat_lt c 1 || nat_lt MAX_VALUES c) (nat_lt MAX_CELLS m)
    (if nat_lt k 1 || nat_lt MAX_PAIRS k then Some BadRounds else None) is)

-- the quorum table of a script's world is lawful
table_lawful : TablesAreLawful → (bytes : List ℕ) (s : Script) → script_of bytes ≡ Ok s
    → IsQuorumTable s.plan.claims.table
table_lawful tables bytes s read =
    let spelled = script_takes bytes s read in
    let z = spelled.0 in
    subst (λ (t : Script). IsQuorumTable t.plan.claims.table) (sym spelled.3)
    (tables z.table z.consumers (consumers_fit z.producers z.consumers z.cells z.pairs spelled.1.sizes))

-- the end mark is the link of no cell of a script's world
cells_few : (bytes : List ℕ) (s : Script) → script_of bytes ≡ Ok s → s.plan.claims.cells < END
cells_few bytes s read =
    let spelled = script_takes bytes s read in
    let z = spelled.0 in
    let few = cells_fit z.producers z.consumers z.cells z.pairs spelled.1.sizes in
    subst (λ (t : Script). t.plan.claims.cells < END) (sym spelled.3)
    (let below : z.cells < END = omega (arith, few) in below)

-- ---- at most one text, and at most one answer
-- the replay of events in a new world has at most one text
pub one_text : (plan : Plan) (es : List Event) (t u : List ℕ) → ReplaysDoNotDiffer → ReplaysAreLawful → WorldsAreSound
    → ReportsDoNotDiffer → IsQuorumTable plan.claims.table → IsWorldLawful plan [] → IsReplayText plan es t
    → IsReplayText plan es u → t ≡ u
one_text plan es t u same lawful sound reports table begins a b =
    let both = same plan es a.answers b.answers [] a.history b.history table begins a.replayed b.replayed in
    let here = sound plan a.history table (lawful plan es a.answers [] a.history table begins a.replayed) in
    let other = subst (λ h. IsReportOf plan (histories_of h) b.report) (sym both.1) b.reported in
    let report = reports plan (histories_of a.history) a.report b.report here a.reported other in
    a.written ∙ ap₂ (λ (rs : List Answer) (r : ReportView). transcript_text es rs ++ report_text r)
    both.0 report ∙ sym b.written

-- a script that was read without a fault has at most one answer
pub one_answer : (bytes t u : List ℕ) (s : Script) → TablesAreLawful → WorldsBegin
    → ReplaysDoNotDiffer → ReplaysAreLawful
    → WorldsAreSound → ReportsDoNotDiffer → script_of bytes ≡ Ok s → IsReplayText s.plan s.events t
    → IsReplayText s.plan s.events u → t ≡ u
one_answer bytes t u s tables begins same lawful sound reports read a b =
    one_text s.plan s.events t u same lawful sound reports (table_lawful tables bytes s read)
    (begins s.plan (cells_few bytes s read)) a b
