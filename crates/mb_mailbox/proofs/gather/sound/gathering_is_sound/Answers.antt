use Rattle.std.proofs.Common.{◌≡◌, ◌≢◌, ℕ, zero, suc, ◌<◌, ◌≤◌, Bool, true, false, List, [], ◌∷◌, ◌++◌, refl, sym, ◌∙◌, subst, inl, arith, Some, reverse, slice_get}
use Rattle.std.proofs.lemmas.Option.{slice_get_within}
use Rattle.mb_claim.specs.Rows.{fast_row, last_row, pairs_of, row_of}
use Rattle.mb_claim.specs.Vocabulary.{pair_count, shape_of}
use Rattle.mb_claim.specs.declared.shape.Shape.{Shape}
use Rattle.mb_deciding.specs.declared.object.Kind.{Kind}
use Rattle.mb_deciding.specs.declared.object.Kind.TheVariants.{Ratifier}
use Rattle.mb_deciding.specs.Vocabulary.{spread}
use Rattle.mb_cells.specs.Vocabulary.{IsPoolLawful, fetch, part}
use Rattle.mb_cells.specs.declared.access.Process.TheVariants.{Producer}
use Rattle.mb_world.specs.Vocabulary.{parts_of as parts_in, Histories, consumers_of, size_of, notes, HasMetAll, IsReportOf, AreSound}
use Rattle.mb_world.specs.PartSteps.{no_parts}
use Rattle.mb_mailbox.specs.Imports.{Claim, Fits, Has, IsClaimIn, IsClaimPrefix, ObjectTurn, Parts, Undecided, cells_met, claim_stage, consumer_count, consumer_of, linked_cells}
use Rattle.mb_mailbox.specs.Vocabulary.{HubView, MailboxView, plan_at}
use Rattle.mb_mailbox.proofs.Counted.{at_start, counted, is_noted}
use Rattle.mb_mailbox.proofs.Lists.{some_same}
use Rattle.mb_mailbox.proofs.Reported.{diary_told, report_is}
use Rattle.mb_mailbox.proofs.TakenIn.{Keeps, all_in, histories_in, keeps, tells}
use Rattle.mb_mailbox.proofs.gather.sound.gathering_is_sound.Goals as goal

pub returns-clause-all_in : goal.returns-clause-all_in
returns-clause-all_in c = all_in

-- the two parts of each consumer fit, even of one that was never issued
fits : (m : MailboxView) (h : HubView) (hs : Histories) (d : ℕ) → Fits (plan_at m).claims d no_parts → Keeps m h hs d
    → Fits (plan_at m).claims d (parts_in d hs)
fits m h hs d none (Keeps.was_in l e places lists fit stands) = fit
fits m h hs d none (Keeps.never e empty) = subst (λ (x : Parts). Fits (plan_at m).claims d x) empty none

-- the turns that a claim of consumer d has made are a prefix of a whole claim of d
path : (m : MailboxView) (d : ℕ) (claim : Claim) (xs : List ObjectTurn)
    → IsClaimIn m.claims.layout claim xs → consumer_of claim ≡ d
    → IsClaimPrefix (plan_at m).claims d xs (claim_stage claim)
path m d claim xs is own = subst (λ e. IsClaimPrefix (plan_at m).claims e xs (claim_stage claim)) own is.prefix

pub returns-clause-main_theorem : goal.returns-clause-main_theorem
returns-clause-main_theorem c m h r pool mailbox i belongs puts records one is rep =
    let plan = plan_at m in
    let hs = histories_in one.0 pool in
    let table = c.layouts_are_sound.ensures.table m.claims.layout in
    let kept = keeps m h one.0 pool i belongs c.accesses_lengthen_one_part.ensures.cells one.2 is records in
    let tell = tells m h pool i belongs is (λ p. c.parts_tell_lanes.ensures.put m.cells.size pool p is.lawful)
    (λ p. c.parts_tell_lanes.ensures.ended pool p) (λ p. c.parts_tell_lanes.ensures.linked pool p)
    (λ who a. c.parts_have_accesses.ensures.all pool who a) puts in
    let sound : AreSound plan hs = record {
      table = table;
      claims_lawful = one.1;
      pool_lawful = subst (λ (cells : ℕ). IsPoolLawful (record {
        lanes = m.cells.size.lanes;
        cells = cells;
      }) pool) (sym mailbox.cells) is.lawful;
      fit = λ d low. fits m h hs d (c.parts_fit_on.ensures.empty plan.claims d) (kept d);
    } in
    let met : (d p : ℕ) → d < consumers_of plan → HasMetAll d p (cells_met p (parts_in d hs).reads) pool =
    (λ d p known. c.parts_tell_cells_met.ensures plan hs d p sound known) in
    let report : IsReportOf plan hs r = report_is m h hs r rep tell
    (λ d p known low. diary_told m h hs d p low (λ xs s t. c.prefixes_have_one_stage.ensures plan.claims d xs s t table)
    (path m d) (met d p known) (kept d)) in
    record {
      histories = hs;
      reader = λ d. refl;
      claims = one.2;
      pool = is;
      sound = sound;
      report = report;
      main_theorem = c.reports_have_one_assignment.ensures plan hs r sound report;
    }

pub returns-clause-full : goal.returns-clause-full
returns-clause-full c m h r i belongs puts g p done e found =
    let pool = g.histories.pool in
    let size = m.cells.size in
    let tell = tells m h pool i belongs g.pool (λ q. c.parts_tell_lanes.ensures.put size pool q g.pool.lawful)
    (λ q. c.parts_tell_lanes.ensures.ended pool q) (λ q. c.parts_tell_lanes.ensures.linked pool q)
    (λ who a. c.parts_have_accesses.ensures.all pool who a) puts in
    let own : part (Producer p) pool ≡ done = g.pool.parts (Producer p) done e in
    let has : Has pool (fetch p found.entry) =
    (c.parts_have_accesses.ensures.only pool (Producer p) (fetch p found.entry)
    (subst (λ d. Has d (fetch p found.entry)) (sym own) found.offered)).0 in
    counted (plan_at m) g.histories r g.report
    ∙ c.lanes_share_cells.ensures.all size pool p found.entry g.pool.lawful has found.past
    (λ q entry got low. (tell q).linked entry got low)

-- the second object of a cell is a ratifier, with a fast path and without
second_of : (fast : Bool) (s n : ℕ) (rest : List Kind) → 1 ≤ n
    → slice_get (fast_row fast ++ (pairs_of s n ++ rest)) 1 ≡ Some Ratifier
second_of fast s zero rest some = absurd (omega arith)
second_of true s (suc n) rest some = refl
second_of false s (suc n) rest some = refl

-- the second object of each shape is a ratifier, if there is a pair
ratifier : (shape : Shape) (s n : ℕ) → 1 ≤ n → slice_get (row_of shape s n) 1 ≡ Some Ratifier
ratifier shape s n some = second_of shape.fast s n (last_row shape.last) some

-- if a cell with no pairs has a last object, a cell without a last object has at least one pair
by_pairs : (n : ℕ) (b : Bool) → (n ≡ 0 → b ≡ true) → (b ≡ true → ⊥) → 1 ≤ n
by_pairs (suc n) b some never = omega arith
by_pairs zero b some never = absurd (never (some refl))

-- a list of kinds with a second element is not empty
some_kinds : (kinds : List Kind) → slice_get kinds 1 ≡ Some Ratifier → kinds ≢ []
some_kinds [] e none = absurd (cc)
some_kinds (k ∷ kinds) e none = absurd (cc)

pub returns-clause-undecided : goal.returns-clause-undecided
returns-clause-undecided c m h r g d p j e =
    let plan = plan_at m in
    let hs = g.histories in
    let table = c.layouts_are_sound.ensures.table m.claims.layout in
    let at = is_noted plan hs r g.report d p j Undecided e in
    let t = g.report.diary d p at.consumer at.lane in
    let same = some_same at.diary t.0 (sym at.there ∙ t.1) in
    let end = t.2.notes j Undecided (subst (λ v. slice_get v.notes j ≡ Some Undecided) same at.here) in
    let k = end.0 in
    let start = c.readers_follow_lanes.ensures.met (size_of plan) hs.pool (hs.reader_of d) p
    t.2.cells g.sound.pool_lawful t.2.met.met in
    let on : slice_get (reverse (linked_cells p hs.pool)) j
    ≡ Some k = at_start t.2.cells (linked_cells p hs.pool) j k start end.1 in
    let layout = m.claims.layout in
    let never : (shape_of layout).last ≡ true → ⊥ =
    (λ last. c.last_objects_decide_claims.ensures.stages layout m.claims.cells d k hs.claims last
    (at.consumer, end.2)) in
    let pair = by_pairs (pair_count layout) (shape_of layout).last (c.layouts_are_sound.ensures.some layout) never in
    let second : slice_get plan.claims.kinds 1 ≡ Some Ratifier =
    ratifier (shape_of layout) (spread (consumer_count layout)) (pair_count layout) pair in
    let winner = c.claims_have_one_winner.ensures plan.claims hs.claims k table g.sound.claims_lawful in
    let other = winner.company d 1 (at.consumer, end.2) second in
    let known = (g.sound.claims_lawful.parts other.0 k other.2).0 in
    let competes = c.competitors_have_accesses.ensures plan hs r other.0 p j k g.sound g.report
    (some_kinds plan.claims.kinds second) known at.lane on in
    (inl (slice_get_within (notes d p r) j Undecided e), (other.0, other.1, competes.1 other.2))
