-- The run that a report tells of, from what `work` and `gather` say of it.
use Rattle.std.proofs.Common.{◌≡◌, ◌∙◌, ℕ, List, ap, map, refl, subst}
use Rattle.std.specs.List.{range_with_len}
use Rattle.std.proofs.lemmas.Simd.{map-map}
use Rattle.rand_chacha.specs.ChaCha.{ChaCha}
use Rattle.mb_world.specs.Plan.{size_of}
use Rattle.mb_world.specs.Theorem.{ReportView}
use Rattle.mb_mailbox.specs.Imports.{Stream, consumer_count}
use Rattle.mb_mailbox.specs.Called.{IsCalled}
use Rattle.mb_mailbox.specs.Gathering.{FullTakesAll, IsGathered, IsReportIn}
use Rattle.mb_mailbox.specs.Hubs.{HubView, IsHubOf, hub_empty}
use Rattle.mb_mailbox.specs.Mailboxes.{MailboxView, plan_at}
use Rattle.mb_mailbox.specs.ReportedRuns.{IsReportedRun}
use Rattle.mb_mailbox.specs.declared.crew.Worked.{Worked}
use Rattle.mb_program.specs.Running.{item_lists, plan_asked, terms_asked, words_asked}
use Rattle.mb_program.specs.Source.{source_from, words_from}
use Rattle.mb_program.specs.declared.options.Options.{Options}

-- the random words of the sources that were made are those that the options ask for
pub words_given : (o : Options) (rngs : List ChaCha) → rngs ≡ map (source_from o.seed) (range_with_len 0 o.consumers)
    → map words_from rngs ≡ words_asked o
words_given o rngs are = ap (map words_from) are
    ∙ map-map words_from (source_from o.seed) (range_with_len 0 o.consumers)

-- the report and the histories are those of a run of these options
pub reported_run : {budget : ℕ} {lists : List (List ℕ)} {words : List Stream} (o : Options)
    (m : MailboxView) (old h : HubView) (r : ReportView) (w : Worked)
    → budget ≡ o.budget → plan_at m ≡ plan_asked o → m.cells.size ≡ size_of (plan_asked o) → old ≡ hub_empty m
    → lists ≡ item_lists o.producers o.items → words ≡ words_asked o → IsHubOf m h
    → IsCalled (λ _ _. ⊥) (λ _ _. Unit {0}) budget lists words w old h
    → IsReportIn m.cells.size.lanes (consumer_count m.claims.layout) h r
    → (gathered : IsGathered m h r) → FullTakesAll m h r
    → IsReportedRun (λ _ _. ⊥) (λ _ _. Unit {0}) (terms_asked o)
    (item_lists o.producers o.items) w gathered.histories r
reported_run o m old h r w most plan size empty are drawn belongs called told gathered full = record {
  mailbox = m;
  plan = plan;
  size = size;
  hub = h;
  belongs = belongs;
  called = subst (λ (z : (ℕ × List (List ℕ)) × (List Stream × HubView)). IsCalled (λ _ _. ⊥)
      (λ _ _. Unit {0}) z.0.0 z.0.1 z.1.0 w z.1.1 h)
      (λ i. ((most i, are i), (drawn i, empty i))) called;
  told = told;
  gathered = gathered;
  full = full;
  histories = refl;
}
