-- A play of claims on one cell: steps are pairs (consumer, random word), in the order of time.
use Rattle.std.specs.Prelude.{ℕ, ◌≡◌, ◌≢◌, ◌<◌, List, [], ◌∷◌, length, slice_index_or}
use Rattle.mb_claim.specs.declared.run.ClaimEntry.TheVariants as entry
use Rattle.mb_claim.specs.AllClaims.{Claims}
use Rattle.mb_claim.specs.Types.{ClaimAccess, Stage, Going, ClaimEntry}
use Rattle.mb_claim.specs.Claiming.{IsClaimLawful, HasStage}

-- the consumer of an entry
abbrev pub entry_consumer : ClaimEntry → ℕ
entry_consumer (entry.Access consumer object act) = consumer
entry_consumer (entry.Done consumer) = consumer

-- the history with the access of an entry, if it has one, and the step's random word
abbrev pub with_entry : ℕ → ClaimEntry → List ClaimAccess → List ClaimAccess
with_entry word (entry.Access consumer object act) h =
    record {
      consumer = consumer;
      cell = 0;
      step = record { object = object; turn = record { act = act; word = word } };
    }
    ∷ h
with_entry word (entry.Done consumer) h = h

-- a history, and after it the accesses of the entries, each with the random word of its step
abbrev pub history_from : List (ℕ × ℕ) → List ClaimEntry → List ClaimAccess → List ClaimAccess
history_from [] entries h = h
history_from (step ∷ steps) [] h = h
history_from (step ∷ steps) (e ∷ entries) h = history_from steps entries (with_entry step.1 e h)

-- the history of the entries of a run, each with the random word of its step
abbrev pub history_of : List (ℕ × ℕ) → List ClaimEntry → List ClaimAccess
history_of steps entries = history_from steps entries []

-- the entry may come after the history: it is an access of a consumer whose claim is going, or `Done` of one whose
-- claim has ended
abbrev pub IsEntryAfter : Claims → ClaimEntry → List ClaimAccess → Type 0
IsEntryAfter cs (entry.Access consumer object act) h = HasStage cs consumer 0 Going h
IsEntryAfter cs (entry.Done consumer) h = (s : Stage) × HasStage cs consumer 0 s h × (s ≢ Going)

-- there is one entry for each step. It is of that step's consumer, and may come after the history with the accesses of
-- the entries before it
abbrev pub AreEntriesOf : Claims → List (ℕ × ℕ) → List ClaimEntry → List ClaimAccess → Type 0
AreEntriesOf cs [] [] h = Unit {0}
AreEntriesOf cs [] (e ∷ entries) h = ⊥
AreEntriesOf cs (step ∷ steps) [] h = ⊥
AreEntriesOf cs (step ∷ steps) (e ∷ entries) h =
    (entry_consumer e ≡ step.0) × IsEntryAfter cs e h
    × AreEntriesOf cs steps entries (with_entry step.1 e h)

-- the entries and stages are what the steps make of the claims on one cell
pub record IsPlayed (cs : Claims) (steps : List (ℕ × ℕ)) (entries : List ClaimEntry)
    (stages : List Stage)
    : Type 0 where
  -- the accesses are one lawful history
  pub lawful : IsClaimLawful cs (history_of steps entries)
  -- there is one entry for each step, which is `Done` exactly if that consumer's claim had ended before it
  pub fits : AreEntriesOf cs steps entries []
  -- the list has one stage for each consumer: the stage of the consumer's claim in the history
  pub consumers : length stages ≡ cs.table.values
  pub reached :
      (c : ℕ) (d : Stage) → c < length stages
      → HasStage cs c 0 (slice_index_or stages c d) (history_of steps entries)
