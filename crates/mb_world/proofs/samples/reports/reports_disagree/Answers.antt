-- Proof of `samples::reports::reports_disagree`: reports with which no assignment agrees.
use Rattle.std.proofs.Common.{◌≡◌, ◌⊎◌, ℕ, zero, suc, ◌∷◌, [], List, Bool, Option, Some, None, false, true, refl, sym, ◌∙◌, inl, inr, arith}
use Rattle.std.specs.Prelude.{if◌then◌else◌}
use Rattle.std.specs.Option.{is_none}
use Rattle.mb_world.specs.Theorem.{HasCompeted, is_consumer}
use Rattle.mb_world.specs.ReportSamples.{diary_of, left_omitted, winner_stayed_away}
use Rattle.mb_world.proofs.ReportLists.{no_diary, not_competing}
use Rattle.mb_world.proofs.samples.reports.reports_disagree.Goals as goal

-- in `left_omitted` consumer 0 did not compete for the item: it has no note and no claim
idle : HasCompeted 0 0 0 left_omitted → ⊥
idle (inl h) = omega (arith, h)
idle (inr h) = let e = h.1 in cc

-- in `left_omitted` no other consumer competed for the item, as none has a diary
nobody : (d : ℕ) → HasCompeted (suc d) 0 0 left_omitted → ⊥
nobody d h = not_competing (suc d) 0 0 left_omitted
    (no_diary (suc d) (10 ∷ []) [] (diary_of 0 [] false ∷ []) (omega arith)) h

-- the list with the item 10 if the item goes to nobody, and else the empty list
abbrev ten : Option ℕ → List ℕ
ten a = if is_none a then 10 ∷ [] else []

-- the items left that `left_omitted` reports: none
abbrev nothing : List ℕ
nothing = []

-- if the item goes to nobody, it is left. If it goes to a consumer, this consumer did not compete for it
pub returns-clause-omitted : goal.returns-clause-omitted
returns-clause-omitted c t agrees = by (t 0 0) refl (agrees.left 0)
  where
    by : (a : Option ℕ) → t 0 0 ≡ a → nothing ≡ ten a → ⊥
    by None e f = cc
    by (Some zero) e f = idle (agrees.given.competitors 0 0 0 e).1
    by (Some (suc d)) e f = nobody d (agrees.given.competitors (suc d) 0 0 e).1

-- the first item would go to two consumers, as both took it
pub returns-clause-twice : goal.returns-clause-twice
returns-clause-twice c t agrees =
    let e = (agrees.given.taken 0 0 0).0 (5, refl) in
    let f = (agrees.given.taken 1 0 0).0 (5, refl) in
    cc

-- the share of consumer 0: the item 5 if b says that the item goes to consumer 0, and else nothing
abbrev five : Bool → List ℕ
five b = if b then 5 ∷ [] else []

-- the ledger of consumer 0, with a value that was not put
abbrev six : List ℕ
six = 6 ∷ []

-- whether the item goes to consumer 0 or not, the share of consumer 0 is not the value 6 alone
no_value : (b : Bool) → six ≡ five b → ⊥
no_value true e = cc
no_value false e = cc

pub returns-clause-value : goal.returns-clause-value
returns-clause-value c t agrees = no_value (is_consumer 0 (t 0 0)) (agrees.given.ledgers 0 0)

-- consumer 0 has lost the item to itself. But a loss must name another consumer
pub returns-clause-itself : goal.returns-clause-itself
returns-clause-itself c t agrees = (agrees.given.losses 0 0 0 0 refl).another refl

-- in `winner_stayed_away` consumer 1 did not compete for the item
away : HasCompeted 1 0 0 winner_stayed_away → ⊥
away (inl h) = omega (arith, h)
away (inr h) = let e = h.1 in cc

-- consumer 1, to which the item was lost, did not compete for it. But the consumer that a loss names must have
pub returns-clause-away : goal.returns-clause-away
returns-clause-away c t agrees = away (agrees.given.losses 0 1 0 0 refl).competed

-- two losses of one item name two consumers. But all losses of an item must name one consumer
pub returns-clause-each : goal.returns-clause-each
returns-clause-each c t agrees = let e = (agrees.given.losses 0 1 0 0 refl).only 1 0 refl in cc

-- consumer 0 took the item, and the loss says that it goes to consumer 2 or to nobody
pub returns-clause-third : goal.returns-clause-third
returns-clause-third c t agrees =
    by (t 0 0) ((agrees.given.taken 0 0 0).0 (5, refl)) (agrees.given.losses 1 2 0 0 refl).assigned
  where
    by : (a : Option ℕ) → a ≡ Some 0 → (a ≡ Some 2) ⊎ (a ≡ None) → ⊥
    by None e f = cc
    by (Some d) e (inl f) = let g : Some 0 ≡ Some 2 = sym e ∙ f in cc
    by (Some d) e (inr f) = cc

-- the begun claim is past the last item
pub returns-clause-begun : goal.returns-clause-begun
returns-clause-begun c t agrees = let e = agrees.given.begun_within 0 0 refl in omega (arith, e)

-- there are more notes than items
pub returns-clause-beyond : goal.returns-clause-beyond
returns-clause-beyond c t agrees = let e = agrees.given.within 0 0 in omega (arith, e)

-- the diary at the position of consumer 0 on lane 1 says that the item was lost to consumer 0, so to itself
pub returns-clause-by_lane : goal.returns-clause-by_lane
returns-clause-by_lane c t agrees = (agrees.given.losses 0 0 1 0 refl).another refl
