-- The sample in which a consumer begins again is not lawful.
use Rattle.std.proofs.Common.{false, List, [], ◌∷◌, refl, inr}
use Rattle.mb_quorum.specs.Unary.{unary_table}
use Rattle.mb_deciding.specs.Vocabulary.{answer}
use Rattle.mb_claim.specs.{Turn, Value, Load, Store, Conciliator, Ratifier, ObjectTurn, part_on, IsClaimLawful}
use Rattle.mb_claim.specs.{two_consumers, begun_again}
use Rattle.mb_claim.proofs.KindLaws.{OfKind}
use Rattle.mb_claim.proofs.Lists.{not_empty}
use Rattle.mb_claim.proofs.ObjectHistories.{turns_at}
use Rattle.mb_claim.proofs.Parts.{forward}
use Rattle.mb_claim.proofs.Unique.{used_once}
use Rattle.mb_claim.proofs.LawfulSamples.{conciliated}

-- the oldest three turns of `begun_again`, which are a whole path
abbrev first_turns : List Turn
first_turns =
    record { act = Load Value 1; word = 0 } ∷ record { act = Store Value 1; word = 0 }
    ∷ record { act = Load Value 0; word = 0 } ∷ []

-- `begun_again` is not lawful: a turn on object 0 would come after a whole path there
pub not_again : OfKind (unary_table 2) (Conciliator 2) → IsClaimLawful two_consumers begun_again → ⊥
not_again law bad =
    let xs : List ObjectTurn = part_on 0 0 begun_again in
    let again : Turn = record { act = Load Value 1; word = 0 } in
    let mine = bad.parts 0 0 (λ none. not_empty _ _ none) in
    let here = (forward (unary_table 2) 0 (Conciliator 2) (Ratifier ∷ []) 0 0 xs mine.2.0 (inr mine.2.1)).here in
    not_empty again []
    (used_once (unary_table 2) (Conciliator 2) law 0 (again ∷ []) first_turns (turns_at 0 xs)
    (answer false 0) conciliated refl here)
