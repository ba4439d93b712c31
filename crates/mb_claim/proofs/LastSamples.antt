-- Samples with a last object, alone or after a pair: which of them are lawful, and the stages of their claims.
use Rattle.std.proofs.Common.{◌≡◌, ℕ, true, List, [], ◌∷◌, refl, inl, inr, arith}
use Rattle.mb_quorum.specs.Unary.{unary_table}
use Rattle.mb_deciding.specs.Vocabulary.{IsInWords, answer}
use Rattle.mb_claim.specs.{Proposal, Quorum, Last, Load, Store, Exchange, Kind, Conciliator, Ratifier, LastObject}
use Rattle.mb_claim.specs.{ObjectTurn, Stage, Going, Won, Lost, part_on, turns_on, IsClaimPrefixFrom, IsClaimPart}
use Rattle.mb_claim.specs.{IsClaimLawful, left_undecided, last_comes_first, two_with_last}
use Rattle.mb_claim.specs.{two_alone, exchanged_once_each, both_found_empty}
use Rattle.mb_claim.proofs.Lists.{not_empty}
use Rattle.mb_claim.proofs.LawfulSamples.{conciliated, known}
use Rattle.mb_claim.proofs.ObjectHistories.{turns_at}
use Rattle.mb_claim.proofs.PassedRatifiers.{came_undecided}

-- ---- after a pair
-- the pair leaves consumer 0 undecided with its own number in `left_undecided`, so what follows the pair says its stage
pub pair_passed :
    (ks : List Kind) (s : Stage) → IsClaimPrefixFrom (unary_table 2) 0 ks 2 0 [] s
    → IsClaimPrefixFrom (unary_table 2) 0 (Conciliator 2 ∷ Ratifier ∷ ks) 0 0 (part_on 0 0 left_undecided) s
pair_passed ks s end =
    let xs : List ObjectTurn = part_on 0 0 left_undecided in
    inr (inr (
      0,
      turns_on 1 (turns_at 1 xs),
      record { turns = turns_at 0 xs; all = refl; path = conciliated },
      inr (inr (
        0,
        [],
        record {
          turns = turns_at 1 xs;
          all = refl;
          path = (
            1,
            refl,
            refl,
            (omega arith),
            (Store Proposal 1 ∷ Load Proposal 0 ∷ Store (Quorum 0) 1 ∷ [], inl (refl, refl), refl),
          );
        },
        end,
      )),
    ))

-- before its access to the last object the claim of consumer 0 is going
pub still_going : IsClaimPrefixFrom (unary_table 2) 0 (LastObject ∷ []) 2 0 [] Going
still_going =
    inl (record {
      turns = [];
      all = refl;
      going = (
        record { act = Exchange Last 1 0; word = 0 } ∷ [],
        (λ none. not_empty _ _ none),
        (answer true 0, (refl, inl (refl, refl))),
      );
      is = refl;
    })

-- `last_comes_first` is not lawful: a consumer comes to the last object only past the pair
pub first_refused : IsClaimLawful two_with_last last_comes_first → ⊥
first_refused bad =
    let xs : List ObjectTurn = part_on 0 0 last_comes_first in
    let mine = bad.parts 0 0 (λ none. not_empty _ _ none) in
    (came_undecided (unary_table 2) 0 (Conciliator 2) (Ratifier ∷ LastObject ∷ []) 0 0 2 xs mine.2.0 (omega arith)
    mine.2.1 (λ none. not_empty _ _ none)).path.1

-- ---- alone
-- consumer 0 finds the word empty and wins
alone_won : IsClaimPrefixFrom (unary_table 2) 0 (LastObject ∷ []) 0 0 (part_on 0 0 exchanged_once_each) Won
alone_won =
    inr (inl (record {
      turns = turns_at 0 (part_on 0 0 exchanged_once_each);
      value = 0;
      all = refl;
      path = (refl, inl (refl, refl));
      is = refl;
    }))

-- consumer 1 finds consumer 0's number, and loses to it
alone_lost :
    IsClaimPrefixFrom (unary_table 2) 1 (LastObject ∷ []) 0 1 (part_on 1 0 exchanged_once_each) (Lost 0)
alone_lost =
    inr (inl (record {
      turns = turns_at 0 (part_on 1 0 exchanged_once_each);
      value = 0;
      all = refl;
      path = (refl, inr refl);
      is = refl;
    }))

-- what consumer c did on cell k in `exchanged_once_each` belongs to its claim
abbrev IsAlonePart : ℕ → ℕ → Type 0
IsAlonePart c k = IsClaimPart two_alone c k (part_on c k exchanged_once_each)

-- what the second exchange finds, and its random word, are below 2 ^ 64
found_word : IsInWords (record { act = Exchange Last 2 1; word = 0 })
found_word = ((omega arith, tt), (omega arith))

-- what the first exchange finds and stores, and its random word, are below 2 ^ 64
put_word : IsInWords (record { act = Exchange Last 1 0; word = 0 })
put_word = ((omega arith, omega arith), (omega arith))

-- `exchanged_once_each` is lawful
pub alone_lawful : IsClaimLawful two_alone exchanged_once_each
alone_lawful =
    record {
      memory = (refl, (refl, tt));
      words = (found_word, (put_word, tt));
      parts = λ c k some. known IsAlonePart c k exchanged_once_each (
        ((omega arith), (omega arith), (Lost 0, alone_lost)),
        (((omega arith), (omega arith), (Won, alone_won)), tt),
      ) some;
    }

-- `both_found_empty` is not lawful: the first exchange has stored, so the second does not find 0
pub both_empty_refused : IsClaimLawful two_alone both_found_empty → ⊥
both_empty_refused bad = let none : ◌≡◌ {A = ℕ} 0 1 = bad.memory.0 in absurd (omega (arith, none))
