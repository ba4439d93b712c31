-- Samples with a fast path: which of them are lawful.
use Rattle.std.proofs.Common.{ℕ, true, false, List, [], ◌∷◌, refl, inl, inr, arith}
use Rattle.mb_quorum.specs.Unary.{unary_table}
use Rattle.mb_deciding.specs.Vocabulary.{answer, IsPath}
use Rattle.mb_claim.specs.{Proposal, Quorum, Load, Store, Kind, Conciliator, Ratifier, ObjectTurn, Won, Lost, part_on}
use Rattle.mb_claim.specs.{turns_on, IsClaimPrefixFrom, IsClaimPart, IsClaimLawful, two_with_fast, lost_at_second}
use Rattle.mb_claim.specs.{skip_both_ratifiers}
use Rattle.mb_claim.proofs.Lists.{not_empty}
use Rattle.mb_claim.proofs.ObjectHistories.{turns_at}
use Rattle.mb_claim.proofs.PassedRatifiers.{both_came_undecided}
use Rattle.mb_claim.proofs.LawfulSamples.{known, zero_word, one_word, one_put}

-- the row of a fast path and a pair
abbrev fast_kinds : List Kind
fast_kinds = Ratifier ∷ Ratifier ∷ Conciliator 2 ∷ Ratifier ∷ []

-- consumer 0 loads no 1 in the first ratifier, so its own number is decided
won_there : IsPath (unary_table 2) Ratifier 0 (turns_at 0 (part_on 0 0 lost_at_second)) (answer true 0)
won_there = (Store Proposal 1 ∷ Load Proposal 0 ∷ Store (Quorum 0) 1 ∷ [], inl (refl, refl), refl)

-- in `lost_at_second` consumer 0 has won
fast_won : IsClaimPrefixFrom (unary_table 2) 0 fast_kinds 0 0 (part_on 0 0 lost_at_second) Won
fast_won =
    inr (inl (record {
      turns = turns_at 0 (part_on 0 0 lost_at_second);
      value = 0;
      all = refl;
      path = won_there;
      is = refl;
    }))

-- consumer 1 finds 0 proposed in the first ratifier, and then its own announcement, so it is undecided there
undecided_there : IsPath (unary_table 2) Ratifier 1 (turns_at 0 (part_on 1 0 lost_at_second)) (answer false 0)
undecided_there = (
  1,
  refl,
  refl,
  (omega arith),
  (Load Proposal 1 ∷ Store (Quorum 1) 1 ∷ [], inr refl, refl),
)

-- consumer 1 comes to the second ratifier with 0, which decides 0, so it has lost to consumer 0
fast_lost : IsClaimPrefixFrom (unary_table 2) 1 fast_kinds 0 1 (part_on 1 0 lost_at_second) (Lost 0)
fast_lost =
    let xs : List ObjectTurn = part_on 1 0 lost_at_second in
    inr (inr (
      0,
      turns_on 1 (turns_at 1 xs),
      record { turns = turns_at 0 xs; all = refl; path = undecided_there },
      inr (inl (record {
        turns = turns_at 1 xs;
        value = 0;
        all = refl;
        path = (Store Proposal 1 ∷ Load Proposal 0 ∷ Store (Quorum 0) 1 ∷ [], inl (refl, refl), refl);
        is = refl;
      })),
    ))

-- what consumer c did on cell k in `lost_at_second` belongs to its claim
abbrev IsFastPart : ℕ → ℕ → Type 0
IsFastPart c k = IsClaimPart two_with_fast c k (part_on c k lost_at_second)

-- in `lost_at_second` what consumer 0 did on cell 0 belongs to its claim
first : IsFastPart 0 0
first = ((omega arith), (omega arith), (Won, fast_won))

-- in `lost_at_second` what consumer 1 did on cell 0 belongs to its claim
second : IsFastPart 1 0
second = ((omega arith), (omega arith), (Lost 0, fast_lost))

-- `lost_at_second` is lawful
pub fast_lawful : IsClaimLawful two_with_fast lost_at_second
fast_lawful =
    record {
      memory = (refl, (tt, (refl, (tt, (refl, (refl, (tt, (refl, (tt, (refl, (tt, tt)))))))))));
      words = (
        zero_word,
        (
          one_put,
          (
            zero_word,
            (
              one_put,
              (
                one_word,
                (
                  one_word,
                  (one_put, (zero_word, (one_put, (zero_word, (one_put, tt))))),
                ),
              ),
            ),
          ),
        ),
      );
      parts = λ c k some. known IsFastPart c k lost_at_second (
        second,
        (
          second,
          (
            second,
            (
              second,
              (
                second,
                (
                  second,
                  (
                    second,
                    (first, (first, (first, (first, tt)))),
                  ),
                ),
              ),
            ),
          ),
        ),
      ) some;
    }

-- `skip_both_ratifiers` is not lawful: a consumer comes to the conciliator only past both ratifiers
pub both_refused : IsClaimLawful two_with_fast skip_both_ratifiers → ⊥
both_refused bad =
    let xs : List ObjectTurn = part_on 0 0 skip_both_ratifiers in
    let mine = bad.parts 0 0 (λ none. not_empty _ _ none) in
    (both_came_undecided (unary_table 2) 0 (Conciliator 2 ∷ Ratifier ∷ []) 0 2 xs mine.2.0 (omega arith) mine.2.1
    (λ none. not_empty _ _ none)).2
