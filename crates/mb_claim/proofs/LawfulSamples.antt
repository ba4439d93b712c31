-- The sample in which consumer 0 wins and consumer 1 loses is lawful.
use Rattle.std.proofs.Common.{◌≡◌, ◌≢◌, ℕ, Bool, true, false, cond, eqb, Some, None, List, [], ◌∷◌, refl, subst₂, inl}
use Rattle.std.proofs.Common.{inr, arith}
use Rattle.std.specs.List.{cons_option}
use Rattle.std.proofs.lemmas.Bool.{eqb-true}
use Rattle.mb_quorum.specs.Unary.{unary_table}
use Rattle.mb_deciding.specs.Vocabulary.{IsInWords, answer, IsPath}
use Rattle.mb_claim.specs.{Value, Proposal, Quorum, Load, Store, Conciliator, Ratifier, ObjectTurn}
use Rattle.mb_claim.specs.{ClaimAccess, Won, Lost, part_on, turns_on, IsClaimPrefixFrom, IsClaimPart}
use Rattle.mb_claim.specs.{IsClaimLawful, pairs_of, two_consumers, won_and_lost}
use Rattle.mb_claim.proofs.ObjectHistories.{turns_at}

-- ---- what holds of each access holds of each consumer and cell with a part
-- P holds of the consumer and the cell of each access
abbrev pub AreAll : (ℕ → ℕ → Type 0) → List ClaimAccess → Type 0
AreAll P [] = Unit {0}
AreAll P (a ∷ h) = P a.consumer a.cell × AreAll P h

-- if P holds of one more access, and of c and k if they had a step before, P holds of c and k if they have a step now
known_by :
    (P : ℕ → ℕ → Type 0) (c k : ℕ) (a : ClaimAccess) (xs : List ObjectTurn) (p q : Bool) → eqb a.consumer c ≡ p
    → eqb a.cell k ≡ q
    → P a.consumer a.cell → (xs ≢ [] → P c k) → cons_option (cond p (cond q (Some a.step) None) None) xs ≢ [] → P c k
known_by P c k a xs true true e f this older some = subst₂ P (eqb-true a.consumer c e) (eqb-true a.cell k f) this
known_by P c k a xs true false e f this older some = older some
known_by P c k a xs false q e f this older some = older some

-- if P holds of each access, it holds of each consumer and cell with a part that is not empty
pub known : (P : ℕ → ℕ → Type 0) (c k : ℕ) (h : List ClaimAccess) → AreAll P h → part_on c k h ≢ [] → P c k
known P c k [] all some = absurd (some refl)
known P c k (a ∷ h) all some =
    known_by P c k a (part_on c k h) (eqb a.consumer c) (eqb a.cell k) refl refl all.0 (known P c k h all.1) some

-- ---- consumer 0 wins, and consumer 1 loses
-- consumer 0 has stored its own number in the conciliator, and leaves it with that number
pub conciliated : IsPath (unary_table 2) (Conciliator 2) 0 (turns_at 0 (part_on 0 0 won_and_lost)) (answer false 0)
conciliated = (refl, (refl, (0, (omega arith), inr (refl, (refl, (omega arith), tt)))))

-- consumer 0 has loaded no 1 in the ratifier, so its own number is decided
ratified : IsPath (unary_table 2) Ratifier 0 (turns_at 1 (part_on 0 0 won_and_lost)) (answer true 0)
ratified = (Store Proposal 1 ∷ Load Proposal 0 ∷ Store (Quorum 0) 1 ∷ [], inl (refl, refl), refl)

-- in `won_and_lost` consumer 0 has won
pub won : IsClaimPrefixFrom (unary_table 2) 0 (pairs_of 2 1) 0 0 (part_on 0 0 won_and_lost) Won
won =
    inr (inr (
      0,
      turns_on 1 (turns_at 1 (part_on 0 0 won_and_lost)),
      record { turns = turns_at 0 (part_on 0 0 won_and_lost); all = refl; path = conciliated },
      inr (inl
          (record {
            turns = turns_at 1 (part_on 0 0 won_and_lost);
            value = 0;
            all = refl;
            path = ratified;
            is = refl;
          })),
    ))

-- in `won_and_lost` consumer 1 has lost to consumer 0
pub lost : IsClaimPrefixFrom (unary_table 2) 1 (pairs_of 2 1) 0 1 (part_on 1 0 won_and_lost) (Lost 0)
lost =
    inr (inr (
      0,
      turns_on 1 (turns_at 1 (part_on 1 0 won_and_lost)),
      record {
        turns = turns_at 0 (part_on 1 0 won_and_lost);
        all = refl;
        path =
            (refl, (refl, (0, (omega arith), inl tt)));
      },
      inr (inl
          (record {
            turns = turns_at 1 (part_on 1 0 won_and_lost);
            value = 0;
            all = refl;
            path = (Load Proposal 1 ∷ Store (Quorum 0) 1 ∷ [], inr refl, refl);
            is = refl;
          })),
    ))

-- what consumer c did on cell k in `won_and_lost` belongs to its claim
abbrev IsMine : ℕ → ℕ → Type 0
IsMine c k = IsClaimPart two_consumers c k (part_on c k won_and_lost)

-- in `won_and_lost` what consumer 0 did on cell 0 belongs to its claim
first : IsMine 0 0
first = ((omega arith), (omega arith), (Won, won))

-- in `won_and_lost` what consumer 1 did on cell 0 belongs to its claim
second : IsMine 1 0
second = ((omega arith), (omega arith), (Lost 0, lost))

-- the numbers in a turn that loads 0 are below 2 ^ 64
pub zero_word : IsInWords (record { act = Load Value 0; word = 0 })
zero_word = ((omega arith, tt), (omega arith))

-- the numbers in a turn that loads 1 are below 2 ^ 64
pub one_word : IsInWords (record { act = Load Value 1; word = 0 })
one_word = ((omega arith, tt), (omega arith))

-- the numbers in a turn that stores 1 are below 2 ^ 64
pub one_put : IsInWords (record { act = Store Value 1; word = 0 })
one_put = ((tt, omega arith), (omega arith))

-- `won_and_lost` is lawful
pub lawful : IsClaimLawful two_consumers won_and_lost
lawful =
    record {
      memory = (refl, (refl, (tt, (refl, (refl, (tt, (refl, (tt, (refl, (tt, (refl, tt)))))))))));
      words = (
        zero_word,
        (
          one_word,
          (
            one_put,
            (
              one_word,
              (
                zero_word,
                (one_put, (zero_word, (one_put, (one_word, (one_put, (zero_word, tt)))))),
              ),
            ),
          ),
        ),
      );
      parts = λ c k some.
          known IsMine c k won_and_lost (
            second,
            (
              second,
              (
                second,
                (
                  second,
                  (first, (first, (first, (first, (first, (first, (first, tt))))))),
                ),
              ),
            ),
          ) some;
    }
