-- Samples: which histories of process 0 alone, with the input 0, are lawful.
use Rattle.std.proofs.Common.{◌≡◌, ◌≢◌, ℕ, zero, suc, ◌+◌, ◌<◌, ◌%◌, ◌^◌, cond, true, false, Some, None, List, [], ◌∷◌}
use Rattle.std.proofs.Common.{◌++◌, inl, inr, sym, refl, ap, ◌∙◌, subst, arith}
use Rattle.std.specs.List.{cons_option}
use Rattle.std.proofs.lemmas.Bool.{cases_eq, ne_eqb}
use Rattle.mb_deciding.specs.{Value, Proposal, Quorum, Load, Store, Turn, Kind, Conciliator, Ratifier, object_of}
use Rattle.mb_deciding.specs.{IsMemoryTrue, AreInWords, part, IsMissing, IsDrawn, IsConciliatorPath, answer, IsPath}
use Rattle.mb_deciding.specs.{IsPrefix, IsObjectLawful, HasOutput, zero_inputs, turn, history_of_one, clear_turns}
use Rattle.mb_deciding.specs.{hasty_turns, invented_turns, patient_turns, impatient_turns}
use Rattle.mb_quorum.specs.Quorum.{QuorumTable}
use Rattle.mb_quorum.specs.Unary.{unary_table}
use Rattle.mb_deciding.proofs.Histories.{not_empty}
use Rattle.mb_deciding.proofs.Grammar.{part_behind}

-- ---- the history of one process
-- the part of process 0 in the history of these turns is the turns
own_turns : (turns : List Turn) → part 0 (history_of_one turns) ≡ turns
own_turns [] = refl
own_turns (x ∷ turns) = ap (λ xs. x ∷ xs) (own_turns turns)

-- the part of any other process is empty
no_turns : (p : ℕ) (turns : List Turn) → p ≢ 0 → part p (history_of_one turns) ≡ []
no_turns p [] other = refl
no_turns p (x ∷ turns) other =
    ap (λ b. cons_option (cond b (Some x) None) (part p (history_of_one turns))) (ne_eqb 0 p (λ e. other (sym e)))
    ∙ no_turns p turns other

-- if the turns are in words, true to memory and a prefix of a path, the history of process 0 alone is lawful
lawful_alone :
    (t : QuorumTable) (kind : Kind) (turns : List Turn) → IsMemoryTrue (history_of_one turns) → AreInWords
    (history_of_one turns)
    → 0 < t.values → IsPrefix t kind 0 turns → IsObjectLawful (object_of t kind zero_inputs) (history_of_one turns)
lawful_alone t kind turns memory words within prefix =
    record {
      memory = memory;
      words = words;
      parts = λ p some.
          elim (cases_eq p 0) [
            | inl e ↦ (
              within,
              subst (λ q. IsPrefix t kind 0 (part q (history_of_one turns))) (sym e)
                  (subst (IsPrefix t kind 0) (sym (own_turns turns)) prefix),
            )
            | inr other ↦ absurd (some (no_turns p turns other))
          ];
    }

-- if the history of process 0 alone is lawful, its turns are a prefix of a path
part_alone :
    (t : QuorumTable) (kind : Kind) (turns : List Turn) → turns ≢ []
    → IsObjectLawful (object_of t kind zero_inputs) (history_of_one turns) → IsPrefix t kind 0 turns
part_alone t kind turns some l =
    subst (IsPrefix t kind 0) (own_turns turns) (l.parts 0 (λ e. some (sym (own_turns turns) ∙ e))).1

-- ---- histories of a ratifier
-- `clear_turns`, whose load of a register found 0, is a whole path that decides its input
pub clear_path : IsPath (unary_table 2) Ratifier 0 clear_turns (answer true 0)
clear_path = (Store Proposal 1 ∷ Load Proposal 0 ∷ Store (Quorum 0) 1 ∷ [], inl (refl, refl), refl)

-- the history of `clear_turns` is lawful
pub clear_lawful : IsObjectLawful (object_of (unary_table 2) Ratifier zero_inputs) (history_of_one clear_turns)
clear_lawful =
    lawful_alone (unary_table 2) Ratifier clear_turns (refl, (tt, (refl, (tt, tt)))) (
      (omega arith, omega arith),
      (
        (omega arith, omega arith),
        ((omega arith, omega arith), ((omega arith, omega arith), tt)),
      ),
    )
    (omega arith)
    ([], answer true 0, clear_path)

-- in the history of `clear_turns` process 0 has its input as decided output
pub clear_output : HasOutput (object_of (unary_table 2) Ratifier zero_inputs) 0 true 0 (history_of_one clear_turns)
clear_output = clear_path

-- the history of `hasty_turns` is not lawful: a process sets its write quorum before it loads the proposal
pub hasty_refused : IsObjectLawful (object_of (unary_table 2) Ratifier zero_inputs) (history_of_one hasty_turns) → ⊥
hasty_refused l =
    let prefix = part_alone (unary_table 2) Ratifier hasty_turns (not_empty (turn 0 (Load Proposal 0)) []) l in
    (part_behind (unary_table 2) 0 hasty_turns prefix).0 0 (omega arith) refl

-- the history of `invented_turns` is not lawful: its load of register 1 finds 1, and no process stored that
pub invented_refused : IsObjectLawful (object_of (unary_table 2) Ratifier zero_inputs) (history_of_one invented_turns)
    → ⊥
invented_refused l = let none : ◌≡◌ {A = ℕ} 1 0 = l.memory.0 in absurd (omega arith)

-- ---- histories of a conciliator
-- `patient_turns`, with a store on attempt 2, is a whole path with its input as undecided output
pub patient_path : IsPath (unary_table 2) (Conciliator 2) 0 patient_turns (answer false 0)
patient_path = (
  refl,
  (
    refl,
    (
      2,
      omega arith,
      inr (
        refl,
        (
          refl,
          omega arith,
          (refl, (λ stores. late stores), (refl, (λ stores. later stores), tt)),
        ),
      ),
    ),
  ),
)
  where
    -- the random word 3 does not store on attempt 1
    late : 3 % 2 ^ 2 < 2 ^ 1 → ⊥
    late stores = omega arith

    -- the random word 3 does not store on attempt 0
    later : 3 % 2 ^ 2 < 2 ^ 0 → ⊥
    later stores = omega arith

-- the history of `patient_turns` is lawful
pub patient_lawful : IsObjectLawful (object_of (unary_table 2) (Conciliator 2) zero_inputs)
    (history_of_one patient_turns)
patient_lawful =
    lawful_alone (unary_table 2) (Conciliator 2) patient_turns (refl, (tt, (refl, (refl, (refl, tt))))) (
      (omega arith, omega arith),
      (
        (omega arith, omega arith),
        ((omega arith, omega arith), ((omega arith, omega arith), ((omega arith, omega arith), tt))),
      ),
    )
    (omega arith)
    ([], answer false 0, patient_path)

-- in the history of `patient_turns` process 0 has its input as undecided output
pub patient_output : HasOutput (object_of (unary_table 2) (Conciliator 2) zero_inputs) 0 false 0
    (history_of_one patient_turns)
patient_output = patient_path

-- turns of attempts of which none stores have no store among them
missing_no_store :
    (s k v : ℕ) (xs ys : List Turn) (put : Turn) → put.act ≡ Store Value (v + 1) → IsMissing s k (xs ++ put ∷ ys) → ⊥
missing_no_store s zero v [] ys put e h = h
missing_no_store s zero v (x ∷ xs) ys put e h = h
missing_no_store s (suc k) v [] ys put e h = let same : Store Value (v + 1) ≡ Load Value 0 = sym e ∙ h.0 in cc
missing_no_store s (suc k) v (x ∷ xs) ys put e h = missing_no_store s k v xs ys put e h.2

-- one load alone, with the random word 3, is no list of attempts of which the last stores
found_late : (k : ℕ) → IsDrawn 2 k (turn 3 (Load Value 0) ∷ []) → ⊥
found_late zero h = let stores : 3 % 2 ^ 2 < 2 ^ 0 = h.1 in omega arith
found_late (suc k) h = h.2

-- no whole path begins with `impatient_turns`
impatient_no_path : (later : List Turn) (u : ℕ) → IsConciliatorPath 2 0 (later ++ impatient_turns) u → ⊥
impatient_no_path [] u h = let same : Store Value 1 ≡ Load Value (u + 1) = h.0 in cc
impatient_no_path (x ∷ []) u h =
    elim h.1.2 [
      | inl missing ↦ missing_no_store 2 h.1.0 0 [] (turn 3 (Load Value 0) ∷ []) (turn 3 (Store Value 1)) refl missing
      | inr put ↦ found_late h.1.0 put.1
    ]
impatient_no_path (x ∷ y ∷ []) u h =
    elim h.1.2 [
      | inl missing ↦ missing_no_store 2 h.1.0 0 (y ∷ []) (turn 3 (Load Value 0) ∷ [])
          (turn 3 (Store Value 1)) refl missing
      | inr put ↦ (let same : Store Value 1 ≡ Load Value 0 = put.1.0 in cc)
    ]
impatient_no_path (x ∷ y ∷ z ∷ later) u h =
    elim h.1.2 [
      | inl missing ↦ missing_no_store 2 h.1.0 0 (y ∷ z ∷ later) (turn 3 (Load Value 0) ∷ [])
          (turn 3 (Store Value 1)) refl missing
      | inr put ↦ missing_no_store 2 h.1.0 0 later (turn 3 (Load Value 0) ∷ []) (turn 3 (Store Value 1)) refl put.1.2
    ]

-- `impatient_turns` is not a prefix of a path
pub impatient_no_part : IsPrefix (unary_table 2) (Conciliator 2) 0 impatient_turns → ⊥
impatient_no_part prefix = impatient_no_path prefix.0 prefix.1.value prefix.2.1

-- the history of `impatient_turns` is not lawful
pub impatient_refused : IsObjectLawful (object_of (unary_table 2) (Conciliator 2) zero_inputs)
    (history_of_one impatient_turns) → ⊥
impatient_refused l =
    impatient_no_part (part_alone (unary_table 2) (Conciliator 2) impatient_turns
    (not_empty (turn 3 (Store Value 1)) (turn 3 (Load Value 0) ∷ [])) l)
