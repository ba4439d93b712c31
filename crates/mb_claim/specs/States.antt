-- Words in one block, and what one access makes of them.
use Rattle.std.specs.Prelude.{ℕ, ◌≡◌, ◌<◌, ◌≤◌, List, length, slice_index, slice_set}
use Rattle.std.specs.Option.{option_map_or}
use Rattle.mb_deciding.specs.Vocabulary.{stored_by, act_of, reg_of}
use Rattle.mb_claim.specs.ObjectTypes.{Reg, Op}
use Rattle.mb_claim.specs.Types.{ObjectTurn, ClaimAccess}
use Rattle.mb_claim.specs.AllClaims.{Claims}
use Rattle.mb_claim.specs.History.{held_at}
use Rattle.mb_claim.specs.Claiming.{IsClaimLawful}
use Rattle.mb_claim.specs.Layouts.{words_in, address_in, IsWordIn}

-- the words at the addresses of the claims are those that a lawful history leaves. Other words may follow
pub record IsMemoryOf (cs : Claims) (words : List ℕ) (h : List ClaimAccess) : Type 0 where
  -- the history is lawful
  pub lawful : IsClaimLawful cs h
  -- there are words for all cells
  pub room : words_in cs ≤ length words
  -- each word of an object has what the history leaves in it
  pub left :
      (k o : ℕ) (reg : Reg) → k < cs.cells → IsWordIn cs o reg
      → slice_index words (address_in cs k o reg) ≡ held_at k o reg h

-- what an op that finds n leaves in its word: what its act stores, if it stores, and else n
abbrev pub after_op : Op → ℕ → ℕ
after_op op n = option_map_or (λ value. value) (stored_by (act_of op n)) n

-- the step on object o of an op that finds n
abbrev pub step_of : ℕ → Op → ℕ → ℕ → ObjectTurn
step_of o op n word = record { object = o; turn = record { act = act_of op n; word = word } }

-- ---- an op on object o of cell k, made on these words
-- what the op finds in its word
abbrev pub found_in : Claims → ℕ → ℕ → Op → List ℕ → ℕ
found_in cs k o op words = slice_index words (address_in cs k o (reg_of op))

-- the access of consumer c that the op makes, with the random word
abbrev pub access_in : Claims → ℕ → ℕ → ℕ → Op → ℕ → List ℕ → ClaimAccess
access_in cs c k o op word words = record {
  consumer = c;
  cell = k;
  step = step_of o op
      (found_in cs k o op words) word;
}

-- the words that the op leaves
abbrev pub words_after : Claims → ℕ → ℕ → Op → List ℕ → List ℕ
words_after cs k o op words = slice_set words (address_in cs k o (reg_of op)) (after_op op
    (found_in cs k o op words))
