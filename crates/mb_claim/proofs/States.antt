-- One access of a claim, made on words that a history leaves. Also the words of the empty history, and words that are
-- not the claims'.
use Rattle.std.proofs.Common.{◌≡◌, ◌<◌, ◌≤◌, ◌⊎◌, ℕ, List, [], ◌∷◌, length, refl, sym, ◌∙◌, ap, ap₂, subst, subst₂, inl}
use Rattle.std.proofs.Common.{inr, slice_index, slice_set, set, get_or-set_other, get_or-set_same, length-set, arith}
use Rattle.std.proofs.lemmas.Bool.{cases_eq}
use Rattle.mb_deciding.specs.Vocabulary.{IsInWords, CanFind, IsOpAt, reg_of}
use Rattle.mb_claim.specs.{Reg, Op, Pc, ClaimAccess, Claims, MayFollow, Adds, object_history, held_at, words_in}
use Rattle.mb_claim.specs.{address_in, IsWordIn, HasPlace, access_after, IsMemoryOf, after_op, found_in}
use Rattle.mb_claim.specs.{access_in, words_after}
use Rattle.mb_claim.proofs.KindLaws.{AreDeciding}
use Rattle.mb_claim.proofs.Standing.{AreStepping, may_follow, finds_there}
use Rattle.mb_claim.proofs.HistorySteps.{adds}
use Rattle.mb_claim.proofs.Addresses.{distinct, within}
use Rattle.mb_claim.proofs.Words.{own_place, other_place, same_act, same_find}

module _
    (cs : Claims) (words : List ℕ) (h : List ClaimAccess) (memory : IsMemoryOf cs words h) (c k object : ℕ) (op : Op)
    (word : ℕ) (cell : k < cs.cells) (place : IsWordIn cs object (reg_of op)) where
  -- the address of the word to which the access goes
  abbrev address : ℕ
  address = address_in cs k object (reg_of op)

  -- the value found at that address
  abbrev found : ℕ
  found = found_in cs k object op words

  -- the access that the op makes on the words
  abbrev access : ClaimAccess
  access = access_in cs c k object op word words

  -- the word of the access lies within the words
  below : address < length words
  below =
      let a = within cs.table.registers cs.kinds cs.cells k object (reg_of op) place cell in
      let b = memory.room in omega arith

  -- the value found is what the history leaves in the word
  seen : found ≡ held_at k object (reg_of op) h
  seen = memory.left k object (reg_of op) cell place

  -- the access made on the words is the access that the op makes after the history
  pub same_access : access_after c k object op word h ≡ access
  same_access =
      ap (λ x. record {
        consumer = c;
        cell = k;
        step = record { object = object; turn = record { act = x; word = word } };
      })
      (same_act op found (object_history k object h) seen)

  -- if the access may follow, it adds one step to the history
  pub access_adds : MayFollow cs (access_after c k object op word h) h → Adds cs access h
  access_adds may = adds cs h access memory.lawful (subst (λ a. MayFollow cs a h) same_access may)

  module _ (added : Adds cs access h) where
    -- after the access each word has what the longer history leaves in it. Cases: whether the access is to this word
    held_by :
        (j o : ℕ) (q : Reg) → IsWordIn cs o q → j < cs.cells
        → (address ≡ address_in cs j o q) ⊎ (address ≡ address_in cs j o q → ⊥)
        → slice_index (words_after cs k object op words) (address_in cs j o q) ≡ held_at j o q (access ∷ h)
    held_by j o q p l (inl e) =
        let d = distinct cs.table.registers cs.kinds k j object o (reg_of op) q place p e in
        let P : ℕ → ℕ → Reg → Type 0 =
        λ j o q. slice_index (words_after cs k object op words) (address_in cs j o q) ≡ held_at j o q (access ∷ h) in
        subst (λ x. P j o x) d.2 (subst₂ (λ x y. P x y (reg_of op)) d.0 d.1
        (get_or-set_same words address (after_op op found) 0 below
        ∙ ap (after_op op) seen
        ∙ sym (added.words k object (reg_of op)
        ∙ own_place k object found (held_at k object (reg_of op) h) op seen)))
    held_by j o q p l (inr ne) =
        get_or-set_other words address (address_in cs j o q) (after_op op found) 0 (λ e. ne (sym e))
        ∙ memory.left j o q l p
        ∙ sym
        (added.words j o q
        ∙ other_place k object found (held_at j o q h) op j o q
        (λ a b e. ne (ap₂ (λ x y. address_in cs x y (reg_of op)) a b ∙ ap (address_in cs j o) e)))

    -- after the access the words are those that the longer history leaves
    pub memory_after : IsMemoryOf cs (words_after cs k object op words) (access ∷ h)
    memory_after =
        record {
          lawful = added.lawful;
          room =
              let a = memory.room in
              let b : length (set words address (after_op op found)) ≡ length words =
              length-set words address (after_op op found) in omega arith;
          left = λ j o q l p. held_by j o q p l (cases_eq address (address_in cs j o q));
        }

  module _
      (law : AreDeciding cs.table) (stepping : AreStepping cs.table) (pc : Pc) (stands : HasPlace cs c k object pc h)
      (is : IsOpAt cs.table pc op) where
    -- after the access of a claim at its place the words are those that the longer history leaves
    pub memory_step : IsInWords access.step.turn → IsMemoryOf cs (words_after cs k object op words) (access ∷ h)
    memory_step small =
        memory_after (access_adds (may_follow cs law stepping h c k object pc op word memory.lawful cell stands is
        (subst (λ (a : ClaimAccess). IsInWords a.step.turn) (sym same_access) small)))

    -- the value found is one that the claim's place allows (`CanFind`)
    pub memory_found : CanFind cs.table pc op found
    memory_found =
        same_find cs.table pc op found (object_history k object h) is seen
        (finds_there cs law stepping h c k object pc op memory.lawful stands is)

-- ---- the words of the empty history, and words after those of the cells
-- words that are all 0 are what the empty history leaves
pub memory_empty :
    (cs : Claims) (words : List ℕ) → words_in cs ≤ length words → ((i : ℕ) → slice_index words i ≡ 0)
    → IsMemoryOf cs words []
memory_empty cs words room zeros =
    record {
      lawful = record { memory = tt; words = tt; parts = λ c k some. absurd (some refl) };
      room = room;
      left = λ k o reg cell place. zeros (address_in cs k o reg);
    }

-- if a value is stored at an address after those of the cells, the words are still those that the history leaves
pub memory_beyond :
    (cs : Claims) (at n : ℕ) (words : List ℕ) (h : List ClaimAccess) → words_in cs ≤ at → IsMemoryOf cs words h
    → IsMemoryOf cs (slice_set words at n) h
memory_beyond cs at n words h behind memory =
    record {
      lawful = memory.lawful;
      room = let r = memory.room in let l : length
          (set words at n) ≡ length words = length-set words at n in omega arith;
      left = λ k o reg low has.
          get_or-set_other words at (address_in cs k o reg) n 0
          (λ e. let w = within cs.table.registers cs.kinds cs.cells k o reg has low in omega arith)
          ∙ memory.left k o reg low has;
    }
