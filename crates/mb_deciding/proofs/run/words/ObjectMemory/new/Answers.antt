-- Proof of `ObjectMemory::new`: words that all hold 0.
use Rattle.std.proofs.Common.{◌≡◌, refl, replicate}
use Rattle.std.proofs.lemmas.List.{get_or-replicate}
use Rattle.mb_deciding.specs.{Reg, Value, Proposal, Quorum, Last, IsReg, held_in}
use Rattle.mb_deciding.proofs.run.words.ObjectMemory.new.Goals as goal

-- each word of a memory that is all 0 holds 0
zero_words : (reg : Reg) → IsReg reg → held_in (record {
  value = 0;
  proposal = 0;
  quorum = replicate 64 0;
  last = 0;
}) reg ≡ 0
zero_words Value has = refl
zero_words Proposal has = refl
zero_words (Quorum r) has = get_or-replicate 64 r 0 0 has
zero_words Last has = refl

pub returns : goal.returns
returns c = zero_words
