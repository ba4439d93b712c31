-- A lawful history without its last accesses is lawful.
use Rattle.std.proofs.Common.{◌≢◌, ℕ, Bool, true, false, cond, eqb, Some, None, List, [], ◌∷◌, ◌++◌, sym, append_assoc}
use Rattle.std.specs.List.{cons_option}
use Rattle.mb_claim.specs.{Claims, ObjectTurn, ClaimAccess, part_on, IsClaimPart, IsClaimLawful}
use Rattle.mb_claim.proofs.Lists.{not_empty}
use Rattle.mb_claim.proofs.Prefixes.{completed, begun}

module _ (cs : Claims) where
  -- if a part belongs to a claim, it still does without its last step. Cases: whether the last access is in the part
  part_older :
      (c k : ℕ) (x : ObjectTurn) (xs : List ObjectTurn) (p q : Bool)
      → (cons_option (cond p (cond q (Some x) None) None) xs ≢ []
      → IsClaimPart cs c k (cons_option (cond p (cond q (Some x) None) None) xs))
      → xs ≢ [] → IsClaimPart cs c k xs
  part_older c k x xs true true kept some =
      let all = kept (not_empty x xs) in
      let whole = completed cs.table c cs.kinds 0 c (x ∷ xs) all.2.0 all.2.1 in (
        all.0,
        all.1,
        begun cs.table c cs.kinds 0 c (whole.0 ++ x ∷ []) xs (whole.0 ++ x ∷ xs) whole.1
            (sym (append_assoc whole.0 (x ∷ []) xs)) whole.2,
      )
  part_older c k x xs true false kept some = kept some
  part_older c k x xs false q kept some = kept some

  -- a lawful history stays lawful without its last access
  pub older_lawful : (a : ClaimAccess) (h : List ClaimAccess) → IsClaimLawful cs (a ∷ h) → IsClaimLawful cs h
  older_lawful a h lawful =
      record {
        memory = lawful.memory.1;
        words = lawful.words.1;
        parts = λ c k. part_older c k a.step (part_on c k h) (eqb a.consumer c) (eqb a.cell k) (lawful.parts c k);
      }

  -- a lawful history stays lawful without any number of its last accesses
  pub older_history_lawful : (later h : List ClaimAccess) → IsClaimLawful cs (later ++ h) → IsClaimLawful cs h
  older_history_lawful [] h lawful = lawful
  older_history_lawful (a ∷ later) h lawful = older_history_lawful later h (older_lawful a (later ++ h) lawful)
