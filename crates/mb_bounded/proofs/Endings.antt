-- The hub takes back all passes, the last one first.
use Rattle.std.proofs.Common.{List, [], length, map, refl, sym, ap, subst, arith, ◌≡◌, ◌≤◌, ◌+◌, ◌-◌, ◌∷◌, ◌++◌, ◌∙◌, All}
use Rattle.std.proofs.lemmas.List.{append-nil, append_assoc, length_push, map-append}
use Rattle.std.proofs.lemmas.List.Elements.{All-cons, All-head, All-nil, All-tail}
use Rattle.mb_ring.specs.Vocabulary.{IsWhole, Issuer, took_back}
use Rattle.mb_bounded.specs.Types.{View}
use Rattle.mb_bounded.specs.declared.end.Past.{Past}
use Rattle.mb_bounded.specs.Ends.{past_account, past_view}
use Rattle.mb_bounded.specs.Lives.{IsLife}
use Rattle.mb_bounded.proofs.Lives.{is_life}

module _ {T : Type 0} where
  split_last : (P : Past T → Type 0) (xs : List (Past T)) (p : Past T) → All P (xs ++ p ∷ []) → All P xs × P p
  split_last P [] p h = (All-nil P, All-head P p [] h)
  split_last P (x ∷ xs) p h = let r = split_last P xs p (All-tail P x (xs ++ p ∷ []) h) in
      (All-cons P x xs (All-head P x (xs ++ p ∷ []) h) r.0, r.1)

  pub last_of : (P : Past T → Type 0) (xs ys : List (Past T)) (p : Past T) → xs ≡ ys ++ p ∷ [] → All P xs
      → All P ys × P p
  last_of P xs ys p e h = split_last P ys p (subst (All P) e h)

  -- the hub is to take back the passes `first`. Its view was v and is now w, and the passes `rest` are still out
  pub record Taking (v : View T) (first : List (Past T)) (w : View T) (rest : List (Past T)) : Type 0 where
    pub role : w.role ≡ Issuer
    pub enough : length rest ≤ w.out
    pub out : w.out + length first ≡ v.out + length rest
    pub ends : map past_account rest ++ w.ends ≡ map past_account first ++ v.ends

  pub takes_one : (v w : View T) (first xs ys : List (Past T)) (p : Past T) → xs ≡ ys ++ p ∷ [] → Taking v first w xs
      → Taking v first (took_back w (past_view p)) ys
  takes_one v w first xs ys p e t =
      let n : length xs ≡ length ys + 1 = ap length e ∙ length_push ys p in
      let a = t.enough in let b = t.out in record {
        role = t.role;
        enough = omega arith;
        out = omega arith;
        ends = sym (append_assoc (map past_account ys) (past_account p ∷ []) w.ends)
            ∙ ap (λ l. l ++ w.ends) (sym (ap (map past_account) e ∙ map-append past_account ys (p ∷ [])))
            ∙ t.ends;
      }

  -- the hub that issued passes to all, once it has them back: the accounts are those of the last end and of the others
  pub all_back : (v w : View T) (p : View T) (others : List (Past T)) → v.ends ≡ []
      → w.ends ≡ map past_account others ++ v.ends
      → (took_back w p).ends ≡ p.account ∷ map past_account others
  all_back v w p others none_ e = ap (λ l. p.account ∷ l)
      (e ∙ ap (λ l. map past_account others ++ l) none_ ∙ append-nil (map past_account others))

  -- what the end tells
  pub tells : (v w : View T) (p : View T) (others : List (Past T)) (back : List T) → v.ends ≡ []
      → w.ends ≡ map past_account others ++ v.ends → IsWhole (took_back w p).ends back
      → IsLife (p.account ∷ map past_account others) back
  tells v w p others back none_ e whole = is_life (p.account ∷ map past_account others) back
      (subst (λ l. IsWhole l back) (all_back v w p others none_ e) whole)

  pub begins : (v : View T) (xs : List (Past T)) → v.role ≡ Issuer → length xs ≤ v.out → Taking v xs v xs
  begins v xs role enough = record { role = role; enough = enough; out = omega arith; ends = refl }
