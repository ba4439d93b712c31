-- Segments are ended one after the other, and what they had left is given back.
use Rattle.std.proofs.Common.{List, [], Some, None, is_some, true≢false, length, drop, get_or, sym, refl, ap, subst, arith}
use Rattle.std.proofs.Common.{◌≡◌, ◌∷◌, ◌++◌, ◌∙◌}
use Rattle.std.proofs.lemmas.List.{append-nil, append_assoc}
use Rattle.mb_segment.specs.Vocabulary.{HasLeft, IsWhole as IsToldWhole}
use Rattle.mb_channel.specs.Types.{Ending, Global, Home, Homes, Knows, Left, Rest}
use Rattle.mb_channel.specs.Homes.{AllHomes, IsDone, IsFreed, IsWhole, Stands, came_back}
use Rattle.mb_channel.specs.Lives.{HaveEnded, all_left}
use Rattle.mb_channel.specs.Rests.{AreLeft, IsEnding, RestOfLife}
use Rattle.mb_channel.proofs.Lives.{have_lived}

module _ {T : Type 0} where
  -- ---- those that were freed had nothing left
  abbrev nothings : List (Home T) → List (List T)
  nothings [] = []
  nothings (h ∷ hs) = [] ∷ nothings hs

  no_values : (hs : List (Home T)) → all_left (nothings hs) ≡ []
  no_values [] = refl
  no_values (h ∷ hs) = no_values hs

  freed_ended : (hs : List (Home T)) → AllHomes IsFreed hs → HaveEnded hs (nothings hs)
  freed_ended [] freed = tt
  freed_ended (h ∷ hs) freed = (freed.0.whole, (λ _. refl), freed_ended hs freed.1)

  pub begins_ending : (hs : List (Home T)) (l : Homes T) (e : Ending T) → Stands hs l → e.list ≡ l.list
      → e.lefts.items ≡ [] → IsEnding hs e
  begins_ending hs l e s same none_left = record {
    ended = s.gone;
    ls = nothings s.gone;
    all = s.all ∙ ap (λ x. s.gone ++ x) (λ i. (sym same i).items);
    whole = freed_ended s.gone s.freed;
    back = subst (λ xs. AreLeft xs (all_left (nothings s.gone))) (sym none_left) (no_values s.gone);
  }

  -- ---- one more has ended
  ended_snoc : (hs : List (Home T)) (ls : List (List T)) (h : Home T) (l : List T) → HaveEnded hs ls
      → IsToldWhole (came_back h) l → (IsDone h → l ≡ []) → HaveEnded (hs ++ h ∷ []) (ls ++ l ∷ [])
  ended_snoc [] [] h l e w d = (w, d, tt)
  ended_snoc [] (k ∷ ls) h l e w d = absurd e
  ended_snoc (g ∷ hs) [] h l e w d = absurd e
  ended_snoc (g ∷ hs) (k ∷ ls) h l e w d = (e.0, e.1, ended_snoc hs ls h l e.2 w d)

  left_snoc : (ls : List (List T)) (l : List T) → all_left (ls ++ l ∷ []) ≡ all_left ls ++ l
  left_snoc [] l = append-nil l
  left_snoc (k ∷ ls) l = ap (λ x. k ++ x) (left_snoc ls l) ∙ sym (append_assoc k (all_left ls) l)

  are_snoc : (xs : List (Left T Global)) (back : List T) (x : Left T Global) (l : List T) → AreLeft xs back
      → HasLeft x l → AreLeft (xs ++ x ∷ []) (back ++ l)
  are_snoc [] back x l are has = (l, [], ap (λ b. b ++ l) are ∙ sym (append-nil l), has, refl)
  are_snoc (y ∷ xs) back x l are has = (
    are.0,
    are.1 ++ l,
    ap (λ b. b ++ l) are.2 ∙ append_assoc are.0 are.1 l,
    are.3,
    are_snoc xs are.1 x l are.4 has,
  )

  pub one_ends : (hs : List (Home T)) (e f : Ending T) (h : Home T) (x : Left T Global) → IsEnding hs e
      → e.list.items ≡ h ∷ f.list.items → f.lefts.items ≡ e.lefts.items ++ x ∷ []
      → (l : List T) × IsToldWhole (came_back h) l × HasLeft x l × (IsDone h → l ≡ []) → IsEnding hs f
  one_ends hs e f h x is list lefts w = record {
    ended = is.ended ++ h ∷ [];
    ls = is.ls ++ w.0 ∷ [];
    all = is.all ∙ ap (λ y. is.ended ++ y) list ∙ sym (append_assoc is.ended (h ∷ []) f.list.items);
    whole = ended_snoc is.ended is.ls h w.0 is.whole w.1 w.3;
    back = subst (λ xs. AreLeft xs (all_left (is.ls ++ w.0 ∷ []))) (sym lefts)
        (subst (λ b. AreLeft (e.lefts.items ++ x ∷ []) b) (sym (left_snoc is.ls w.0))
        (are_snoc e.lefts.items (all_left is.ls) x w.0 is.back w.2));
  }

  pub same_ending : (hs : List (Home T)) (e f : Ending T) → IsEnding hs e → f.list.items ≡ e.list.items
      → f.lefts.items ≡ e.lefts.items → IsEnding hs f
  same_ending hs e f is list lefts = record {
    ended = is.ended;
    ls = is.ls;
    all = is.all ∙ ap (λ y. is.ended ++ y) (sym list);
    whole = is.whole;
    back = subst (λ xs. AreLeft xs (all_left is.ls)) (sym lefts) is.back;
  }

  -- ---- all have ended
  pub all_ended : (v : Knows T) (hs : List (Home T)) (e : Ending T) (r : Rest T) → IsEnding hs e → e.list.items ≡ []
      → r.lefts.items ≡ e.lefts.items → IsWhole v hs → RestOfLife v hs r
  all_ended v hs e r is list lefts w =
      let whole = subst (λ x. HaveEnded x is.ls)
      (sym (is.all ∙ ap (λ y. is.ended ++ y) list ∙ append-nil is.ended)) is.whole in (
        is.ls,
        whole,
        subst (λ xs. AreLeft xs (all_left is.ls)) (sym lefts) is.back,
        have_lived v hs is.ls w whole,
      )

  -- ---- the next value
  head_is : (x y : T) (xs ys : List T) → x ∷ xs ≡ y ∷ ys → x ≡ y
  head_is x y xs ys e = ap (λ l. get_or l 0 x) e

  tail_is : (x y : T) (xs ys : List T) → x ∷ xs ≡ y ∷ ys → xs ≡ ys
  tail_is x y xs ys e = ap (λ l. drop 1 l) e

  pub next_is : (a b : Left T Global) (rest : List (Left T Global)) (y x : T) (xs : List T)
      → AreLeft (a ∷ rest) (x ∷ xs)
      → ((z : T) (zs : List T) → HasLeft a (z ∷ zs) → (Some y ≡ Some z) × HasLeft b zs)
      → (HasLeft a [] → (Some y ≡ None) × HasLeft b [])
      → (Some y ≡ Some x) × AreLeft (b ∷ rest) xs
  next_is a b rest y x xs are some_ none_ = go are.0 are.2 are.3
    where
      go : (l : List T) → x ∷ xs ≡ l ++ are.1 → HasLeft a l → (Some y ≡ Some x) × AreLeft (b ∷ rest) xs
      go [] e has = absurd (true≢false (ap is_some (none_ has).0))
      go (z ∷ zs) e has = let s = some_ z zs has in (
        s.0 ∙ ap Some (sym (head_is x z xs (zs ++ are.1) e)),
        (zs, are.1, tail_is x z xs (zs ++ are.1) e, s.1, are.4),
      )

  pub next_not : (a b : Left T Global) (rest : List (Left T Global)) (y : T) → AreLeft (a ∷ rest) []
      → (HasLeft a [] → (Some y ≡ None) × HasLeft b []) → (Some y ≡ None) × AreLeft (b ∷ rest) []
  next_not a b rest y are none_ = go are.0 are.2 are.3
    where
      go : (l : List T) → [] ≡ l ++ are.1 → HasLeft a l → (Some y ≡ None) × AreLeft (b ∷ rest) []
      go [] e has = absurd (true≢false (ap is_some (none_ has).0))
      go (z ∷ zs) e has = let n = ap length e in absurd (omega arith)

  pub next_past : (a b : Left T Global) (rest : List (Left T Global)) (xs : List T) → AreLeft (a ∷ rest) xs
      → ((z : T) (zs : List T) → HasLeft a (z ∷ zs) → (None ≡ Some z) × HasLeft b zs) → AreLeft rest xs
  next_past a b rest xs are some_ = go are.0 are.2 are.3
    where
      go : (l : List T) → xs ≡ l ++ are.1 → HasLeft a l → AreLeft rest xs
      go [] e has = subst (λ m. AreLeft rest m) (sym e) are.4
      go (z ∷ zs) e has = absurd (true≢false (sym (ap is_some (some_ z zs has).0)))
