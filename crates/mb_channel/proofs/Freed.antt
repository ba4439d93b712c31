-- All segments that there ever were: first those that are freed, then those of the list.
use Rattle.std.proofs.Common.{ℕ, zero, suc, Bool, true, false, true≢false, List, [], length, sym, refl, ap, subst, inl, inr, ⊎_elim, arith}
use Rattle.std.proofs.Common.{◌≡◌, ◌+◌, ◌-◌, ◌<◌, ◌≤◌, ◌∷◌, ◌++◌, ◌∙◌}
use Rattle.std.specs.Prelude.{slice_set, Option, Some, None, SomeIff, IfSome, Result, Ok, Err, IfOk, OnErr}
use Rattle.std.proofs.lemmas.List.{append_assoc, length-append}
use native.Mathlib.Decide.{dec_le}
use mathlib.Core.Option.{some, some-ne-none}
use lib.ListN.{get_elem?}
use Rattle.atomic_table.proofs.Lists.{at_longer}
use Rattle.mb_channel.specs.Types.{Home, Homes}
use Rattle.mb_channel.specs.Homes.{AllHomes, At, Changes, IsBusy, IsFreed, IsNew, IsNext, Longer, Stands, out_of}
use Rattle.mb_channel.specs.Tallies.{GoesOnTo}

module _ {A : Type 0} where
  pub behind : (xs ys : List A) (k : ℕ) → length xs ≤ k → get_elem? (xs ++ ys) k ≡ get_elem? ys (k - length xs)
  behind [] ys k le = let e : k ≡ k - 0 = omega arith in ap (get_elem? ys) e
  behind (x ∷ xs) ys zero le = absurd (omega arith)
  behind (x ∷ xs) ys (suc k) le = let e : k - length xs ≡ suc k - suc (length xs) = omega arith in
      behind xs ys k (omega arith) ∙ ap (get_elem? ys) e

  set_behind : (xs ys : List A) (k : ℕ) (a : A) → length xs ≤ k
      → slice_set (xs ++ ys) k a ≡ xs ++ slice_set ys (k - length xs) a
  set_behind [] ys k a le = let e : k ≡ k - 0 = omega arith in ap (λ n. slice_set ys n a) e
  set_behind (x ∷ xs) ys zero a le = absurd (omega arith)
  set_behind (x ∷ xs) ys (suc k) a le = let e : k - length xs ≡ suc k - suc (length xs) = omega arith in
      ap (λ l. x ∷ l) (set_behind xs ys k a (omega arith) ∙ ap (λ n. xs ++ slice_set ys n a) e)

  in_front : (xs ys : List A) (k : ℕ) (a : A) → k < length xs → get_elem? (xs ++ ys) k ≡ some a
      → get_elem? xs k ≡ some a
  in_front [] ys k a lt e = absurd (omega arith)
  in_front (x ∷ xs) ys zero a lt e = e
  in_front (x ∷ xs) ys (suc k) a lt e = in_front xs ys k a (omega arith) e

  some_at : (xs : List A) (k : ℕ) → k < length xs → (a : A) × (get_elem? xs k ≡ some a)
  some_at [] k lt = absurd (omega arith)
  some_at (x ∷ xs) zero lt = (x, refl)
  some_at (x ∷ xs) (suc k) lt = some_at xs k (omega arith)

module _ {T : Type 0} where
  pub all_homes : (hs : List (Home T)) (P : Home T → Type 0)
      → ((k : ℕ) (h : Home T) → get_elem? hs k ≡ some h → P h) → AllHomes P hs
  all_homes [] P f = tt
  all_homes (h ∷ hs) P f = (f 0 h refl, all_homes hs P (λ k u e. f (suc k) u e))

  pub all_at : (P : Home T → Type 0) (hs : List (Home T)) → AllHomes P hs → (k : ℕ) (h : Home T)
      → get_elem? hs k ≡ some h → P h
  all_at P [] all k h e = absurd (some-ne-none h (sym e))
  all_at P (x ∷ xs) all zero h e = subst P (mathlib.Core.Option.some-injective x h e) all.0
  all_at P (x ∷ xs) all (suc k) h e = all_at P xs all.1 k h e

  all_snoc : (P : Home T → Type 0) (hs : List (Home T)) (h : Home T) → AllHomes P hs → P h → AllHomes P (hs ++ h ∷ [])
  all_snoc P [] h all p = (p, tt)
  all_snoc P (x ∷ xs) h all p = (all.0, all_snoc P xs h all.1 p)

  -- a segment of which a pass is out is in the list
  pub is_live : (hs : List (Home T)) (l : Homes T) (k : ℕ) → Stands hs l → IsBusy hs k → l.first ≤ k
  is_live hs l k s busy = go (dec_le l.first k)
    where
      go : Dec (l.first ≤ k) → l.first ≤ k
      go (yes d) = d
      go (no n) = (
          let number = s.number in
          let lt : k < length s.gone = omega arith in
          let here = in_front s.gone l.list.items k busy.0 lt (ap (λ x. get_elem? x k) (sym s.all) ∙ busy.1) in
          let none_out = (all_at IsFreed s.gone s.freed k busy.0 here).back in
          let some_out = busy.2 in
          absurd (omega arith)
          )

  pub at_live : (hs : List (Home T)) (l : Homes T) (k : ℕ) → Stands hs l → l.first ≤ k
      → get_elem? l.list.items (k - l.first) ≡ get_elem? hs k
  at_live hs l k s le = let number = s.number in
      ap (λ n. get_elem? l.list.items (k - n)) (sym s.number)
      ∙ sym (ap (λ x. get_elem? x k) s.all ∙ behind s.gone l.list.items k (omega arith))

  -- what a place of the list has, which no pass's home left
  pub place_is : (hs before : List (Home T)) (l now : Homes T) (k : ℕ) (P : Home T → Type 0) → now ≡ l → Stands hs l
      → hs ≡ before → At before k (λ h. P h × (0 < out_of h))
      → Stands hs now × (now.first ≤ k) × At now.list.items (k - now.first) (λ h. P h × (0 < out_of h))
  place_is hs before l now k P same s e a =
      let s' = subst (λ x. Stands hs x) (sym same) s in
      let here : get_elem? hs k ≡ some a.0 = ap (λ x. get_elem? x k) e ∙ a.1 in
      let le = is_live hs now k s' (a.0, here, a.2.1) in
      (s', le, (a.0, at_live hs now k s' le ∙ here, a.2))

  -- all segments before the list's first are done
  pub next_is : (hs : List (Home T)) (l : Homes T) → Stands hs l → IsNext hs l.first
  next_is hs l s j lt =
      let number = s.number in
      let x = some_at s.gone j (omega arith) in (
        x.0,
        ap (λ y. get_elem? y j) s.all ∙ at_longer s.gone l.list.items j x.0 x.1,
        (all_at IsFreed s.gone s.freed j x.0 x.1).done,
      )

  -- a place behind the list is behind all
  pub behind_all : (hs : List (Home T)) (l : Homes T) (k : ℕ) → Stands hs l → l.first ≤ k
      → length l.list.items ≤ k - l.first → length hs ≤ k
  behind_all hs l k s le long =
      let number = s.number in
      let n = length-append s.gone l.list.items in
      let e = ap length s.all in omega arith

  -- how many segments there ever were
  pub all_long : (hs : List (Home T)) (l : Homes T) (k : ℕ) → Stands hs l → l.first ≤ k
      → k - l.first ≡ length l.list.items → length hs ≡ k
  all_long hs l k s le long =
      let number = s.number in
      let n = length-append s.gone l.list.items in
      let e = ap length s.all in omega arith

  -- where an end goes on to, to receive too or to send alone
  pub goes_first : (b : Bool) (l : Homes T) → b ≡ true → (hs : List (Home T)) → Stands hs l → GoesOnTo b hs l.first
  goes_first true l e hs s = next_is hs l s
  goes_first false l e hs s = absurd (true≢false (sym e))

  last_is : (hs : List (Home T)) (l : Homes T) (k : ℕ) → Stands hs l → k ≡ l.first + (length l.list.items - 1)
      → GoesOnTo false hs k
  last_is hs l k s e = go (length l.list.items) refl
    where
      go : (n : ℕ) → length l.list.items ≡ n → GoesOnTo false hs k
      go zero none_ = (
          let same : l.first ≡ k = omega arith in
          inr (all_long hs l k s (omega arith) (omega arith), subst (λ i. IsNext hs i) same (next_is hs l s))
          )
      go (suc n) more = inl (sym (all_long hs l (suc k) s (omega arith) (omega arith)))

  pub goes_last : (b : Bool) (l : Homes T) (n : ℕ) (P : Type 0) (r : Option ℕ) → b ≡ false
      → n ≡ length l.list.items - 1 → SomeIff r P (l.first + n)
      → IfSome r (λ k. (l.first ≤ k) × ((hs : List (Home T)) → Stands hs l → GoesOnTo b hs k))
  goes_last b l n P None e last r = tt
  goes_last true l n P (Some k) e last r = absurd (true≢false e)
  goes_last false l n P (Some k) e last r = let x = r.1 in (omega arith, λ hs s. last_is hs l k s (omega arith))

  -- an end that is there, and is to send alone, is in the last
  pub only_last : (b : Bool) (hs : List (Home T)) (k n : ℕ) → b ≡ false → GoesOnTo b hs k → k ≤ n → n < length hs
      → suc n ≡ length hs
  only_last true hs k n e on le lt = absurd (true≢false e)
  only_last false hs k n e on le lt = ⊎_elim (λ (x : suc k ≡ length hs). omega arith)
      (λ (x : (length hs ≡ k) × IsNext hs k). let y = x.0 in absurd (omega arith)) on

  -- ---- the list changes
  stands_set : (hs : List (Home T)) (l m : Homes T) (k : ℕ) (g : Home T) → Stands hs l → l.first ≤ k
      → m.list.items ≡ slice_set l.list.items (k - l.first) g → (m.first ≡ l.first) × (m.audited ≡ l.audited)
      → Stands (slice_set hs k g) m
  stands_set hs l m k g s le is same = let number = s.number in record {
    gone = s.gone;
    all = ap (λ x. slice_set x k g) s.all ∙ set_behind s.gone l.list.items k g (omega arith)
        ∙ ap (λ n. s.gone ++ slice_set l.list.items (k - n) g) s.number ∙ ap (λ x. s.gone ++ x) (sym is);
    number = s.number ∙ sym same.0;
    freed = s.freed;
  }

  pub stands_same : (hs : List (Home T)) (l m : Homes T) → Stands hs l → m.list.items ≡ l.list.items
      → (m.first ≡ l.first) × (m.audited ≡ l.audited) → Stands hs m
  stands_same hs l m s is same = record {
    gone = s.gone;
    all = s.all ∙ ap (λ x. s.gone ++ x) (sym is);
    number = s.number ∙ sym same.0;
    freed = s.freed;
  }

  -- one segment of the list changed
  pub changes_all : (hs : List (Home T)) (l m : Homes T) (k : ℕ) (P : Home T → Home T → Type 0) → Stands hs l
      → l.first ≤ k → Changes l.list.items m.list.items (k - l.first) P → (m.first ≡ l.first) × (m.audited ≡ l.audited)
      → (gs : List (Home T)) × Stands gs m × Changes hs gs k P
  changes_all hs l m k P s le c same = (
    slice_set hs k c.1,
    stands_set hs l m k c.1 s le c.3 same,
    (c.0, c.1, sym (at_live hs l k s le) ∙ c.2, refl, c.4),
  )

  stands_more : (hs : List (Home T)) (l m : Homes T) (h : Home T) → Stands hs l → m.list.items ≡ l.list.items ++ h ∷ []
      → (m.first ≡ l.first) × (m.audited ≡ l.audited) → Stands (hs ++ h ∷ []) m
  stands_more hs l m h s is same = record {
    gone = s.gone;
    all = ap (λ x. x ++ h ∷ []) s.all ∙ append_assoc s.gone l.list.items (h ∷ []) ∙ ap (λ x. s.gone ++ x) (sym is);
    number = s.number ∙ sym same.0;
    freed = s.freed;
  }

  pub stands_freed : (hs : List (Home T)) (l m : Homes T) (h : Home T) (s : Stands hs l)
      → l.list.items ≡ h ∷ m.list.items → IsFreed h → m.first ≡ l.first + 1 → Stands hs m
  stands_freed hs l m h s is done more = let number = s.number in
      let n = length-append s.gone (h ∷ []) in record {
        gone = s.gone ++ h ∷ [];
        all = s.all ∙ ap (λ x. s.gone ++ x) is ∙ sym (append_assoc s.gone (h ∷ []) m.list.items);
        number = omega arith;
        freed = all_snoc IsFreed s.gone h s.freed done;
      }

  pub longer_of : {E : Type 0} (r : Result (Unit {0}) E) (n : ℕ) (hs : List (Home T)) (l m : Homes T) → Stands hs l
      → length hs ≡ n
      → IfOk r (λ _. (h : Home T) × IsNew h × (m.list.items ≡ l.list.items ++ h ∷ []))
      → (m.first ≡ l.first) × (m.audited ≡ l.audited)
      → (Q : Type 0) → ((gs : List (Home T)) → Stands gs m → Longer n hs gs → Q) → IfOk r (λ _. Q)
  longer_of (Ok u) n hs l m s long more first Q f =
      f (hs ++ more.0 ∷ []) (stands_more hs l m more.0 s more.2 first) (more.0, more.1, refl, long)
  longer_of (Err e) n hs l m s long more first Q f = tt

  pub same_of : {A E : Type 0} (r : Result A E) (hs : List (Home T)) (l m : Homes T) → Stands hs l
      → OnErr r (m.list.items ≡ l.list.items) → (m.first ≡ l.first) × (m.audited ≡ l.audited) → (Q : Type 0)
      → (Stands hs m → Q) → OnErr r Q
  same_of (Ok u) hs l m s same first Q f = tt
  same_of (Err e) hs l m s same first Q f = f (stands_same hs l m s same first)

-- what follows either way
pub of_either : {A E : Type 0} (P R Q : Type 0) (r : Result A E) → IfOk r (λ _. P) → OnErr r R → (P → Q) → (R → Q) → Q
of_either P R Q (Ok a) p e f g = f p
of_either P R Q (Err e) p q f g = g q
