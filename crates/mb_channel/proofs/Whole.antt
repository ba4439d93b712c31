-- The beginning of a list, and what its last end knows.
use Rattle.std.proofs.Common.{ℕ, zero, suc, Bool, true, false, true≢false, List, [], nat_eq, sym, refl, ap, subst, inl, ⊎_elim, arith, ne_eqb}
use Rattle.std.proofs.Common.{◌≡◌, ◌≢◌, ◌+◌, ◌∷◌, ◌∙◌, if◌then◌else◌}
use mathlib.Core.Option.{some, some-injective, some-ne-none}
use lib.ListN.{get_elem?}
use Rattle.atomic_table.specs.Table.{State, opening, Final, Seen}
use Rattle.mb_channel.specs.Types.{Home, Homes, Knows, Past}
use Rattle.mb_channel.specs.Homes.{Falls, Fits, IsNone, IsWhole, Keeps, Made, PastFits, Stands, FitsEnd}
use Rattle.mb_channel.specs.Homes.{count, first_view, how_many, is_in, made_by, made_count, out_of, past_count, past_of}
use Rattle.mb_channel.specs.Homes.{rights, times, total}
use Rattle.mb_channel.proofs.Freed.{all_homes}
use Rattle.mb_channel.proofs.Views.{in_none, once_more, only, past_map, two_below}
use Rattle.mb_channel.proofs.Back.{knows_nothing}
use Rattle.mb_channel.proofs.Moves.{has_part, not_back}

abbrev pub is_one : ℕ → ℕ → ℕ
is_one n m = if nat_eq m n then 1 else 0

no_times : {A : Type 0} (n : ℕ) (xs : List A) → n ≡ 0 → times n xs ≡ 0
no_times n [] e = refl
no_times n (x ∷ xs) e = let r = no_times n xs e in omega arith

module _ {T : Type 0} where
  first_is : (id : ℕ) (v : Knows T) → get_elem? {A = Knows T} (first_view ∷ []) id ≡ some v → v ≡ first_view
  first_is zero v at = sym (some-injective first_view v at)
  first_is (suc id) v at = absurd (some-ne-none v (sym at))

  pub opens : (l : Homes T) → l.list.items ≡ [] → l.first ≡ 0
      → Keeps (opening (0 ∷ 1 ∷ 1 ∷ 1 ∷ 1 ∷ []) (l ∷ []) first_view)
  opens l is none_freed = record {
    homes = [];
    all = [];
    mark = 1;
    lock = inl (
      l,
      refl,
      refl,
      record {
        gone = [];
        all = sym is;
        number = sym none_freed;
        freed = tt;
      },
      λ id v at. ap (λ (z : Knows T). z.holds) (first_is id v at),
    );
    leads = λ j lt. absurd (omega arith);
    agrees = record { here = λ k h at. absurd (some-ne-none h (sym at)); none_behind = λ k _. refl; turn = tt };
    told = λ id v at. subst (λ (z : Knows T). FitsEnd [] 1 (first_view ∷ []) z) (sym (first_is id v at))
        (knows_nothing [] 1 (first_view ∷ []) first_view refl refl refl refl refl refl);
    known = record { closer = λ z. absurd (omega arith); loner = λ z. absurd (omega arith) };
    balance = λ f. omega arith;
    once = λ n. omega arith;
    crowd = λ m h e. absurd (some-ne-none h (sym e));
    fresh = λ n long. refl;
    fits = λ id v at. subst (λ (z : Knows T). Fits [] [] (first_view ∷ []) id z) (sym (first_is id v at)) record {
      named = λ l. absurd (true≢false (sym l));
      falls = tt;
      names = (tt, tt);
      near = inl refl;
      inside = λ l. absurd (true≢false (sym l));
      takes = λ _ j lt. absurd (omega arith);
      newborn = λ _. (refl, refl, refl, λ _. refl);
      idle = λ z. absurd (omega arith);
      ended = tt;
    };
  }

  none_made : (n : ℕ) (all : List (Made T)) → made_count (is_one n) all ≡ 0 → made_by n all ≡ []
  none_made n [] e = refl
  none_made n (m ∷ ms) e = go (nat_eq m.by n) (none_made n ms) e
    where
      go : (b : Bool) → (made_count (is_one n) ms ≡ 0 → made_by n ms ≡ []) → (if b then 1 else 0) + made_count
          (is_one n) ms ≡ 0
          → (if b then m.visit ∷ made_by n ms else made_by n ms) ≡ []
      go true rec z = absurd (omega arith)
      go false rec z = rec (omega arith)

  no_past : (n : ℕ) (ps : List (Past T)) → IsNone n ps → past_count (is_one n) ps ≡ 0
  no_past n [] a = refl
  no_past n (p ∷ ps) a = let r = no_past n ps a.1 in
      let z = no_times (is_one n p.number) p.visits (ap (λ (b : Bool). if b then 1 else 0) (ne_eqb p.number n a.0))
      in omega arith

  pub knows : (s : State (Homes T) (Knows T)) (k : Keeps s) (id : ℕ) (v : Knows T) → get_elem? s.views id ≡ some v
      → v.live ≡ true → v.rights ≡ total rights s.views
      → IsWhole v k.homes
  knows s k id v at live every =
      let f = k.fits id v at in
      let n = f.named live in
      let nothing_else : (j : ℕ) (u : Knows T) → j ≢ id → get_elem? s.views j ≡ some u
      → (u.visits ≡ []) × (u.ended ≡ []) × (u.inside ≡ false) = λ j u ne at'. (
      let t = two_below rights s.views j id u v ne at' at in
      let x = k.fits j u at' in
      let none_left : u.rights ≡ 0 = omega arith in
      let e = x.idle none_left in (
        ap (λ (z : Knows T). z.visits) e,
        ap (λ (z : Knows T). z.ended) e,
        ap (λ (z : Knows T). z.inside) e,
      )
      ) in
      let none_else : (g : ℕ → ℕ) (j : ℕ) (u : Knows T) → j ≢ id → get_elem? s.views j ≡ some u → count g u ≡ 0 =
      λ g j u ne at'. (
      let b = nothing_else j u ne at' in
      let p : times (g u.number) u.visits ≡ 0 = ap (times (g u.number)) b.0 in
      let q : past_count g u.ended ≡ 0 = ap (past_count g) b.1 in
      omega arith
      ) in
      record {
        all = k.all;
        leads = k.leads;
        agrees = k.agrees;
        own = (n.1 ∙ ap (λ i. made_by i k.all) (sym n.0), f.falls);
        others = past_map (PastFits k.all s.views) (λ p. (p.visits ≡ made_by p.number k.all) × ((b : ℕ)
            × Falls b p.visits)) v.ended (λ p x. (x.0, x.1)) f.ended;
        once = λ m. (
            let a = only (λ u. how_many m u.ended) s.views id v at
            (λ j u ne at'. ap (how_many m) (nothing_else j u ne at').1) in
            let b = k.once m in
            once_more (past_of v) m (how_many m v.ended) (how_many m (past_of v ∷ v.ended)) refl (omega arith)
            (λ q. ap (λ i. how_many i v.ended) (sym q ∙ n.0)
            ∙ not_back s k id v at (has_part k.homes k.all s.views id v f live) id v at)
            );
        nobody = λ m ne none_. none_made m k.all (
            let a = only (count (is_one m)) s.views id v at (none_else (is_one m)) in
            let b = k.balance (is_one m) in
            let c = no_times (is_one m v.number) v.visits (ap (λ (b : Bool). if b then 1 else 0)
            (ne_eqb v.number m ne)) in
            let d = no_past m v.ended none_ in
            omega arith
            );
        empty = λ out. all_homes k.homes (λ h. out_of h ≡ 0) (λ m h e. (
            let a = only (is_in m) s.views id v at (λ j u ne at'. in_none u m (nothing_else j u ne at').2) in
            let b = k.crowd m h e in
            let c = in_none v m out in
            omega arith
            ));
      }

  -- what the last end knows once the channel is over
  pub closes : (id : ℕ) (v : Knows T) (ws : List ℕ) (xs : List (Homes T)) → Final (Seen Keeps id v) ws xs
      → v.live ≡ true
      → (lock ends : ℕ) (l : Homes T) → get_elem? ws 0 ≡ some lock → lock ≡ 0 → get_elem? ws 1 ≡ some ends
      → ends ≡ v.rights → get_elem? xs 0 ≡ some l
      → (hs : List (Home T)) × Stands hs l × IsWhole v hs
  closes id v ws xs fin live lock ends l at0 zero_ at1 every at =
      let s = fin.0 in let k = fin.1.0 in
      ⊎_elim
      (λ free.
      let here : get_elem? xs 0 ≡ some free.0 = fin.4 0 free.0 (ap (λ x. get_elem? x 0) free.2) in
      let same : l ≡ free.0 = some-injective l free.0 (sym at ∙ here) in
      let word : some ends ≡ some (total rights s.views) = sym at1 ∙ (ap (λ x. get_elem? x 1) (sym fin.2) ∙ ap
      (λ x. get_elem? x 1) free.1) in
      let n : ends ≡ total rights s.views = some-injective ends (total rights s.views) word in
      (k.homes, subst (λ x. Stands k.homes x) (sym same) free.3, knows s k id v fin.1.1 live (sym every ∙ n)))
      (λ held.
      let e : some lock ≡ some 1 = sym at0 ∙ (ap (λ x. get_elem? x 0) (sym fin.2) ∙ ap (λ x. get_elem? x 0) held.1) in
      let i : lock ≡ 1 = some-injective lock 1 e in
      absurd (omega arith))
      k.lock
