-- Ends are made from one another and given back.
use Rattle.std.proofs.Common.{ℕ, Bool, true, false, true≢false, List, [], length, sym, refl, ap, subst, inl, inr, ⊎_elim, arith}
use Rattle.std.proofs.Common.{◌≡◌, ◌≢◌, ◌<◌, ◌≤◌, ◌⊎◌, ◌||◌, ◌∷◌, ◌++◌, ◌∙◌}
use Rattle.std.specs.Prelude.{None, Option, Some, is_some, slice_set}
use mathlib.Core.Option.{some}
use lib.ListN.{get_elem?}
use Rattle.atomic_table.specs.Table.{Splits, Joins}
use Rattle.atomic_table.proofs.Lists.{at_set, set_else, set_here, at_longer}
use Rattle.mb_channel.specs.Types.{Home, Knows, Past}
use Rattle.mb_channel.specs.Homes.{AllPast, AreNamed, Fits, IsSpent, Keeps, Made, NobodyTold, PastFits, FitsEnd}
use Rattle.mb_channel.specs.Homes.{both, count, how_many, is_in, made_by, newborn_view, past_of}
use Rattle.mb_channel.specs.Homes.{receives, rights, sends, spent_view, splits_off, tallies, told_or, total}
use Rattle.std.proofs.lemmas.Bool.{or_left, or_right}
use Rattle.mb_channel.proofs.Members.{lock_views}
use Rattle.mb_channel.proofs.Moves.{ended_stay, grows_same, has_part, nobody_else, nobody_set, not_back, not_spent, told_same}
use Rattle.mb_channel.proofs.Remembers.{some_joined, some_longer, still_remembers}
use Rattle.mb_channel.proofs.Views.{all_zero, how_many_append, in_none, once_more, past_append, past_count_append, past_map, size_set, size_snoc, snoc_cases, there, total_set, total_snoc}

one_is : (a b : Bool) → a || b ≡ true → (a ≡ true) ⊎ (b ≡ true)
one_is true b e = inl refl
one_is false b e = inr e

told_is : (a b : Option ℕ) (n : ℕ) → told_or a b ≡ Some n → (a ≡ Some n) ⊎ (b ≡ Some n)
told_is None b n e = inr e
told_is (Some m) b n e = inl e

module _ {T : Type 0} where
  pub knows_nothing : (hs : List (Home T)) (mark : ℕ) (views : List (Knows T)) (u : Knows T) → u.is_open ≡ false
      → u.may_add ≡ false → u.alone ≡ false → u.shut ≡ false → u.last ≡ None → u.at ≡ 0 → FitsEnd hs mark views u
  knows_nothing hs mark views u o a b c d here = record {
    is_open = λ q. absurd (true≢false (sym q ∙ o));
    may_add = λ q. absurd (true≢false (sym q ∙ a));
    alone = λ q. absurd (true≢false (sym q ∙ b));
    shut = λ q. absurd (true≢false (sym q ∙ c));
    over = λ q j lt. absurd (omega arith);
    last = λ n q. absurd (true≢false (ap is_some (sym q ∙ d)));
  }

  fits_longer : (hs : List (Home T)) (all : List (Made T)) (views : List (Knows T)) (w : Knows T) (j : ℕ)
      (u : Knows T) → Fits hs all views j u → Fits hs all (views ++ w ∷ []) j u
  fits_longer hs all views w j u f = record {
    named = f.named;
    falls = f.falls;
    names = f.names;
    near = f.near;
    inside = f.inside;
    takes = f.takes;
    newborn = f.newborn;
    idle = f.idle;
    ended = past_map (PastFits all views) (PastFits all (views ++ w ∷ [])) u.ended
        (λ p x. (x.0, x.1, (x.2.0, at_longer views (w ∷ []) p.number x.2.0 x.2.1, x.2.2))) f.ended;
  }

  pub splits : (id : ℕ) (v : Knows T) (a b : ℕ) → 1 < v.rights → a ≤ v.sends → b ≤ v.receives
      → Splits Keeps id v (splits_off a b v) (newborn_view a b v)
  splits id v a b part some_ some' s k at =
      let w = splits_off a b v in
      let new = newborn_view a b v in
      let one : List (Knows T) = slice_set s.views id w in
      let f = k.fits id v at in
      let l = size_set s.views id w in
      let old : (j : ℕ) (u : Knows T) → get_elem? one j ≡ some u → Fits k.homes k.all one j u = λ j u e. ⊎_elim
      (λ (t : (j ≡ id) × (w ≡ u)). subst (λ (z : ℕ × Knows T). Fits k.homes k.all one z.0 z.1) (λ i. (
        sym t.0 i,
        t.1 i,
      )) record {
        named = f.named;
        falls = f.falls;
        names = f.names;
        near = f.near;
        inside = f.inside;
        takes = f.takes;
        newborn = λ l. let x = f.newborn l in (x.0, x.1, x.2, λ _. x.3 (omega arith));
        idle = λ z. absurd (omega arith);
        ended = ended_stay s k id v w at (omega arith) k.all (λ n _. refl);
      })
      (λ (t : (j ≢ id) × (get_elem? s.views j ≡ some u)). let g = k.fits j u t.1 in record {
        named = g.named;
        falls = g.falls;
        names = g.names;
        near = g.near;
        inside = g.inside;
        takes = g.takes;
        newborn = g.newborn;
        idle = g.idle;
        ended = past_map (PastFits k.all s.views) (PastFits k.all one) u.ended
            (λ p x. let ne = not_spent s.views id v at (omega arith) p.number x.2 in
            (x.0, x.1, (x.2.0, set_else s.views id p.number w ne ∙ x.2.1, x.2.2))) g.ended;
      })
      (at_set s.views id j w u e) in
      let r = total_set rights s.views id v w at in let r' = total_snoc rights one new in
      let x = total_set sends s.views id v w at in let x' = total_snoc sends one new in
      let y = total_set receives s.views id v w at in let y' = total_snoc receives one new in
      let rights' : total rights s.views ≡ total rights (one ++ new ∷ []) = omega arith in
      let sends' : total sends s.views ≡ total sends (one ++ new ∷ []) = omega arith in
      let receives' : total receives s.views ≡ total receives (one ++ new ∷ []) = omega arith in
      let words : tallies s.views k.mark ≡ tallies (one ++ new ∷ []) k.mark =
      (λ i. rights' i ∷ sends' i ∷ receives' i ∷ k.mark ∷ []) in
      let nobody : NobodyTold s.views → NobodyTold (one ++ new ∷ []) = λ n j u e. ⊎_elim
      (λ there_. nobody_set s.views id v w at refl n j u there_)
      (λ (t : (j ≡ length one) × (new ≡ u)). ap (λ (z : Knows T). z.last) (sym t.1) ∙ n id v at)
      (snoc_cases one new u j e) in
      let tells : (u : Knows T) → FitsEnd k.homes k.mark s.views u → FitsEnd k.homes k.mark (one ++ new ∷ []) u =
      λ u t. told_same k.homes k.homes k.mark s.views (one ++ new ∷ []) u (grows_same k.homes) refl
      (λ q. sym sends' ∙ q) (λ _. nobody) t in
      record {
        homes = k.homes;
        all = k.all;
        mark = k.mark;
        lock = lock_views s k.homes k.mark k.mark s.words (one ++ new ∷ []) (λ lock e. e ∙ ap (λ l. lock ∷ l) words)
            (λ j u e on. ⊎_elim
            (λ there_. ⊎_elim (λ (t : (j ≡ id) × (w ≡ u)). (
              v,
              ap (get_elem? s.views) t.0 ∙ at,
              ap (λ
                  (z : Knows T). z.holds) t.1 ∙ on,
              ap (λ (z : Knows T). z.before) t.1,
            ))
            (λ (t : (j ≢ id) × (get_elem? s.views j ≡ some u)). (u, t.1, on, refl)) (at_set s.views id j w u there_))
            (λ (t : (j ≡ length one) × (new ≡ u)). absurd (true≢false (sym on ∙ ap (λ (z : Knows T). z.holds)
            (sym t.1))))
            (snoc_cases one new u j e))
            k.lock;
        leads = k.leads;
        agrees = k.agrees;
        told = λ j u e. ⊎_elim
            (λ there_. ⊎_elim
            (λ (t : (j ≡ id) × (w ≡ u)). subst (λ (z : Knows T). FitsEnd k.homes k.mark (one ++ new ∷ []) z) t.1
            (let x = tells v (k.told id v at) in record {
              is_open = x.is_open;
              may_add = x.may_add;
              alone = x.alone;
              shut = x.shut;
              over = x.over;
              last = x.last;
            }))
            (λ (t : (j ≢ id) × (get_elem? s.views j ≡ some u)). tells u (k.told j u t.1))
            (at_set s.views id j w u there_))
            (λ (t : (j ≡ length one) × (new ≡ u)). subst (λ (z : Knows T). FitsEnd k.homes k.mark (one ++ new ∷ []) z)
            t.1 (let x = tells v (k.told id v at) in record {
              is_open = λ q. absurd (true≢false (sym q));
              may_add = λ q. absurd (true≢false (sym q));
              alone = x.alone;
              shut = x.shut;
              over = x.over;
              last = x.last;
            }))
            (snoc_cases one new u j e);
        known = (let r = still_remembers k.mark k.mark (total sends s.views) (total sends (one ++ new ∷ [])) s.views id
            v w at (λ q. q) (λ q. q) (λ z. z) (λ z. sends' ∙ z) k.known in record {
              closer = λ z. some_longer (λ u. u.shut ≡ true) one new (r.closer z);
              loner = λ z. some_longer (λ u. u.alone ≡ true) one new (r.loner z);
            });
        balance = λ g. (let a = total_set (count g) s.views id v w at in let b = total_snoc (count g) one new in
            let r = k.balance g in omega arith);
        once = λ n. (let a = total_set (λ u. how_many n u.ended) s.views id v w at in
            let b = total_snoc (λ u. how_many n u.ended) one new in let r = k.once n in omega arith);
        crowd = λ m h e. (let a = total_set (is_in m) s.views id v w at in let b = total_snoc (is_in m) one new in
            let r = k.crowd m h e in omega arith);
        fresh = λ n long. (let m = size_snoc one new in k.fresh n (omega arith));
        fits = λ j u e. ⊎_elim
            (λ there_. fits_longer k.homes k.all one new j u (old j u there_))
            (λ (t : (j ≡ length one) × (new ≡ u)).
            let x = k.fresh j (let q = t.0 in omega arith) in
            subst (λ (z : Knows T). Fits k.homes k.all (one ++ new ∷ []) j z) t.1 record {
              named = λ l. absurd (true≢false (sym l));
              falls = tt;
              names = (tt, tt);
              near = f.near;
              inside = λ l. absurd (true≢false (sym l));
              takes = f.takes;
              newborn = λ _. (refl, refl, refl, λ _. x);
              idle = λ z. absurd (omega arith);
              ended = tt;
            })
            (snoc_cases one new u j e);
      }

  still_spent : (views : List (Knows T)) (id : ℕ) (v w : Knows T) → get_elem? views id ≡ some v → 0 < v.rights
      → (n : ℕ) → IsSpent views n
      → (n ≢ id) × IsSpent (slice_set views id w) n
  still_spent views id v w at part n spent = let ne = not_spent views id v at part n spent in
      (ne, (spent.0, set_else views id n w ne ∙ spent.1, spent.2))

  -- end `other` is given back to end `id`
  pub joins : (id : ℕ) (v : Knows T) (other : ℕ) (w : Knows T) → v.live ≡ true → w.live ≡ true → w.holds ≡ false
      → w.inside ≡ false
      → Joins Keeps id v other w (both v w) spent_view
  joins id v other w live live' lets out s k at apart at2 =
      let one : List (Knows T) = slice_set s.views id (both v w) in
      let two : List (Knows T) = slice_set one other spent_view in
      let was : get_elem? s.views other ≡ some w = sym (set_else s.views id other (both v w) apart) ∙ at2 in
      let f = k.fits id v at in
      let g = k.fits other w was in
      let part = has_part k.homes k.all s.views id v f live in
      let part' = has_part k.homes k.all s.views other w g live' in
      let spent : (n : ℕ) → IsSpent s.views n → IsSpent two n = λ n sp. (
      let a = still_spent s.views id v (both v w) at part n sp in
      (still_spent one other w spent_view at2 part' n a.1).1
      ) in
      let pasts : (ps : List (Past T)) → AllPast (PastFits k.all s.views) ps → AllPast (PastFits k.all two) ps =
      λ ps. past_map (PastFits k.all s.views) (PastFits k.all two) ps (λ p x. (x.0, x.1, spent p.number x.2)) in
      let gone : get_elem? two other ≡ some spent_view = set_here one other spent_view (there one other w at2) in
      let theirs : PastFits k.all two (past_of w) = (
      let n = g.named live' in (
        n.1 ∙ ap (λ i. made_by i k.all) (sym n.0),
        (w.at, g.falls),
        (
          spent_view,
          ap (get_elem? two) n.0 ∙ gone,
          refl,
        ),
      )
      ) in
      let r = total_set rights s.views id v (both v w) at in let r' = total_set rights one other w spent_view at2 in
      let x = total_set sends s.views id v (both v w) at in let x' = total_set sends one other w spent_view at2 in
      let y = total_set receives s.views id v (both v w) at in
      let y' = total_set receives one other w spent_view at2 in
      let rights' : total rights s.views ≡ total rights two = omega arith in
      let sends' : total sends s.views ≡ total sends two = omega arith in
      let receives' : total receives s.views ≡ total receives two = omega arith in
      let words : tallies s.views k.mark ≡ tallies two k.mark =
      (λ i. rights' i ∷ sends' i ∷ receives' i ∷ k.mark ∷ []) in
      let nobody : NobodyTold s.views → NobodyTold two = λ n. nobody_else one other spent_view refl
      (nobody_else s.views id (both v w) (ap (λ o. told_or o w.last) (n id v at) ∙ n other w was) n) in
      let tells : (u : Knows T) → FitsEnd k.homes k.mark s.views u → FitsEnd k.homes k.mark two u =
      λ u t. told_same k.homes k.homes k.mark s.views two u (grows_same k.homes) refl (λ q. sym sends' ∙ q)
      (λ _. nobody) t in
      record {
        homes = k.homes;
        all = k.all;
        mark = k.mark;
        lock = lock_views s k.homes k.mark k.mark s.words two (λ lock e. e ∙ ap (λ l. lock ∷ l) words)
            (λ j u e on. ⊎_elim
            (λ (t : (j ≡ other) × (spent_view ≡ u)). absurd (true≢false (sym on ∙ ap (λ (z : Knows T). z.holds)
            (sym t.1))))
            (λ (t : (j ≢ other) × (get_elem? one j ≡ some u)). ⊎_elim
            (λ (q : (j ≡ id) × (both v w ≡ u)). (
              v,
              ap (get_elem? s.views) q.0 ∙ at,
              ap (λ (z : Knows T). z.holds) q.1
                  ∙ on,
              ap (λ (z : Knows T). z.before) q.1,
            ))
            (λ (q : (j ≢ id) × (get_elem? s.views j ≡ some u)). (u, q.1, on, refl))
            (at_set s.views id j (both v w) u t.1))
            (at_set one other j spent_view u e))
            k.lock;
        leads = k.leads;
        agrees = k.agrees;
        told = λ j u e. ⊎_elim
            (λ (t : (j ≡ other) × (spent_view ≡ u)). subst (λ (z : Knows T). FitsEnd k.homes k.mark two z) t.1
            (knows_nothing k.homes k.mark two spent_view refl refl refl refl refl refl))
            (λ (t : (j ≢ other) × (get_elem? one j ≡ some u)). ⊎_elim
            (λ (q : (j ≡ id) × (both v w ≡ u)). subst (λ (z : Knows T). FitsEnd k.homes k.mark two z) q.1
            (let x = tells v (k.told id v at) in let y = tells w (k.told other w was) in record {
              is_open = x.is_open;
              may_add = x.may_add;
              alone = λ is. ⊎_elim x.alone y.alone (one_is v.alone w.alone is);
              shut = λ is. ⊎_elim x.shut y.shut (one_is v.shut w.shut is);
              over = x.over;
              last = λ n is. ⊎_elim (x.last n) (y.last n) (told_is v.last w.last n is);
            }))
            (λ (q : (j ≢ id) × (get_elem? s.views j ≡ some u)). tells u (k.told j u q.1))
            (at_set s.views id j (both v w) u t.1))
            (at_set one other j spent_view u e);
        known = record {
          closer = λ z. some_joined (λ u. u.shut ≡ true) s.views id other v w (both v w) spent_view at was apart
              (or_left v.shut w.shut) (or_right v.shut w.shut) (k.known.closer z);
          loner = λ z. some_joined (λ u. u.alone ≡ true) s.views id other v w (both v w) spent_view at was apart
              (or_left v.alone w.alone) (or_right v.alone w.alone) (k.known.loner (sends' ∙ z));
        };
        balance = λ m. (
            let a = total_set (count m) s.views id v (both v w) at in let b = total_set
            (count m) one other w spent_view at2 in
            let e = past_count_append m v.ended (past_of w ∷ w.ended) in let r = k.balance m in omega arith
            );
        once = λ n. (
            let a = total_set (λ u. how_many n u.ended) s.views id v (both v w) at in
            let b = total_set (λ u. how_many n u.ended) one other w spent_view at2 in
            let e = how_many_append n v.ended (past_of w ∷ w.ended) in
            once_more (past_of w) n (total (λ u. how_many n u.ended) s.views) (total (λ u. how_many n u.ended) two)
            (omega arith) (k.once n) (λ q. all_zero (λ u. how_many n u.ended) s.views
            (λ j u at'. ap (λ i. how_many i u.ended) (sym q ∙ (g.named live').0)
            ∙ not_back s k other w was part' j u at'))
            );
        crowd = λ m h e. (
            let a = total_set (is_in m) s.views id v (both v w) at in
            let b = total_set (is_in m) one other w spent_view at2 in
            let c = in_none w m out in let r = k.crowd m h e in omega arith
            );
        fresh = λ n long. (let l = size_set s.views id (both v w) in let l' = size_set one other spent_view
            in k.fresh n (omega arith));
        fits = λ j u e. ⊎_elim
            (λ (t : (j ≡ other) × (spent_view ≡ u)). subst (λ (z : Knows T). Fits k.homes k.all two j z) t.1 record {
              named = λ l. absurd (true≢false (sym l));
              falls = tt;
              names = (tt, tt);
              near = inl refl;
              inside = λ l. absurd (true≢false (sym l));
              takes = λ _ j lt. absurd (omega arith);
              newborn = λ _. (refl, refl, refl, λ p. absurd (omega arith));
              idle = λ _. refl;
              ended = tt;
            })
            (λ (t : (j ≢ other) × (get_elem? one j ≡ some u)). ⊎_elim
            (λ (q : (j ≡ id) × (both v w ≡ u)). subst (λ (z : ℕ × Knows T). Fits k.homes k.all two z.0 z.1) (λ i.
            (sym q.0 i, q.1 i)) record {
              named = f.named;
              falls = f.falls;
              names = (
                f.names.0,
                past_append (λ p. AreNamed p.name p.visits) v.ended (past_of w ∷ w.ended) f.names.1
                    g.names,
              );
              near = f.near;
              inside = f.inside;
              takes = f.takes;
              newborn = λ l. absurd (true≢false (sym live ∙ l));
              idle = λ z. absurd (omega arith);
              ended = past_append (PastFits k.all two) v.ended (past_of w ∷ w.ended) (pasts v.ended f.ended) (
                theirs,
                pasts w.ended g.ended,
              );
            })
            (λ (q : (j ≢ id) × (get_elem? s.views j ≡ some u)). let x = k.fits j u q.1 in record {
              named = x.named;
              falls = x.falls;
              names = x.names;
              near = x.near;
              inside = x.inside;
              takes = x.takes;
              newborn = x.newborn;
              idle = x.idle;
              ended = pasts u.ended x.ended;
            })
            (at_set s.views id j (both v w) u t.1))
            (at_set one other j spent_view u e);
      }
