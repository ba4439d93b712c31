-- `allocate` of a faulty heap returns `Err` if its book (the counters) refuses. Else it returns what the inner one
-- returns, and counts a block if there is one. This holds in any `Logic` of the kit.
use Rattle.std.proofs.Common.{◌≡◌, ℕ, ◌+◌, ◌^◌, ◌<◌, Bool, true, false, List, [], ◌∷◌, Ok, Err, refl, sym, subst, w64, Bor}
use contract.Running.{tables, tables_of}
use Rattle.std.proofs.alloc.Calls.{Al, α, seen, Answer, answer_val, Answer-typed, Answer-Ok, Answer-err, takes_key, Takes, at_takes, Answered, Takes-goes, Takes-gives, answers}
use Rattle.std.proofs.alloc.Shapes.{after, front, arm_body}
use Rattle.test_alloc.proofs.Statements.{Ura, Ty, Args, Fn, a_type, ty_unit, dnil, dcons, Val, vbool, vint, vptr, vunit, has_ty, WT, inst_fn, T, SProp, ent, sep, id⊢, Lft, Share, ftrue}
use Rattle.test_alloc.proofs.Statements.{flft, Memory, size, align, capped, up, Routine, Env, Wp, WpFn, Tables, after_seq, at_return, Logic, sem, ◌⊑◌, ⊑_trans, Fun, fact, fm_of, WpFn-mono}
use Rattle.test_alloc.proofs.Contracts.{usize, RefOf, yes, bounded, param, uint_vals, uint_Tells, owns, block_ptr, shr_vals, Slot, plain, types_at, Ended, Clauses, triple_of, Triple}
use Rattle.test_alloc.proofs.Contracts.{entered, cited, Stays, stay_dropped, walk_of, ends_at, walked, Goes-dropped, walk_Meets}
use Rattle.test_alloc.proofs.Walking.{‵, raw, ◌⊛◌, some, later, given, at_ret, any_q, After, ◌$◌, ◌∵◌, !, qed, by, move, keep, use0, use1, use2, split, join, pick, learn, fsplit, fjoin}
use Rattle.test_alloc.proofs.Walking.{suffices, await, done, vrt, agg, whole, stop, fld, addr, lit, of_opd, no_more, and_then, first, branches, switches_on, skips, exec, returns}
use Rattle.test_alloc.proofs.Walking.{returns_within, enter, alloc_all, pass_all, free_all, look_at, get, get_tag, through, sets, lands_as, lands_last, env, shr_dup, unhide, heard, nothing}
use Rattle.test_alloc.proofs.Walking.{calls_at, calls_at_last}
use Rattle.test_alloc.proofs.Books.{seen_book, Refuses, at_refuses, Refuses-goes, Refuses-gives, Gives, at_gives, Gives-goes, Gives-gives}
use Rattle.test_alloc.proofs.counters.Counters as book
use Rattle.test_alloc.specs.contracts.counters.Counters as book_row
use Rattle.test_alloc.specs.contracts.faulty.FaultyHeap as row
use Rattle.test_alloc.specs.contracts.faulty.FaultyHeapAllocator.allocate as F
use Rattle.test_alloc.specs.contracts.faulty.FaultyHeapAllocator.allocate.Key as key
use Rattle.test_alloc.proofs.faulty.FaultyHeapAllocator.allocate.Statement as stated
use Rattle.test_alloc.proofs.faulty.FaultyHeapAllocator.allocate.Code as code

-- the function at this inner allocator, and its parameters
module _ (Z : Al) where
  abbrev args : Args
  args = bounded (a_type ∷ []) (Z.row, tt) (dcons Z.d (dcons Z.drops dnil))

  abbrev here : Fn
  here = inst_fn args code.function

  abbrev self : Slot 2
  self = RefOf (0 ∷ []) tt (plain (λ _. row.the_row (param 0 Z.row))) (λ _. tt)

  abbrev number : Slot 2
  number = plain (λ _. usize)

  abbrev ended : Ended
  ended = F.ended Z.row Z.g Z.d Z.drops

  abbrev stayed : Stays ended.signature.params ended.kept
  stayed = (stay_dropped self yes, (stay_dropped number yes, (stay_dropped number yes, tt)))

module _ (Z : Al) {M : Type 1} {𝓤 : Ura M} (𝓛 : Logic 𝓤) (at_mem : Memory → SProp 𝓤)
    (run : Routine → Fun 𝓤) (𝓣 : Tables 𝓤 𝓛.H)
    (inner : Triple 𝓤 (𝓣.C (takes_key Z)) (Takes Z 𝓛 at_mem run))
    (asks : Triple 𝓤 (𝓣.C book.refuses.Symbol.name) (Refuses 𝓛 at_mem run))
    (tells : Triple 𝓤 (𝓣.C book.gives.Symbol.name) (Gives 𝓛 at_mem run)) where
  open 𝓛 use {H, A}

  abbrev held : Clauses 𝓤 (ended Z)
  held = F.clauses Z.row Z.g Z.d Z.drops 𝓛 at_mem run

  module _ (κ₁ κ₂ : Lft) (q₁ q₂ : Share) (inn : κ₁ ⊑ κ₂) (r : Bor (row.the_row Z.row).Denot) (n a : ℕ) (τ : Ty) where
    -- what a call is entered with: lifetimes, shares, arguments and their values
    abbrev bound : (walk_of 𝓛 (ended Z) (stayed Z) held).Ghost
    bound = (
      (
        (κ₁, (κ₂, tt)),
        (q₁, (q₂, tt)),
        (inn, tt),
        (r, (n, (a, tt))),
        (shr_vals r, (vint w64 n ∷ [], (vint w64 a ∷ [], tt))),
      ),
      τ,
    )

    -- what has to hold of the value that is returned
    abbrev Post : Val → SProp 𝓤
    Post = (walk_of 𝓛 (ended Z) (stayed Z) held).post bound

    -- the values of the arguments
    abbrev vs : List Val
    vs = vptr r.ref_ptr.0 r.ref_ptr.1 ∷ vint w64 n ∷ vint w64 a ∷ []

    -- to return `Err` keeps the contract
    answers_err : ent 𝓤 (sep 𝓤 (A.lft κ₁ q₁) (sep 𝓤 (A.lft κ₂ q₂) (sem 𝓛 ftrue))) (Post (answer_val false 0 0))
    answers_err =
        qed 𝓛 (‵ (flft κ₁ q₁) ∷ (‵ (flft κ₂ q₂) ⊛ ‵ ftrue) ∷ []) ∵ nothing ! $
        suffices ! _ (ends_at 𝓛 (ended Z) (stayed Z) held bound (answer_val false 0 0)
        (Err (record {})) (tt, (tt, (tt, tt))) (tt, (tt, (tt, tt)))) $
        use0 𝓛 (‵ (Answer.own_val (Err (record {})) (answer_val false 0 0 ∷ []))) (Answer-err 𝓛) $
        nothing ! $ nothing ! $ fjoin ! $ nothing ! $ fjoin ! $ nothing ! $ fjoin ! $ join ! $
        move ! (2 ∷ 3 ∷ []) $ join ! $ join ! $ done !

    -- if what the contract requires holds at entry, what it ensures holds at the end
    walk : n < 2 ^ 64 → a < 2 ^ 64 → ent 𝓤 ((walk_of 𝓛 (ended Z) (stayed Z) held).pre bound)
        (WpFn 𝓤 H 𝓣.C 𝓣.Λ (here Z) vs Post)
    walk fn fa =
        let h : Z.row.Denot = r.now.inner in
        let p : ℕ × ℕ = (r.ref_ptr.0, r.ref_ptr.1 + up (align (α Z)) 0) in
        let c : ℕ × ℕ = (r.ref_ptr.0, r.ref_ptr.1 + up 8 (up (align (α Z)) 0 + size (α Z))) in
        let y : (Takes Z 𝓛 at_mem run).Ghost = at_takes Z 𝓛 at_mem run κ₁ q₁ p h n a τ in
        let Said : Type 0 = (capped (size τ) ≡ n) × (capped (align τ) ≡ a) in
        qed 𝓛 (((‵ (flft κ₁ q₁) ⊛ ‵ (flft κ₂ q₂) ⊛ ‵ ftrue) ⊛ ‵
        (owns (types_at (ended Z).signature.params bound.0.0) bound.0.3 bound.0.4))
        ∷ (raw (fact 𝓤 (κ₂ ⊑ Z.row.lives)) ⊛ raw (fact 𝓤 Said)) ∷ []) ∵
        move ! (1 ∷ []) $ split ! $ heard ! (κ₂ ⊑ Z.row.lives) (λ le. heard ! Said (λ said.
        split ! $ split ! $ move ! (2 ∷ []) $ fsplit ! $ fsplit ! $ move ! (1 ∷ []) $ unhide ! $
        fsplit ! $ fsplit ! $ use1 𝓛 (‵ (seen Z κ₁ p h)) (id⊢ 𝓤 _) $ move ! (1 ∷ []) $ fsplit !
        $ keep ! (0 ∷ 6 ∷ 2 ∷ 7 ∷ []) $
        use1 𝓛 (‵ (seen_book κ₁ c r.now.book)) (id⊢ 𝓤 _) $
        shr_dup ! book_row.the_row book.TheLaws.the_row_laws.shr_laws r.now.book c.0 c.1 κ₁ $
        move ! (0 ∷ 2 ∷ []) $
        enter ! 𝓣.C 𝓣.Λ (here Z) vs _ $ alloc_all ! (λ l.
        let En : Env 𝓤 H = env (here Z).locals l in
        let Then : After 𝓤 H = any_q (after_seq 𝓤 H
        (Wp 𝓤 H 𝓣.C 𝓣.Λ En (after 6 (here Z).body) (at_return 𝓤 H En Post))
        (at_return 𝓤 H En Post)) in
        pass_all ! refl ((tt, tt), ((tt, record { fits = fn }), ((tt, record { fits = fa }), tt))) $
        sets ! (addr ! (through ! refl (fld ! refl (stop !)))) refl (tt, tt) $
        use2 𝓛 (raw ((Refuses 𝓛 at_mem run).pre (at_refuses 𝓛 at_mem run κ₁ q₁ c r.now.book)))
        (Refuses-goes 𝓛 at_mem run κ₁ q₁ c r.now.book) $
        calls_at ! (fm_of 𝓤 H 𝓛.laws 𝓣) (Refuses 𝓛 at_mem run) asks
        (at_refuses 𝓛 at_mem run κ₁ q₁ c r.now.book) (and_then ! (get ! refl) (no_more !)) (λ u.
        use1 𝓛 (later (some (λ (z : Bool). given (u ≡ vbool z) (‵ (flft κ₁ q₁)))))
        (Refuses-gives 𝓛 at_mem run κ₁ q₁ c r.now.book u) $
        await ! tt $ pick ! (λ z. learn ! (λ eu. lands_as ! eu refl (tt, tt) $
        first ! $ branches ! (get ! refl)
        (λ t. sets ! (agg ! (no_more !)) refl (tt, tt) $
        sets ! (agg ! (and_then ! (lit ! tt) (and_then ! (get ! refl) (no_more !)))) refl (Answer-typed false 0 0) $
        returns_within ! Post refl (look_at ! 0 refl) $ free_all ! refl $ keep ! (0 ∷ 3 ∷ []) $ by ! answers_err)
        (λ t. skips ! $ exec ! 𝓣.C 𝓣.Λ En (after 3 (here Z).body) (at_ret En Post) $
        move ! (2 ∷ 0 ∷ []) $ sets ! (addr ! (through ! refl (fld ! refl (stop !)))) refl (tt, tt) $
        use2 𝓛 (raw ((Takes Z 𝓛 at_mem run).pre y))
        (Takes-goes Z 𝓛 at_mem run κ₁ q₁ p h (⊑_trans κ₁ κ₂ Z.row.lives inn le) n a τ said.0
        said.1 fn fa) $
        calls_at ! (fm_of 𝓤 H 𝓛.laws 𝓣) (Takes Z 𝓛 at_mem run) inner y
        (and_then ! (get ! refl) (and_then ! (get ! refl)
        (and_then ! (get ! refl) (no_more !)))) (λ v.
        use1 𝓛 (later (raw (Answered Z 𝓛 at_mem run h τ v) ⊛ ‵ (flft κ₁ q₁)))
        (Takes-gives Z 𝓛 at_mem run κ₁ q₁ p h n a τ v) $ await ! tt $ split ! $
        answers Z ! at_mem run h τ v
        (λ b o e. fjoin ! $ lands_as ! e refl (Answer-typed true b o) $
        first ! $ switches_on ! (get_tag ! (vrt ! refl (fld ! refl (stop !))) (whole !)) $ exec !
        𝓣.C 𝓣.Λ En (arm_body 0 (front (after 5 (here Z).body))) Then $
        move ! (2 ∷ 1 ∷ []) $ sets ! (addr ! (through ! refl (fld ! refl (stop !)))) refl (tt, tt) $
        use2 𝓛 (raw ((Gives 𝓛 at_mem run).pre (at_gives 𝓛 at_mem run κ₁ q₁ c r.now.book)))
        (Gives-goes 𝓛 at_mem run κ₁ q₁ c r.now.book) $
        calls_at_last ! (fm_of 𝓤 H 𝓛.laws 𝓣) (Gives 𝓛 at_mem run) tells
        (at_gives 𝓛 at_mem run κ₁ q₁ c r.now.book) (and_then ! (get ! refl) (no_more !)) (λ w.
        use1 𝓛 (later (given (w ≡ vunit) (‵ (flft κ₁ q₁))))
        (Gives-gives 𝓛 at_mem run κ₁ q₁ c r.now.book w) $ await ! tt $ learn ! (λ ew.
        lands_last ! refl (subst (λ (x : Val). T (has_ty ty_unit x) × WT x) (sym ew) (tt, tt)) $
        exec ! 𝓣.C 𝓣.Λ En (after 6 (here Z).body) (at_ret En Post) $
        sets ! (of_opd ! (get ! refl)) refl (Answer-typed true b o) $ returns ! (look_at ! 0 refl) $
        free_all ! refl $ move ! (1 ∷ 0 ∷ []) $
        suffices ! _ (ends_at 𝓛 (ended Z) (stayed Z) held bound (answer_val true b o)
        (Ok (block_ptr b o)) (tt, (tt, (tt, tt))) (tt, (tt, (tt, tt)))) $
        use0 𝓛 (‵ (Answer.own_val (Ok (block_ptr b o)) (answer_val true b o ∷ [])))
        (Answer-Ok 𝓛 b o) $ nothing ! $ nothing ! $ fjoin ! $ nothing ! $ fjoin ! $ nothing ! $
        fjoin ! $ join ! $
        move ! (2 ∷ 3 ∷ []) $ join ! $ join ! $ done !)))
        (λ e. lands_as ! e refl (Answer-typed false 0 0) $
        first ! $ switches_on ! (get_tag ! (vrt ! refl (fld ! refl (stop !))) (whole !)) $ exec !
        𝓣.C 𝓣.Λ En (arm_body 1 (front (after 5 (here Z).body))) Then $ skips ! $
        exec ! 𝓣.C 𝓣.Λ En (after 6 (here Z).body) (at_ret En Post) $ sets ! (of_opd ! (get ! refl))
        refl (Answer-typed false 0 0) $
        returns ! (look_at ! 0 refl) $ free_all ! refl $ keep ! (0 ∷ 2 ∷ []) $ by ! answers_err)))))))))

-- the body keeps the contract of `allocate`
pub allocate_spec : {M : Type 1} → stated.statement M
unfolding tables_of
allocate_spec 𝓤 𝓛 𝓜 𝓡 wired Y L g d d' met _ =
    let Z : Al = record { row = Y; laws = L; g = g; d = d; drops = d' } in
    let 𝓣 : Tables 𝓤 𝓛.H = tables_of 𝓤 𝓛.H 𝓜 (tables 𝓤 𝓛.H 𝓜 𝓡 𝓡.env) in
    let c = F.clauses Y g d d' 𝓛 𝓜.mem 𝓡.returns in
    let goes = Goes-dropped 𝓛 2 (number Z) yes (λ κs x f. refl) in
    entered 𝓤 𝓛.H (triple_of 𝓛 (F.signature Y) (F.spec Y g d d' 𝓛 𝓜.mem 𝓡.returns)) 𝓣.C 𝓣.Λ
    (key.name (args Z)) (here Z) (code.unfolded 𝓤 𝓛.H 𝓜 𝓡 wired (Y, tt) d d')
    (walk_Meets 𝓛 (ended Z) (stayed Z)
    (Goes-dropped 𝓛 2 (self Z) yes (λ κs x f. refl), (goes, (goes, tt))) c
    (WpFn 𝓤 𝓛.H 𝓣.C 𝓣.Λ (here Z)) (WpFn-mono 𝓤 𝓛.H 𝓛.laws 𝓣 (here Z))
    (walked 𝓛 (ended Z) (stayed Z) c (WpFn 𝓤 𝓛.H 𝓣.C 𝓣.Λ (here Z))
    (λ κs. (shr_vals, (uint_vals w64, (uint_vals w64, tt))))
    (λ κs. ((λ r vs s. s.0), (uint_Tells w64, (uint_Tells w64, tt))))
    (λ κs qs bounds a τ are. walk Z 𝓛 𝓜.mem 𝓡.returns 𝓣 (met.allocate d')
    (cited 𝓤 𝓛.H _ 𝓜 𝓡 𝓡.env book.refuses.Symbol.name (𝓡.env book.refuses.Symbol.name) refl
    (book.refuses.Met.met 𝓤 𝓛 𝓜 𝓡 (code.calls-test_alloc::counters::Counters::refuses 𝓡.env wired)))
    (cited 𝓤 𝓛.H _ 𝓜 𝓡 𝓡.env book.gives.Symbol.name (𝓡.env book.gives.Symbol.name) refl
    (book.gives.Met.met 𝓤 𝓛 𝓜 𝓡 (code.calls-test_alloc::counters::Counters::gives 𝓡.env wired)))
    κs.0 κs.1.0 qs.0 qs.1.0 bounds.0 a.0 a.1.0 a.1.1.0 τ are.1.0.1 are.1.1.0.1)))
