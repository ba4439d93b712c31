-- What a consumer met and loaded on one lane, as its path there tells.
use Rattle.std.proofs.Common.{◌≡◌, ◌≢◌, ◌⊎◌, ℕ, ◌+◌, ◌<◌, true, false, List, [], ◌∷◌, Option, Some, None, refl, sym, ◌∙◌, ap, subst, inl, inr, arith}
use Rattle.std.specs.Prelude.{cond}
use Rattle.std.proofs.lemmas.Bool.{ne_eqb}
use Rattle.mb_cells.proofs.Names.{is_same_word-refl}
pub use Rattle.mb_cells.proofs.ReaderChains.{HasMet-more}
use Rattle.mb_world.specs.declared.report.Note.{Note}
use Rattle.mb_world.specs.Imports.{Claims, Counter, END, Gave, Has, HasMet, Head, History, IsGift, IsLinkWord, IsReaderPath, Item, Link, Load, MayRead}
use Rattle.mb_world.specs.Imports.{ObjectTurn, PoolAccess, Word, is_same_word, load, place_past, push_if}
use Rattle.mb_world.specs.Fitting.{cell_given, cells_met}
use Rattle.mb_world.specs.World.{WorldHistory, pool_accesses}
use Rattle.mb_world.specs.ConsumerPath.{ConsumerPath, begins, ends, finds, goes, takes, waits}
use Rattle.mb_world.proofs.Loads.{gift_past}

-- ---- what a load gives
-- a load of 0 or of the end mark leads to no cell
pub none_given : (v : ℕ) → (v ≡ 0) ⊎ (v ≡ END) → cell_given (Load v) ≡ None
none_given v (inl e) = rw e refl
none_given v (inr e) = rw e refl

-- a load of k + 1, which is no end mark, leads to cell k
pub one_given : (k : ℕ) → k + 1 ≢ END → cell_given (Load (k + 1)) ≡ Some k
one_given k ne = rw (ne_eqb (k + 1) 0 (λ e. omega (arith, e)), ne_eqb (k + 1) END ne) (ap Some (omega arith))

-- a load of 0 or of the end mark gives no cell
not_gift : (w : Word) (k v : ℕ) → (v ≡ 0) ⊎ (v ≡ END) → IsGift k w (Load v) → ⊥
not_gift Counter k v says g = g
not_gift (Head p) k v (inl e) g = absurd (omega (arith, g.0))
not_gift (Head p) k v (inr e) g = g.1 e
not_gift (Link p) k v (inl e) g = absurd (omega (arith, g.0))
not_gift (Link p) k v (inr e) g = g.1 e
not_gift (Item p) k v says g = g

-- a load of k + 1 gives no other cell than k
gift_is : (w : Word) (j k : ℕ) → IsGift j w (Load (k + 1)) → k ≡ j
gift_is Counter j k g = absurd g
gift_is (Head p) j k g = omega (arith, g.0)
gift_is (Link p) j k g = omega (arith, g.0)
gift_is (Item p) j k g = absurd g

-- ---- which cells one more load meets
-- if an access is to the link past the cells met before, the cell to which it leads, if any, is met next
pub met_there : (p : ℕ) (ks : List ℕ) (a : PoolAccess) (older : History) → cells_met p older ≡ ks
    → a.word ≡ place_past p ks
    → cells_met p (a ∷ older) ≡ push_if (cell_given a.act) ks
met_there p ks a older is at =
    ap (λ js. cond (is_same_word a.word (place_past p js)) (push_if (cell_given a.act) js) js) is
    ∙ ap (λ b. cond b (push_if (cell_given a.act) ks) ks)
    (subst (λ w. is_same_word w (place_past p ks) ≡ true) (sym at) (is_same_word-refl (place_past p ks)))

-- an access to another word than the link past the cells met, or the head if none was met, meets no cell
pub met_elsewhere : (p : ℕ) (a : PoolAccess) (older : History)
    → is_same_word a.word (place_past p (cells_met p older)) ≡ false
    → cells_met p (a ∷ older) ≡ cells_met p older
met_elsewhere p a older other =
    ap (λ b. cond b (push_if (cell_given a.act) (cells_met p older)) (cells_met p older)) other

-- the word of an item is not the link past cells, nor the head
item_elsewhere : (p k : ℕ) (ks : List ℕ) → is_same_word (Item k) (place_past p ks) ≡ false
item_elsewhere p k [] = refl
item_elsewhere p k (j ∷ ks) = refl

-- each load of a head or link is of the link past the cells met before it on lane p, or of the head if none was met
abbrev pub FollowsLane : ℕ → History → Type 0
FollowsLane p [] = Unit {0}
FollowsLane p (a ∷ older) = (IsLinkWord a.word → a.word ≡ place_past p (cells_met p older)) × FollowsLane p older

-- ---- what was met and loaded along a path
module _ (cs : Claims) (c : ℕ) where
  -- the cells to which the path leads were met
  pub path_met : {p : ℕ} {done : WorldHistory} {ks : List ℕ} {ns : List Note} {held : Option (List ObjectTurn)}
      → ConsumerPath cs c p done ks ns held → HasMet c p ks (pool_accesses done)
  path_met begins = tt
  path_met {p} (waits {older} {ks} {ns} {v} says s) =
      HasMet-more c p (pool_accesses older) (load c (place_past p ks) v ∷ pool_accesses older) ks (λ b m. inr m)
      (path_met s)
  path_met {p} (finds {older} {ks} {ns} {k} ne fresh s) = (
    inl refl,
    ne,
    HasMet-more c p (pool_accesses older) (load c (place_past p ks) (k + 1) ∷ pool_accesses older) ks (λ b m. inr m)
        (path_met s),
  )
  path_met (goes z q still s) = path_met s
  path_met (ends z q note s) = path_met s
  path_met {p} (takes {older} {ks} {ns} {k} {xs} {v} q s) =
      HasMet-more c p (pool_accesses older) (load c (Item k) v ∷ pool_accesses older) (k ∷ ks) (λ b m. inr m)
      (path_met s)

  -- the cells to which the path leads are all that its loads met
  pub path_cells : {p : ℕ} {done : WorldHistory} {ks : List ℕ} {ns : List Note} {held : Option (List ObjectTurn)}
      → ConsumerPath cs c p done ks ns held → cells_met p (pool_accesses done) ≡ ks
  path_cells begins = refl
  path_cells {p} (waits {older} {ks} {ns} {v} says s) =
      met_there p ks (load c (place_past p ks) v) (pool_accesses older) (path_cells s) refl
      ∙ ap (λ o. push_if o ks) (none_given v says)
  path_cells {p} (finds {older} {ks} {ns} {k} ne fresh s) =
      met_there p ks (load c (place_past p ks) (k + 1)) (pool_accesses older) (path_cells s) refl
      ∙ ap (λ o. push_if o ks) (one_given k ne)
  path_cells (goes z q still s) = path_cells s
  path_cells (ends z q note s) = path_cells s
  path_cells {p} (takes {older} {ks} {ns} {k} {xs} {v} q s) =
      met_elsewhere p (load c (Item k) v) (pool_accesses older) (item_elsewhere p k (cells_met p (pool_accesses older)))
      ∙ path_cells s

  -- each load of a link on the path is of the link past the cells met before it
  pub path_follows : {p : ℕ} {done : WorldHistory} {ks : List ℕ} {ns : List Note} {held : Option (List ObjectTurn)}
      → ConsumerPath cs c p done ks ns held → FollowsLane p (pool_accesses done)
  path_follows begins = tt
  path_follows {p} (waits says s) = ((λ _. ap (place_past p) (sym (path_cells s))), path_follows s)
  path_follows {p} (finds ne fresh s) = ((λ _. ap (place_past p) (sym (path_cells s))), path_follows s)
  path_follows (goes z q still s) = path_follows s
  path_follows (ends z q note s) = path_follows s
  path_follows (takes q s) = ((λ link. absurd link), path_follows s)

  -- the path's loads gave each cell to which it leads
  pub path_given : {p : ℕ} {done : WorldHistory} {ks : List ℕ} {ns : List Note} {held : Option (List ObjectTurn)}
      (k : ℕ)
      → ConsumerPath cs c p done ks ns held → Has ks k → Gave k (pool_accesses done)
  path_given k begins has = absurd has
  path_given k (waits says s) has = inr (path_given k s has)
  path_given {p} j (finds {older} {ks} {ns} {k} ne fresh s) (inl e) =
      inl (subst (λ i. IsGift i (place_past p ks) (Load (k + 1))) e (gift_past p ks k ne))
  path_given j (finds ne fresh s) (inr has) = inr (path_given j s has)
  path_given k (goes z q still s) has = path_given k s has
  path_given k (ends z q note s) has = path_given k s has
  path_given k (takes q s) has = inr (path_given k s has)

  -- each cell that the path's loads gave is one to which it leads
  pub path_gave : {p : ℕ} {done : WorldHistory} {ks : List ℕ} {ns : List Note} {held : Option (List ObjectTurn)} (j : ℕ)
      → ConsumerPath cs c p done ks ns held → Gave j (pool_accesses done) → Has ks j
  path_gave j begins g = absurd g
  path_gave {p} j (waits {older} {ks} {ns} {v} says s) (inl g) = absurd (not_gift (place_past p ks) j v says g)
  path_gave j (waits says s) (inr g) = path_gave j s g
  path_gave {p} j (finds {older} {ks} {ns} {k} ne fresh s) (inl g) = inl (gift_is (place_past p ks) j k g)
  path_gave j (finds ne fresh s) (inr g) = inr (path_gave j s g)
  path_gave j (goes z q still s) g = path_gave j s g
  path_gave j (ends z q note s) g = path_gave j s g
  path_gave j (takes q s) (inl g) = absurd g
  path_gave j (takes q s) (inr g) = path_gave j s g

  -- a reader that was given these cells may load the link past them
  may_past : (lanes p : ℕ) (d : History) (ks : List ℕ) → p < lanes → ((k : ℕ) → Has ks k → Gave k d)
      → MayRead lanes (place_past p ks) d
  may_past lanes p d [] below given = below
  may_past lanes p d (k ∷ ks) below given = given k (inl refl)

  -- the path's loads are a reader path
  pub path_reads : (lanes : ℕ) {p : ℕ} {done : WorldHistory} {ks : List ℕ} {ns : List Note} {held : Option
      (List ObjectTurn)}
      → p < lanes → ConsumerPath cs c p done ks ns held → IsReaderPath lanes (pool_accesses done)
  path_reads lanes below begins = tt
  path_reads lanes {p} below (waits {older} {ks} says s) =
      (tt, may_past lanes p (pool_accesses older) ks below (λ k has. path_given k s has), path_reads lanes below s)
  path_reads lanes {p} below (finds {older} {ks} ne fresh s) =
      (tt, may_past lanes p (pool_accesses older) ks below (λ k has. path_given k s has), path_reads lanes below s)
  path_reads lanes below (goes z q still s) = path_reads lanes below s
  path_reads lanes below (ends z q note s) = path_reads lanes below s
  path_reads lanes below (takes {older} {ks} {ns} {k} q s) = (tt, path_given k s (inl refl), path_reads lanes below s)
