-- What a reader finds past the cells that it met on a lane, also on one that was returned before it was issued.
use Rattle.std.proofs.Common.{Bool, List, [], ap, append_assoc, arith, false, inl, inr, refl, subst, sym, true, ℕ, ◌++◌, ◌+◌, ◌<◌, ◌∙◌, ◌∷◌, ◌≡◌, ◌≢◌}
use Rattle.std.specs.Prelude.{Some, if◌then◌else◌, slice_get}
use Rattle.mb_cells.specs.Vocabulary.{Has, HasMet, History, IsPoolLawful, IsStart, has_ended, linked_cells, part, place_past, value_in}
use Rattle.mb_cells.specs.declared.access.PoolAct.TheVariants.{Load}
use Rattle.mb_cells.specs.declared.access.Process.TheVariants.{Producer, Reader}
use Rattle.mb_cells.specs.declared.access.TheConstants.{END}
use Rattle.mb_cells.specs.declared.access.Word.{Word}
use Rattle.mb_cells.specs.declared.size.PoolSize.{PoolSize}
use Rattle.mb_shared_cells.specs.Views.{IsAccessAfter, PartList, access_by}

-- the laws of `mb_cells` that the lemmas of this file take as a premise
pub record ReadLaws : Type 0 where
  pub older : (size : PoolSize) (later older : History) → IsPoolLawful size (later ++ older) → IsPoolLawful size older
  pub start : (size : PoolSize) (h : History) (r p : ℕ) (ks : List ℕ) → IsPoolLawful size h
      → HasMet r p ks (part (Reader r) h) → IsStart ks (linked_cells p h)
  pub next : (size : PoolSize) (h : History) (p k : ℕ) (later ks : List ℕ) → IsPoolLawful size h
      → later ++ k ∷ ks ≡ linked_cells p h → value_in (place_past p ks) h ≡ k + 1
  pub end : (size : PoolSize) (h : History) (p : ℕ) → IsPoolLawful size h
      → value_in (place_past p (linked_cells p h)) h ≡ (if has_ended p h then END else 0)
  pub linked : (h : History) (p : ℕ) → linked_cells p h ≡ linked_cells p (part (Producer p) h)
  pub ended : (h : History) (p : ℕ) → has_ended p h ≡ has_ended p (part (Producer p) h)
  pub within : (size : PoolSize) (h : History) (p k : ℕ) → IsPoolLawful size h → Has (linked_cells p h) k
      → (p < size.lanes) × (k < size.cells)

-- what the word past the cells met holds: the link to the next cell, or past all of them the end mark or 0
pub data Found (p : ℕ) (theirs : History) (ks : List ℕ) (v : ℕ) : Type 0 where
  a_cell : (k : ℕ) → v ≡ k + 1 → k + 1 ≢ END → IsStart (k ∷ ks) (linked_cells p theirs) → Found p theirs ks v
  the_end : v ≡ END → ks ≡ linked_cells p theirs → has_ended p theirs ≡ true → Found p theirs ks v
  no_cell : v ≡ 0 → ks ≡ linked_cells p theirs → has_ended p theirs ≡ false → Found p theirs ks v

-- a list with a first element x has a last element too
last_of : (x : ℕ) (xs : List ℕ) → (l : List ℕ) × ((k : ℕ) × (l ++ k ∷ [] ≡ x ∷ xs))
last_of x [] = ([], (x, refl))
last_of x (y ∷ ys) = let t = last_of y ys in (x ∷ t.0, (t.1.0, ap (λ l. x ∷ l) t.1.1))

-- a list of the cells `later`, then cell k, then the cells `ks` has cell k
has_behind : (later ks : List ℕ) (k : ℕ) → Has (later ++ k ∷ ks) k
has_behind [] ks k = inl refl
has_behind (j ∷ later) ks k = inr (has_behind later ks k)

-- a load of the word past the cells met finds what `Found` says of the history before the load
pub found_in : ReadLaws → (size : PoolSize) (r p : ℕ) (h : History) (ks : List ℕ) (w : Word) (v : ℕ)
    → w ≡ place_past p ks → IsPoolLawful size (access_by (Reader r) w (Load v) ∷ h)
    → HasMet r p ks (part (Reader r) h) → Found p h ks v
found_in laws size r p h ks w v at_place after met =
    let lawful = laws.older size (access_by (Reader r) w (Load v) ∷ []) h after in
    let told : v ≡ value_in (place_past p ks) h = after.memory.0 ∙ ap (λ z. value_in z h) at_place in
    let start = laws.start size h r p ks lawful met in
    by lawful told start.0 start.1
  where
    ends : (b : Bool) → v ≡ (if b then END else 0) → ks ≡ linked_cells p h → has_ended p h ≡ b → Found p h ks v
    ends true told all ended = the_end told all ended
    ends false told all ended = no_cell told all ended

    by : IsPoolLawful size h → v ≡ value_in (place_past p ks) h
        → (later : List ℕ) → later ++ ks ≡ linked_cells p h → Found p h ks v
    by lawful told [] e =
        ends (has_ended p h) (told ∙ ap (λ l. value_in (place_past p l) h) e ∙ laws.end size h p lawful) e refl
    by lawful told (x ∷ xs) e =
        let t = last_of x xs in
        let k = t.1.0 in
        let cut : t.0 ++ k ∷ ks ≡ linked_cells p h =
        sym (append_assoc t.0 (k ∷ []) ks) ∙ ap (λ l. l ++ ks) t.1.1 ∙ e in
        let low = (laws.within size h p k lawful (subst (λ l. Has l k) cut (has_behind t.0 ks k))).1 in
        let few = lawful.sized in
        a_cell k (told ∙ laws.next size h p k t.0 ks lawful cut) (λ end. omega arith) (t.0, cut)

-- what `Found` says of one history it says of another in which the lane has the same cells, and has ended just as well
found_by : (p : ℕ) (h theirs : History) (ks : List ℕ) (v : ℕ) → linked_cells p h ≡ linked_cells p theirs
    → has_ended p h ≡ has_ended p theirs → Found p h ks v → Found p theirs ks v
found_by p h theirs ks v cells ends (a_cell k told no_end start) = a_cell k told no_end (start.0, start.1 ∙ cells)
found_by p h theirs ks v cells ends (the_end told all ended) = the_end told (all ∙ cells) (sym ends ∙ ended)
found_by p h theirs ks v cells ends (no_cell told all ended) = no_cell told (all ∙ cells) (sym ends ∙ ended)

-- a load of the word past the cells met on a known lane finds what `Found` says of the lane's part
pub found : ReadLaws → (size : PoolSize) (r p : ℕ) (known : PartList) (done theirs : History) (ks : List ℕ)
    (w : Word) (v : ℕ) → w ≡ place_past p ks → IsAccessAfter size known (access_by (Reader r) w (Load v)) done
    → slice_get known p ≡ Some (Some theirs) → HasMet r p ks done → Found p theirs ks v
found laws size r p known done theirs ks w v at_place after at met =
    let h = after.older in
    let is : part (Producer p) h ≡ theirs = after.lanes p theirs at in
    found_by p h theirs ks v (laws.linked h p ∙ ap (linked_cells p) is) (laws.ended h p ∙ ap (has_ended p) is)
    (found_in laws size r p h ks w v at_place after.lawful
    (subst (λ l. HasMet r p ks l) (sym after.own) met))

-- if the load found 0, the reader has met all cells of the lane, and the lane has not ended
pub nothing_found : (p : ℕ) (theirs : History) (ks : List ℕ) (v : ℕ) → v ≡ 0 → Found p theirs ks v
    → (ks ≡ linked_cells p theirs) × (has_ended p theirs ≡ false)
nothing_found p theirs ks v is (a_cell k told no_end start) = absurd (omega arith)
nothing_found p theirs ks v is (the_end told all ended) = absurd (omega arith)
nothing_found p theirs ks v is (no_cell told all ended) = (all, ended)

-- if the load found the end mark, the reader has met all cells of the lane, and the lane has ended
pub end_found : (p : ℕ) (theirs : History) (ks : List ℕ) (v : ℕ) → v ≡ END → Found p theirs ks v
    → (ks ≡ linked_cells p theirs) × (has_ended p theirs ≡ true)
end_found p theirs ks v is (a_cell k told no_end start) = absurd (no_end (sym told ∙ is))
end_found p theirs ks v is (the_end told all ended) = (all, ended)
end_found p theirs ks v is (no_cell told all ended) = absurd (omega arith)

-- if the load found k + 1, which is not the end mark, cell k comes next in the lane after the cells met
pub cell_found : (p : ℕ) (theirs : History) (ks : List ℕ) (v k : ℕ) → v ≡ k + 1 → v ≢ END → Found p theirs ks v
    → IsStart (k ∷ ks) (linked_cells p theirs)
cell_found p theirs ks v k is apart (a_cell j told no_end start) =
    subst (λ z. IsStart (z ∷ ks) (linked_cells p theirs)) (omega (arith, told, is)) start
cell_found p theirs ks v k is apart (the_end told all ended) = absurd (apart told)
cell_found p theirs ks v k is apart (no_cell told all ended) = absurd (omega arith)
