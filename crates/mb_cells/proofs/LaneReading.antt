-- Reading a lane of a lawful history from its head on, and what loads along it give.
use Rattle.std.proofs.Common.{Bool, List, [], ap, arith, cond, false, inl, inr, map, ne_eqb, refl, subst, sym, true, ℕ, ◌++◌, ◌+◌, ◌-◌, ◌<◌, ◌∙◌, ◌∷◌, ◌≡◌, ◌⊎◌}
use Rattle.std.specs.Prelude.{if◌then◌else◌, nat_eq, ◌≢◌}
use Rattle.std.proofs.lemmas.Bool.{cases_Bool}
use mathlib.Core.List.{reverse_aux}
use Rattle.mb_cells.specs.declared.answer.Look.TheVariants as look
use Rattle.mb_cells.specs.declared.cursor.Cursor.TheVariants as cursor
use Rattle.mb_cells.specs.{AllCellsBelow, Cursor, END, Entry, Has, HasLoaded, History, IsPoolLawful, Item, Look, PoolSize, Reads, Word, entry_of}
use Rattle.mb_cells.specs.{has_ended, item_of, lane_end, linked_cells, look_after, look_of, place_past, put_list, value_in, word_of}
use Rattle.mb_cells.proofs.EndMarks.{end_word}
use Rattle.mb_cells.proofs.Histories.{cells_at, cells_of, link-place, link_load, place_of}
use Rattle.mb_cells.proofs.Items.{LeadThrough, item_held, lead_through, lower}

-- the cursor past these cells of lane p (the last first): at the head of the lane if there are none
abbrev pub cursor_past : ℕ → List ℕ → Cursor
cursor_past p [] = cursor.Head p
cursor_past p (k ∷ _) = cursor.Past k

-- the word that a look past these cells loads is the word that leads to the next cell
word_past : (p : ℕ) (ks : List ℕ) → word_of (cursor_past p ks) ≡ place_past p ks
word_past p [] = refl
word_past p (k ∷ ks) = refl

-- a look that finds k + 1 returns cell k, if k + 1 is not the end mark
pub look-cell : (k : ℕ) → (k + 1 ≢ END) → look_of (k + 1) ≡ look.Cell k
look-cell k ne =
    let zero_no : nat_eq (k + 1) 0 ≡ false = ne_eqb (k + 1) 0 (λ e. absurd (omega arith)) in
    let end_no : nat_eq (k + 1) END ≡ false = ne_eqb (k + 1) END ne in
    let back : (k + 1) - 1 ≡ k = omega arith in
    rw (zero_no, end_no, back)

-- if words lead through cells and looks past them read `rest` and `end`, looks from the head read the cells, then these
pub reads_back : (m : Word → ℕ) (f : ℕ → ℕ) (p : ℕ) (ks : List ℕ) (rest : List Entry) (end : Look)
    → ((k : ℕ) → Has ks k → (k + 1 ≢ END) × (m (Item k) ≡ f k)) → LeadThrough m p ks
    → Reads (λ c. look_of (m (word_of c))) (λ k. m (Item k)) (cursor_past p ks) rest end
    → Reads (λ c. look_of (m (word_of c))) (λ k. m (Item k)) (cursor.Head p)
    (reverse_aux (map (entry_of f) ks) rest) end
reads_back m f p [] rest end each lead reads = reads
reads_back m f p (k ∷ ks) rest end each lead reads =
    let here = each k (inl refl) in
    let found : look_of (m (word_of (cursor_past p ks))) ≡ look.Cell k =
    ap (λ w. look_of (m w)) (word_past p ks) ∙ ap look_of lead.0 ∙ look-cell k here.0 in
    reads_back m f p ks (entry_of f k ∷ rest) end (λ j i. each j (inr i)) lead.1 (found, here.1, reads)

-- a link to a cell of these entries is not the end mark
below_end : (cells : ℕ) (k : ℕ) (es : List Entry) → cells < END → AllCellsBelow cells es → Has (cells_of es) k
    → k + 1 ≢ END
below_end cells k es c b has = let low : k < cells = lower cells k es b has in λ e. absurd (omega arith)

-- a look that finds the end mark returns Ended, and one that finds 0 Nothing
pub end_look : (b : Bool) → look_of (cond b END 0) ≡ (if b then look.Ended else look.Nothing)
end_look true = refl
end_look false = refl

-- after a lawful history, looks along a lane read the cells and items of its put list, and then whether it has ended
pub lane_reads : (size : PoolSize) (h : History) (p : ℕ) → IsPoolLawful size h
    → Reads (λ at. look_after at h) (λ k. value_in (Item k) h) (cursor.Head p) (put_list p h) (lane_end p h)
lane_reads size h p l =
    let place = place_of size h p l in
    let is = cells_at size p h place.entries place.phase l.sized place.at in
    reads_back (λ w. value_in w h) (λ k. item_of k h) p (linked_cells p h) [] (lane_end p h)
    (λ k has. (
      below_end size.cells k place.entries l.sized place.at.below (subst (λ x. Has x k) is has),
      item_held size h p k l has,
    ))
    (lead_through size h p l)
    (ap (λ w. look_of (value_in w h)) (word_past p (linked_cells p h)) ∙ ap look_of (end_word size h p l)
    ∙ end_look (has_ended p h))

-- if words lead through a lane's cells, the word past the cells before k leads to k
lead-at : (m : Word → ℕ) (p k : ℕ) (later ks : List ℕ) → LeadThrough m p (later ++ k ∷ ks) → m (place_past p ks) ≡ k + 1
lead-at m p k [] ks h = h.0
lead-at m p k (x ∷ later) ks h = lead-at m p k later ks h.1

-- the word past the first cells of a lane holds the number of the next cell, plus one
pub next_cell : (size : PoolSize) (h : History) (p k : ℕ) (later ks : List ℕ) → IsPoolLawful size h
    → later ++ k ∷ ks ≡ linked_cells p h → value_in (place_past p ks) h ≡ k + 1
next_cell size h p k later ks l is =
    lead-at (λ w. value_in w h) p k later ks
    (subst (LeadThrough (λ w. value_in w h) p) (sym is) (lead_through size h p l))

-- a load of the word past the first cells of a lane gives 0, or the number of the next cell plus one
pub next_load : (size : PoolSize) (h : History) (r p k v : ℕ) (later ks : List ℕ) → IsPoolLawful size h
    → later ++ k ∷ ks ≡ linked_cells p h → HasLoaded r (place_past p ks) v h → (v ≡ 0) ⊎ (v ≡ k + 1)
next_load size h r p k v later ks l is has =
    elim (link_load size h r v (place_past p ks) l (link-place p ks) has) [
      | inl e ↦ inl e
      | inr e ↦ inr (e ∙ next_cell size h p k later ks l is)
    ]

-- a load of the word past a lane's last cell gives 0, or it gives the end mark and the lane has ended
pub end_load : (size : PoolSize) (h : History) (r p v : ℕ) → IsPoolLawful size h
    → HasLoaded r (place_past p (linked_cells p h)) v h → (v ≡ 0) ⊎ ((v ≡ END) × (has_ended p h ≡ true))
end_load size h r p v l has =
    elim (link_load size h r v (place_past p (linked_cells p h)) l (link-place p (linked_cells p h)) has) [
      | inl e ↦ inl e
      | inr e ↦ elim (cases_Bool (has_ended p h)) [
        | inl is ↦ inr (e ∙ end_word size h p l ∙ ap (λ b. cond b END 0) is, is)
        | inr not_yet ↦ inl (e ∙ end_word size h p l ∙ ap (λ b. cond b END 0) not_yet)
      ]
    ]
