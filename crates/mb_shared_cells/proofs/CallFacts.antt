-- Which accesses a seat's calls can make, and what they find. The laws of `mb_cells` come in as premises.
use Rattle.std.proofs.Common.{[], ap, inl, subst, sym, true, ℕ, ◌++◌, ◌+◌, ◌<◌, ◌∙◌, ◌∷◌, ◌≡◌, ◌≢◌}
use Rattle.std.specs.Prelude.{None, Some, slice_get}
use Rattle.std.proofs.lemmas.Bool.{eqb-true}
use Rattle.mb_cells.proofs.ReaderParts.{cell-of_true}
use Rattle.mb_cells.specs.Vocabulary.{Entry, Gave, Has, History, IsGift, IsLaneAfter, IsLanePrefix, IsLaneWord, IsPoolLawful, MayRead, fetch}
use Rattle.mb_cells.specs.Vocabulary.{finish_refusal, has_cell, is_of_lane, lane_after_finish, lane_after_offer, lane_after_push, linked_cells, next_link}
use Rattle.mb_cells.specs.Vocabulary.{offer_refusal, part, push_store, store, value_in, word_of}
use Rattle.mb_cells.specs.declared.access.PoolAccess.{PoolAccess}
use Rattle.mb_cells.specs.declared.access.PoolAct.TheVariants.{Load}
use Rattle.mb_cells.specs.declared.access.Process.TheVariants.{Producer, Reader}
use Rattle.mb_cells.specs.declared.access.TheConstants.{END}
use Rattle.mb_cells.specs.declared.access.Word.{Word}
use Rattle.mb_cells.specs.declared.access.Word.TheVariants.{Counter, Head, Item, Link}
use Rattle.mb_cells.specs.declared.cursor.Cursor.{Cursor}
use Rattle.mb_cells.specs.declared.cursor.Cursor.TheVariants as cursor
use Rattle.mb_cells.specs.declared.lane.Lane.{Lane}
use Rattle.mb_cells.specs.declared.size.PoolSize.{PoolSize}
use Rattle.mb_shared_cells.specs.Seats.{CanFetch, CanLoad, CanStore, IsLaneSeat, IsReaderSeat, done_in, known_in, number_in, size_in}
use Rattle.mb_shared_cells.specs.Views.{IsAccessAfter, PartList, SeatState, access_by}

-- the laws of `mb_cells` about a producer's place before and after each access
pub record LaneLaws : Type 0 where
  pub prefix : (cells p : ℕ) (lane : Lane) (done : History) → IsLaneAfter cells p lane done → IsLanePrefix cells p done
  pub offered : (cells p : ℕ) (lane : Lane) (done : History) (e : Entry) → IsLaneAfter cells p lane done
      → offer_refusal lane ≡ None → IsLaneAfter cells p (lane_after_offer cells e.value e.cell lane) (fetch p e ∷ done)
  pub pushed : (cells p : ℕ) (lane : Lane) (done : History) (s : Word × ℕ) → IsLaneAfter cells p lane done
      → push_store p lane ≡ Some s → IsLaneAfter cells p (lane_after_push lane) (store p s.0 s.1 ∷ done)
  pub finished : (cells p : ℕ) (lane : Lane) (done : History) → IsLaneAfter cells p lane done
      → finish_refusal lane ≡ None
      → IsLaneAfter cells p (lane_after_finish lane) (store p (next_link p lane) END ∷ done)

-- a law of `mb_cells`: the store of a push is to a head, link or item of the pool
abbrev pub PushWithin : Type 0
PushWithin =
    (size : PoolSize) (p : ℕ) (lane : Lane) (done : History) (w : Word) (v : ℕ) → p < size.lanes
    → IsLaneAfter size.cells p lane done → push_store p lane ≡ Some (w, v) → IsLaneWord size w

-- a law of `mb_cells`: the word for a lane's next link is a head or link of the pool
abbrev pub LinkWithin : Type 0
LinkWithin =
    (size : PoolSize) (p : ℕ) (lane : Lane) (done : History) → p < size.lanes
    → IsLaneAfter size.cells p lane done → IsLaneWord size (next_link p lane)

-- a law of `mb_cells`: a word that a reader may load is a head, link or item of the pool
abbrev pub LoadWithin : Type 0
LoadWithin =
    (size : PoolSize) (h : History) (r : ℕ) (w : Word) → IsPoolLawful size h
    → MayRead size.lanes w (part (Reader r) h) → IsLaneWord size w

-- a lane's seat whose offer is not refused can make its fetch-add
pub can_fetch : LaneLaws → (size : PoolSize) (me : SeatState) (number : ℕ) (lane : Lane) (x : ℕ)
    → IsLaneSeat me number lane → size_in me.0 ≡ size → offer_refusal lane ≡ None → CanFetch size x me
can_fetch laws size me number lane x s same free =
    let cells = (size_in me.0).cells in
    subst (λ z. CanFetch z x me) same (record {
      lane = number;
      done = done_in me.0;
      is = s.is;
      path = λ n. laws.prefix cells number _ _
          (laws.offered cells number lane (done_in me.0) (record { cell = n; value = x }) s.stands free);
    })

-- a lane's seat can make the store that a push makes at its producer's place
pub can_push : LaneLaws → PushWithin → (size : PoolSize) (me : SeatState) (number : ℕ) (lane : Lane) (w : Word) (v : ℕ)
    → IsLaneSeat me number lane → size_in me.0 ≡ size → push_store number lane ≡ Some (w, v) → CanStore size w v me
can_push laws within size me number lane w v s same some =
    let own = size_in me.0 in
    subst (λ z. CanStore z w v me) same (record {
      lane = number;
      done = done_in me.0;
      is = s.is;
      path = laws.prefix own.cells number _ _ (laws.pushed own.cells number lane (done_in me.0) (w, v) s.stands some);
      within = within own number lane (done_in me.0) w v s.within s.stands some;
    })

-- a lane's seat whose finish is not refused can store the end mark
pub can_finish : LaneLaws → LinkWithin → (size : PoolSize) (me : SeatState) (number : ℕ) (lane : Lane) (w : Word)
    → IsLaneSeat me number lane → size_in me.0 ≡ size → finish_refusal lane ≡ None → w ≡ next_link number lane
    → CanStore size w END me
can_finish laws within size me number lane w s same free is =
    let own = size_in me.0 in
    subst (λ (z : PoolSize × Word). CanStore z.0 z.1 END me) (λ i. (same i, sym is i)) (record {
      lane = number;
      done = done_in me.0;
      is = s.is;
      path = laws.prefix own.cells number _ _ (laws.finished own.cells number lane (done_in me.0) s.stands free);
      within = within own number lane (done_in me.0) s.within s.stands;
    })

-- a reader's seat can load a word that the reader may load
pub can_load : LoadWithin → (size : PoolSize) (me : SeatState) (w : Word) → IsReaderSeat me → size_in me.0 ≡ size
    → MayRead size.lanes w (done_in me.0) → CanLoad size w me
can_load within size me w s same may =
    let own = size_in me.0 in
    let may' : MayRead own.lanes w (done_in me.0) =
    subst (λ z. MayRead z.lanes w (done_in me.0)) (sym same) may in
    subst (λ z. CanLoad z w me) same (record {
      reader = number_in me.0;
      known = known_in me.0;
      done = done_in me.0;
      is = s.is;
      may = may';
      within = within own s.history.0 (number_in me.0) w s.history.1
          (subst (λ l. MayRead own.lanes w l) (sym s.history.2) may');
    })

-- the laws of `mb_cells` by which a link that was loaded leads to a cell of the table
pub record CellLaws : Type 0 where
  pub own : (h : History) (a : PoolAccess) → part a.process (a ∷ h) ≡ a ∷ part a.process h
  pub put : (size : PoolSize) (h : History) (r k : ℕ) → IsPoolLawful size h → Gave k (part (Reader r) h)
      → (p : ℕ) × Has (linked_cells p h) k
  pub within : (size : PoolSize) (h : History) (p k : ℕ) → IsPoolLawful size h → Has (linked_cells p h) k
      → (p < size.lanes) × (k < size.cells)

-- a look's load that finds k + 1, which is not the end mark, gives cell k
pub gift : (at : Cursor) (v k : ℕ) → v ≡ k + 1 → v ≢ END → IsGift k (word_of at) (Load v)
gift (cursor.Head p) v k is some = (is, some)
gift (cursor.Past j) v k is some = (is, some)

-- a look whose load finds k + 1, which is not the end mark, finds a cell of the pool
pub cell_within : CellLaws → (size : PoolSize) (r : ℕ) (known : PartList) (done : History) (at : Cursor) (v k : ℕ)
    → IsAccessAfter size known (access_by (Reader r) (word_of at) (Load v)) done → v ≡ k + 1 → v ≢ END
    → k < size.cells
cell_within laws size r known done at v k after is no_end =
    let a = access_by (Reader r) (word_of at) (Load v) in
    let h = a ∷ after.older in
    let gave : Gave k (part (Reader r) h) =
    subst (λ l. Gave k l) (sym (laws.own after.older a)) (inl (gift at v k is no_end)) in
    let there = laws.put size h r k after.lawful gave in
    (laws.within size h there.0 k after.lawful there.1).1

-- the laws of `mb_cells` by which a load on a lane whose part is known finds what that part left there
pub record KnownLaws : Type 0 where
  pub older : (size : PoolSize) (later older : History) → IsPoolLawful size (later ++ older) → IsPoolLawful size older
  pub head : (size : PoolSize) (h : History) (p : ℕ) → IsPoolLawful size h
      → value_in (Head p) h ≡ value_in (Head p) (part (Producer p) h)
  pub item : (size : PoolSize) (h : History) (p k : ℕ) → IsPoolLawful size h → Has (linked_cells p h) k
      → value_in (Item k) h ≡ value_in (Item k) (part (Producer p) h)
  pub link : (size : PoolSize) (h : History) (p k : ℕ) → IsPoolLawful size h → Has (linked_cells p h) k
      → value_in (Link k) h ≡ value_in (Link k) (part (Producer p) h)
  pub linked : (h : History) (p : ℕ) → linked_cells p h ≡ linked_cells p (part (Producer p) h)

-- a word of a lane holds what the part of the lane's producer alone leaves in it
held_there : KnownLaws → (size : PoolSize) (h : History) (p : ℕ) (w : Word) → IsPoolLawful size h
    → is_of_lane p (linked_cells p (part (Producer p) h)) w ≡ true
    → value_in w h ≡ value_in w (part (Producer p) h)
held_there laws size h p Counter l own = absurd (cc)
held_there laws size h p (Head q) l own =
    subst (λ z. value_in (Head z) h ≡ value_in (Head z) (part (Producer p) h)) (eqb-true p q own) (laws.head size h p l)
held_there laws size h p (Link k) l own =
    laws.link size h p k l (cell-of_true _ k (subst (λ ks. has_cell ks k ≡ true) (sym (laws.linked h p)) own))
held_there laws size h p (Item k) l own =
    laws.item size h p k l (cell-of_true _ k (subst (λ ks. has_cell ks k ≡ true) (sym (laws.linked h p)) own))

-- a load on a lane whose part the reader knows finds what that part left there
pub known_tells : KnownLaws → (size : PoolSize) (r : ℕ) (known : PartList) (done : History) (w : Word) (v : ℕ)
    → IsAccessAfter size known (access_by (Reader r) w (Load v)) done → (p : ℕ) (theirs : History)
    → slice_get known p ≡ Some (Some theirs) → is_of_lane p (linked_cells p theirs) w ≡ true
    → v ≡ value_in w theirs
known_tells laws size r known done w v after p theirs at own =
    let h = after.older in
    let a = access_by (Reader r) w (Load v) in
    let is : part (Producer p) h ≡ theirs = after.lanes p theirs at in
    let lawful = laws.older size (a ∷ []) h after.lawful in
    after.lawful.memory.0
    ∙ held_there laws size h p w lawful (subst (λ l. is_of_lane p (linked_cells p l) w ≡ true) (sym is) own)
    ∙ ap (λ l. value_in w l) is
