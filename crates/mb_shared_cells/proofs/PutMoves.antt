-- What the calls of a lane's seat put: three calls put an item, and a full offer and a finish put nothing.
use Rattle.std.proofs.Common.{Bool, None, Option, Some, [], ap, arith, eq-eqb, false, inl, refl, subst, sym, true, ℕ, ◌++◌, ◌+◌, ◌<◌, ◌∙◌, ◌∷◌, ◌≡◌, ◌≢◌, ◌≤◌}
use Rattle.std.specs.Prelude.{if◌then◌else◌, nat_lt}
use Rattle.std.proofs.lemmas.Bool.{ltb-false, ltb-true}
use Rattle.mb_cells.specs.Place as phase
use Rattle.mb_cells.specs.Vocabulary.{Entry, Has, History, LaneIsAt, IsLaneAfter, IsLinkWord, IsPoolLawful, Phase, entry_at, fetch, item_of, lane_after_offer}
use Rattle.mb_cells.specs.Vocabulary.{link_after, next_link, part, put_list, stage_finish_refusal, stage_of, stage_offer_refusal, store}
use Rattle.mb_cells.specs.declared.access.PoolAccess.{PoolAccess}
use Rattle.mb_cells.specs.declared.access.Process.TheVariants.{Producer}
use Rattle.mb_cells.specs.declared.access.TheConstants.{END}
use Rattle.mb_cells.specs.declared.access.Word.{Word}
use Rattle.mb_cells.specs.declared.access.Word.TheVariants.{Item}
use Rattle.mb_cells.specs.declared.answer.Finish.TheVariants as finish
use Rattle.mb_cells.specs.declared.answer.Offer.TheVariants as offer
use Rattle.mb_cells.specs.declared.answer.Push.{Push}
use Rattle.mb_cells.specs.declared.answer.Push.TheVariants as push
use Rattle.mb_cells.specs.declared.lane.Lane.{Lane}
use Rattle.mb_cells.specs.declared.lane.LaneStage.{LaneStage}
use Rattle.mb_cells.specs.declared.lane.LaneStage.TheVariants as stage
use Rattle.mb_cells.specs.declared.size.PoolSize.{PoolSize}
use Rattle.mb_shared_cells.specs.Vocabulary.{FinishBy, FinishMakes, LaneMakes, OfferBy, OfferMakes, PushMakes, LaneSeatView, IsAccessAfter}

-- the laws of `mb_cells` that the lemmas of this file take as a premise
pub record PutLaws : Type 0 where
  pub own : (h : History) (a : PoolAccess) → part a.process (a ∷ h) ≡ a ∷ part a.process h
  pub older : (size : PoolSize) (later older : History) → IsPoolLawful size (later ++ older) → IsPoolLawful size older
  pub told : (size : PoolSize) (h : History) (p : ℕ) → IsPoolLawful size h
      → put_list p h ≡ put_list p (part (Producer p) h)
  pub link : (h : History) (p k : ℕ) (w : Word) → IsLinkWord w → k + 1 ≢ END
      → put_list p (store p w (k + 1) ∷ h) ≡ put_list p h ++ entry_at k h ∷ []
  pub fetched : (size : PoolSize) (h : History) (p q : ℕ) (e : Entry) → IsPoolLawful size (fetch p e ∷ h)
      → put_list q (fetch p e ∷ h) ≡ put_list q h
  pub item : (h : History) (p q k v : ℕ) → put_list q (store p (Item k) v ∷ h) ≡ put_list q h
  pub end : (h : History) (p q : ℕ) (w : Word) → IsLinkWord w → put_list q (store p w END ∷ h) ≡ put_list q h

-- a fetch-add that came after a producer's part puts nothing
fetch_puts : PutLaws → (size : PoolSize) (p : ℕ) (e : Entry) (done : History)
    → IsAccessAfter size [] (fetch p e) done → put_list p (fetch p e ∷ done) ≡ put_list p done
fetch_puts laws size p e done after =
    let h = after.older in
    let lawful = laws.older size (fetch p e ∷ []) h after.lawful in
    ap (λ l. put_list p (fetch p e ∷ l)) (sym after.own)
    ∙ ap (put_list p) (sym (laws.own h (fetch p e)))
    ∙ sym (laws.told size (fetch p e ∷ h) p after.lawful)
    ∙ laws.fetched size h p p e after.lawful
    ∙ laws.told size h p lawful
    ∙ ap (put_list p) after.own

-- an offer of x got cell k by its fetch-add, which led from the seat `old` to the seat `new`
pub record GotCell (old : LaneSeatView) (x k : ℕ) (new : LaneSeatView) : Type 0 where
  pub low : k < old.table.size.cells
  pub after : IsAccessAfter old.table.size [] (fetch old.lane (record { cell = k; value = x })) old.part
  pub is : new ≡ record old {
    place = record { last = old.place.last; stage = stage.Offered k x };
    part = fetch old.lane (record { cell = k; value = x }) ∷ old.part;
  }

-- if two results of an offer are equal and are cells, the cells are equal
same_cell : (n k : ℕ) → offer.Cell k ≡ offer.Cell n → n ≡ k
same_cell n k e = cc

-- an offer that returned cell k, and whose fetch-add found n, got cell k by it (`GotCell`)
got_by : (old : LaneSeatView) (x k n : ℕ) (new : LaneSeatView) (b : Bool) → nat_lt n old.table.size.cells ≡ b
    → offer.Cell k ≡ (if b then offer.Cell n else offer.Full)
    → LaneMakes (fetch old.lane (record { cell = n; value = x })) (lane_after_offer old.table.size.cells x n old.place)
    old new → GotCell old x k new
got_by old x k n new true low told makes =
    subst (λ z. GotCell old x z new) (same_cell n k told) (record {
      low = ltb-true n old.table.size.cells low;
      after = makes.0;
      is = makes.1 ∙ ap
          (λ (b : Bool). record old {
            place = record { last = old.place.last; stage = if b then stage.Offered n x else stage.Full };
            part = fetch old.lane (record { cell = n; value = x }) ∷ old.part;
          }) low;
    })
got_by old x k n new false low told makes = absurd (cc)

-- an offer that returned cell k got it by its fetch-add, whatever the producer's stage was
got_at : (old : LaneSeatView) (x k : ℕ) (new : LaneSeatView) (at : LaneStage)
    → OfferBy (stage_offer_refusal at) old x (offer.Cell k) new → GotCell old x k new
got_at old x k new stage.Open made = got_by old x k made.0 new (nat_lt made.0 old.table.size.cells) refl made.1 made.2
got_at old x k new (stage.Offered c i) made = absurd (cc)
got_at old x k new (stage.Stored c) made = absurd (cc)
got_at old x k new stage.Full made = absurd (cc)
got_at old x k new (stage.Ended f) made = absurd (cc)

-- the word for the next link is a head or link
pub link_word : (p : ℕ) (last : Option ℕ) → IsLinkWord (link_after p last)
link_word p None = tt
link_word p (Some k) = tt

-- an offer of x got cell k, pushes returned `one` and `two`, and these calls led from the seat `old` to the seat `new`
pub record PutCell (old : LaneSeatView) (x k : ℕ) (one two : Push) (new : LaneSeatView) : Type 0 where
  pub got : k < old.table.size.cells
  pub after : IsAccessAfter old.table.size [] (fetch old.lane (record { cell = k; value = x })) old.part
  pub first : one ≡ push.Item k
  pub second : two ≡ push.Link k
  pub is : new ≡ record old {
    place = record { last = Some k; stage = stage.Open };
    part = store old.lane (next_link old.lane old.place) (k + 1) ∷ store old.lane (Item k) x
        ∷ fetch old.lane (record { cell = k; value = x }) ∷ old.part;
  }

-- an offer that returned cell k and the two pushes after it are as `PutCell` says
pub three_calls : (old offered stored new : LaneSeatView) (x k : ℕ) (one two : Push)
    → OfferMakes old x (offer.Cell k) offered → PushMakes offered one stored → PushMakes stored two new
    → PutCell old x k one two new
three_calls old offered stored new x k one two offers stores links =
    let got = got_at old x k offered old.place.stage offers in
    let first : LaneSeatView = record old {
      place = record { last = old.place.last; stage = stage.Offered k x };
      part = fetch old.lane (record { cell = k; value = x }) ∷ old.part;
    } in
    let a = subst (λ v. PushMakes v one stored) got.is stores in
    let b = subst (λ v. PushMakes v two new) a.1.1 links in
    record {
      got = got.low;
      after = got.after;
      first = a.0;
      second = b.0;
      is = b.1.1;
    }

-- an offer of x that got cell k, and two pushes, put k with x at the end of the lane's put list
pub item_put : PutLaws → (old new : LaneSeatView) (x k : ℕ) (one two : Push) → PutCell old x k one two new
    → put_list old.lane new.part ≡ put_list old.lane old.part ++ record { cell = k; value = x } ∷ []
item_put laws old new x k one two c =
    let p = old.lane in
    let e : Entry = record { cell = k; value = x } in
    let h : History = store p (Item k) x ∷ fetch p e ∷ old.part in
    let few = c.after.lawful.sized in
    let low = c.got in
    let no_end : k + 1 ≢ END = λ is. omega arith in
    let item : item_of k h ≡ x = rw (eq-eqb k k refl) refl in
    let entry : entry_at k h ≡ e = ap (λ (v : ℕ). record { cell = k; value = v }) item in
    let before : put_list p h ≡ put_list p old.part =
    laws.item (fetch p e ∷ old.part) p p k x ∙ fetch_puts laws old.table.size p e old.part c.after in
    ap (λ (v : LaneSeatView). put_list p v.part) c.is
    ∙ laws.link h p k (next_link p old.place) (link_word p old.place.last) no_end
    ∙ (λ i. before i ++ entry i ∷ [])

-- an offer that returns Full puts nothing, whatever the producer's stage was
full_at : PutLaws → (old new : LaneSeatView) (x : ℕ) (at : LaneStage)
    → OfferBy (stage_offer_refusal at) old x offer.Full new
    → put_list old.lane new.part ≡ put_list old.lane old.part
full_at laws old new x stage.Open made =
    ap (λ (v : LaneSeatView). put_list old.lane v.part) made.2.1
    ∙ fetch_puts laws old.table.size old.lane (record { cell = made.0; value = x }) old.part made.2.0
full_at laws old new x (stage.Offered c i) made = absurd (cc)
full_at laws old new x (stage.Stored c) made = absurd (cc)
full_at laws old new x stage.Full made = ap (λ (v : LaneSeatView). put_list old.lane v.part) made.1
full_at laws old new x (stage.Ended f) made = absurd (cc)

-- an offer that returns Full puts nothing
pub full_puts : PutLaws → (old new : LaneSeatView) (x : ℕ) → OfferMakes old x offer.Full new
    → put_list old.lane new.part ≡ put_list old.lane old.part
full_puts laws old new x made = full_at laws old new x old.place.stage made

-- if an offer makes a fetch-add and returns Full, the fetch-add found no cell
found_now : (cells n : ℕ) (b : Bool) → nat_lt n cells ≡ b → offer.Full ≡ (if b then offer.Cell n else offer.Full)
    → cells ≤ n
found_now cells n true low told = absurd (cc)
found_now cells n false low told = ltb-false n cells low

-- a producer at the stage Full has made a fetch-add that found no cell
found_before : (cells p : ℕ) (lane : Lane) (done : History) → IsLaneAfter cells p lane done → lane.stage ≡ stage.Full
    → (e : Entry) × (Has done (fetch p e) × (cells ≤ e.cell))
found_before cells p lane done after is =
    by after.phase (sym after.stage ∙ is) after.at
  where
    by : (at : Phase) → stage_of at ≡ stage.Full → LaneIsAt cells p after.entries at done
        → (e : Entry) × (Has done (fetch p e) × (cells ≤ e.cell))
    by phase.Open e at = absurd (cc)
    by (phase.Offered x) e at = absurd (cc)
    by (phase.Stored x) e at = absurd (cc)
    by (phase.Full x) e at = (x, (subst (λ l. Has l (fetch p x)) (sym at.is) (inl refl), at.fits))
    by (phase.Ended None) e at = absurd (cc)
    by (phase.Ended (Some x)) e at = absurd (cc)

-- after an offer that returns Full the producer has made a fetch-add that found no cell, whatever its stage was
found_at : (old new : LaneSeatView) (x : ℕ) (at : LaneStage)
    → IsLaneAfter old.table.size.cells old.lane old.place old.part → old.place.stage ≡ at
    → OfferBy (stage_offer_refusal at) old x offer.Full new
    → (e : Entry) × (Has new.part (fetch old.lane e) × (old.table.size.cells ≤ e.cell))
found_at old new x stage.Open after is made =
    let e : Entry = record { cell = made.0; value = x } in (
      e,
      (
        subst (λ (v : LaneSeatView). Has v.part (fetch old.lane e)) (sym made.2.1) (inl refl),
        found_now old.table.size.cells made.0 (nat_lt made.0 old.table.size.cells) refl made.1,
      ),
    )
found_at old new x (stage.Offered c i) after is made = absurd (cc)
found_at old new x (stage.Stored c) after is made = absurd (cc)
found_at old new x stage.Full after is made =
    let e = found_before old.table.size.cells old.lane old.place old.part after is in
    (e.0, (subst (λ (v : LaneSeatView). Has v.part (fetch old.lane e.0)) (sym made.1) e.1.0, e.1.1))
found_at old new x (stage.Ended f) after is made = absurd (cc)

-- after an offer that returns Full the producer has made a fetch-add that found no cell
pub full_found : (old new : LaneSeatView) (x : ℕ) → IsLaneAfter old.table.size.cells old.lane old.place old.part
    → OfferMakes old x offer.Full new
    → (e : Entry) × (Has new.part (fetch old.lane e) × (old.table.size.cells ≤ e.cell))
full_found old new x after made = found_at old new x old.place.stage after refl made

-- a finish that ends the lane puts nothing, whatever the producer's stage was
end_at : PutLaws → (old new : LaneSeatView) (at : LaneStage)
    → FinishBy (stage_finish_refusal at) old finish.Ended new
    → put_list old.lane new.part ≡ put_list old.lane old.part
end_at laws old new stage.Open made =
    ap (λ (v : LaneSeatView). put_list old.lane v.part) made.1.1
    ∙ laws.end old.part old.lane old.lane (next_link old.lane old.place) (link_word old.lane old.place.last)
end_at laws old new stage.Full made =
    ap (λ (v : LaneSeatView). put_list old.lane v.part) made.1.1
    ∙ laws.end old.part old.lane old.lane (next_link old.lane old.place) (link_word old.lane old.place.last)
end_at laws old new (stage.Offered c i) made = absurd (cc)
end_at laws old new (stage.Stored c) made = absurd (cc)
end_at laws old new (stage.Ended f) made = absurd (cc)

-- a finish that ends the lane puts nothing
pub end_puts : PutLaws → (old new : LaneSeatView) → FinishMakes old finish.Ended new
    → put_list old.lane new.part ≡ put_list old.lane old.part
end_puts laws old new made = end_at laws old new old.place.stage made
