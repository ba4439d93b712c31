-- Calls with their answers *agree* with the history of their accesses (`Tells`), and still do so after one call more.
use Rattle.std.proofs.Common.{List, None, Option, Some, [], ap, arith, cond, eq-eqb, false, inl, inr, ne_eqb, refl, subst, sym, true, ℕ, ◌+◌, ◌-◌, ◌<◌, ◌∙◌, ◌∷◌, ◌≡◌, ◌≢◌, ◌≤◌}
use Rattle.std.specs.Prelude.{if◌then◌else◌, is_some, nat_eq, nat_lt, unwrap_or}
use Rattle.std.proofs.lemmas.Bool.{cases_Bool, cases_eq, ltb-false}
use Rattle.std.specs.Option.{option_map_or}
use Rattle.mb_cells.specs.declared.answer.Offer.TheVariants as offer
use Rattle.mb_cells.specs.declared.answer.Push.TheVariants as push
use Rattle.mb_cells.specs.declared.answer.Finish.TheVariants as finish
use Rattle.mb_cells.specs.declared.lane.LaneStage.TheVariants as stage
use Rattle.mb_cells.specs.Place as phase
use Rattle.mb_cells.specs.{Call, Counter, END, Entry, Finish, Finished, History, IsLaneAfter, Item, Lane, LaneStage, Offer, Offered, Phase, PhaseFits}
use Rattle.mb_cells.specs.{PoolAccess, Producer, Pushed, fetch, fetch_adds_by, fetch_adds_by_offer, finish_answer, finish_refusal, has_ended}
use Rattle.mb_cells.specs.{has_ended_by, history_after_finish, history_after_offer, history_after_push, is_end, is_full, is_same_process, item_by}
use Rattle.mb_cells.specs.{item_by_offer, item_of, lane_after_finish, lane_after_offer, lane_after_push, link_after, linked_cells, linked_cells_by}
use Rattle.mb_cells.specs.{new_lane, next_link, offer_answer, offer_by_found, offer_refusal, part, push_answer, push_store, stage_after_push, stage_by}
use Rattle.mb_cells.specs.{stage_by_finish, stage_by_offer, stage_by_push, stage_finish_refusal, stage_of, stage_offer_refusal, stage_push_answer}
use Rattle.mb_cells.specs.{stage_push_store, store, value_in}
use Rattle.mb_cells.proofs.LaneSteps.{finished_lane, offered_lane, pushed_lane, same_lane, start_lane}
use Rattle.mb_cells.proofs.Names.{own_process, same_twice}
use Rattle.mb_cells.proofs.Parts.{part-other, part-own}

-- calls agree with a history: both say the same of the counter, the cells' items, linked cells, ends and stages
pub record Tells (cells : ℕ) (calls : List Call) (h : History) : Type 0 where
  pub adds : value_in Counter h ≡ fetch_adds_by calls
  pub items : (k : ℕ) → k < cells → item_of k h ≡ item_by k calls
  pub cells_linked : (p : ℕ) → linked_cells p h ≡ linked_cells_by p calls
  pub ends : (p : ℕ) → has_ended p h ≡ has_ended_by p calls
  pub stages : (p : ℕ) (lane : Lane) → IsLaneAfter cells p lane (part (Producer p) h) → lane.stage ≡ stage_by p calls

-- the empty list of calls agrees with the empty history
pub told_nothing : (cells : ℕ) → Tells cells [] []
told_nothing cells = record {
  adds = refl;
  items = λ k b. refl;
  cells_linked = λ p. refl;
  ends = λ p. refl;
  stages = λ p lane at. ap (λ (l : Lane). l.stage) (same_lane cells p lane new_lane [] at (start_lane cells p));
}

-- if calls agree with a history, after an access of producer p they still say the stage of each other producer's lane
stage_other : (cells : ℕ) (calls : List Call) (h : History) (a : PoolAccess) (p q : ℕ) (lane : Lane)
    → Tells cells calls h → a.process ≡ Producer p → q ≢ p
    → IsLaneAfter cells q lane (part (Producer q) (a ∷ h)) → lane.stage ≡ stage_by q calls
stage_other cells calls h a p q lane t who ne at =
    let not_own : is_same_process (Producer q) a.process ≡ false =
    subst (λ x. is_same_process (Producer q) x ≡ false) (sym who) (ne_eqb q p ne) in
    t.stages q lane (subst (IsLaneAfter cells q lane) (part-other (Producer q) a h not_own) at)

-- after an access of producer p, the stage of p's lane is that of `now`, the place after p's part with that access
stage_own : (cells : ℕ) (h : History) (a : PoolAccess) (p : ℕ) (lane now : Lane) → a.process ≡ Producer p
    → IsLaneAfter cells p now (a ∷ part (Producer p) h)
    → IsLaneAfter cells p lane (part (Producer p) (a ∷ h)) → lane.stage ≡ now.stage
stage_own cells h a p lane now who next at =
    let own = own_process (Producer p) a who in
    ap (λ (l : Lane). l.stage)
    (same_lane cells p lane now (a ∷ part (Producer p) h)
    (subst (IsLaneAfter cells p lane) (part-own (Producer p) a h own) at) next)

-- if calls agree with a history, after an access of p they still say each other lane's stage, and p's is now's, `z p`
stages_after : (cells : ℕ) (calls : List Call) (h : History) (a : PoolAccess) (p : ℕ) (now : Lane) (z : ℕ → LaneStage)
    → Tells cells calls h → a.process ≡ Producer p
    → IsLaneAfter cells p now (a ∷ part (Producer p) h) → now.stage ≡ z p
    → (q : ℕ) (lane : Lane) → IsLaneAfter cells q lane (part (Producer q) (a ∷ h))
    → lane.stage ≡ cond (nat_eq q p) (z q) (stage_by q calls)
stages_after cells calls h a p now z t who next is q lane at =
    elim (cases_eq q p) [
      | inl same ↦
          let here : IsLaneAfter cells p lane (part (Producer p) (a ∷ h)) =
          subst (λ x. IsLaneAfter cells x lane (part (Producer x) (a ∷ h))) same at in
          let own : nat_eq q p ≡ true = eq-eqb q p same in
          rw own (stage_own cells h a p lane now who next here ∙ is ∙ ap z (sym same))
      | inr other ↦
          let not_own : nat_eq q p ≡ false = ne_eqb q p other in
          rw not_own (stage_other cells calls h a p q lane t who other at)
    ]

-- if calls agree with a history and f keeps the stage of lane p, they say each lane's stage, with f applied to p's
stages_kept : (cells : ℕ) (calls : List Call) (h : History) (p : ℕ) (f : LaneStage → LaneStage)
    → f (stage_by p calls) ≡ stage_by p calls → Tells cells calls h
    → (q : ℕ) (lane : Lane) → IsLaneAfter cells q lane (part (Producer q) h)
    → lane.stage ≡ cond (nat_eq q p) (f (stage_by q calls)) (stage_by q calls)
stages_kept cells calls h p f keeps t q lane at =
    elim (cases_eq q p) [
      | inl same ↦
          let own : nat_eq q p ≡ true = eq-eqb q p same in
          rw own (t.stages q lane at ∙ sym (subst (λ x. f (stage_by x calls) ≡ stage_by x calls) (sym same) keeps))
      | inr other ↦
          let not_own : nat_eq q p ≡ false = ne_eqb q p other in
          rw not_own (t.stages q lane at)
    ]

-- calls still agree with a history after an offer that gives no cell, counts no fetch-add and keeps the stage
told_no_offer : (cells : ℕ) (calls : List Call) (h : History) (p x : ℕ) (r : Offer)
    → ((k y : ℕ) → item_by_offer k x r y ≡ y) → fetch_adds_by_offer r (stage_by p calls) ≡ 0
    → stage_by_offer x r (stage_by p calls) ≡ stage_by p calls → Tells cells calls h
    → Tells cells (Offered p x r ∷ calls) h
told_no_offer cells calls h p x r gives adds keeps t = record {
  adds = t.adds ∙ omega (arith, adds);
  items = λ k b. t.items k b ∙ sym (gives k (item_by k calls));
  cells_linked = t.cells_linked;
  ends = t.ends;
  stages = stages_kept cells calls h p (stage_by_offer x r) keeps t;
}

-- if calls agree with a history, they still agree after an offer that was refused, so made no access
told_refusal : (cells : ℕ) (calls : List Call) (h : History) (p x : ℕ) (lane : Lane) (r : Offer)
    → Tells cells calls h → IsLaneAfter cells p lane (part (Producer p) h)
    → stage_offer_refusal lane.stage ≡ Some r → Tells cells (Offered p x r ∷ calls) h
told_refusal cells calls h p x lane r t here is =
    by lane.stage refl is
  where
    by : (z : LaneStage) → lane.stage ≡ z → stage_offer_refusal z ≡ Some r → Tells cells (Offered p x r ∷ calls) h
    by (stage.Ended full) e n =
        let answer : offer.Closed ≡ r = cc in
        subst (λ a. Tells cells (Offered p x a ∷ calls) h) answer
        (told_no_offer cells calls h p x offer.Closed (λ k y. refl) refl refl t)
    by (stage.Offered cell item) e n =
        let answer : offer.Busy ≡ r = cc in
        subst (λ a. Tells cells (Offered p x a ∷ calls) h) answer
        (told_no_offer cells calls h p x offer.Busy (λ k y. refl) refl refl t)
    by (stage.Stored cell) e n =
        let answer : offer.Busy ≡ r = cc in
        subst (λ a. Tells cells (Offered p x a ∷ calls) h) answer
        (told_no_offer cells calls h p x offer.Busy (λ k y. refl) refl refl t)
    by stage.Full e n =
        let answer : offer.Full ≡ r = cc in
        let full : stage_by p calls ≡ stage.Full = sym (t.stages p lane here) ∙ e in
        subst (λ a. Tells cells (Offered p x a ∷ calls) h) answer
        (told_no_offer cells calls h p x offer.Full (λ k y. refl) (ap (fetch_adds_by_offer offer.Full) full)
        (sym full) t)
    by stage.Open e n = absurd (cc)

-- if a stage refuses no offer, it is Open
open_stage : (z : LaneStage) → stage_offer_refusal z ≡ None → z ≡ stage.Open
open_stage (stage.Ended full) n = absurd (cc)
open_stage (stage.Offered cell item) n = absurd (cc)
open_stage (stage.Stored cell) n = absurd (cc)
open_stage stage.Full n = absurd (cc)
open_stage stage.Open n = refl

-- if calls agree with a history, they still agree after an offer that makes a fetch-add
told_fetch : (cells : ℕ) (calls : List Call) (h : History) (p x : ℕ) (lane : Lane) → Tells cells calls h
    → IsLaneAfter cells p lane (part (Producer p) h) → offer_refusal lane ≡ None
    → Tells cells (Offered p x (offer_by_found cells (value_in Counter h)) ∷ calls)
    (fetch p (record { cell = value_in Counter h; value = x }) ∷ h)
told_fetch cells calls h p x lane t here going =
    let e : Entry = record { cell = value_in Counter h; value = x } in
    let next = offered_lane cells p lane (part (Producer p) h) e here going in
    let started : stage_by p calls ≡ stage.Open = sym (t.stages p lane here) ∙ open_stage lane.stage going in
    elim (cases_Bool (nat_lt (value_in Counter h) cells)) [
      | inl low ↦
          let given : offer.Cell (value_in Counter h) ≡ offer_by_found cells (value_in Counter h) = rw low refl in
          let now : (lane_after_offer cells x (value_in Counter h) lane).stage ≡ stage.Offered (value_in Counter h) x =
          rw low refl in
          subst (λ r. Tells cells (Offered p x r ∷ calls) (fetch p e ∷ h)) given (record {
            adds = ap (λ z. z + 1) t.adds;
            items = λ k b. ap (λ z. cond (nat_eq (value_in Counter h) k) x z) (t.items k b);
            cells_linked = λ q. same_twice (nat_eq q p) (linked_cells q h) ∙ t.cells_linked q;
            ends = λ q. same_twice (nat_eq q p) (has_ended q h) ∙ t.ends q;
            stages = stages_after cells calls h (fetch p e) p (lane_after_offer cells x (value_in Counter h) lane)
                (λ q. stage.Offered (value_in Counter h) x) t refl next now;
          })
      | inr high ↦
          let given : offer.Full ≡ offer_by_found cells (value_in Counter h) = rw high refl in
          let now : (lane_after_offer cells x (value_in Counter h) lane).stage ≡ stage.Full = rw high refl in
          let above : cells ≤ value_in Counter h = ltb-false (value_in Counter h) cells high in
          let one : cond {A = ℕ} (is_full (stage_by p calls)) 0 1 ≡ 1 =
          ap (λ z. cond {A = ℕ} (is_full z) 0 1) started in
          subst (λ r. Tells cells (Offered p x r ∷ calls) (fetch p e ∷ h)) given (record {
            adds = omega (arith, t.adds, one);
            items = λ k b. let ne : nat_eq (value_in Counter h) k ≡ false =
                ne_eqb (value_in Counter h) k (λ z. absurd (omega arith)) in rw ne (t.items k b);
            cells_linked = λ q. same_twice (nat_eq q p) (linked_cells q h) ∙ t.cells_linked q;
            ends = λ q. same_twice (nat_eq q p) (has_ended q h) ∙ t.ends q;
            stages = stages_after cells calls h (fetch p e) p (lane_after_offer cells x (value_in Counter h) lane)
                (λ q. stage.Full) t refl next now;
          })
    ]

-- if calls agree with a history, they still agree after any offer
pub told_offer : (cells : ℕ) (calls : List Call) (h : History) (p x : ℕ) (lane : Lane) → Tells cells calls h
    → IsLaneAfter cells p lane (part (Producer p) h)
    → Tells cells (Offered p x (offer_answer cells (value_in Counter h) lane) ∷ calls)
    (history_after_offer p x (value_in Counter h) lane h)
told_offer cells calls h p x lane t here =
    by (offer_refusal lane) refl
  where
    by : (z : Option Offer) → offer_refusal lane ≡ z
        → Tells cells (Offered p x (unwrap_or (offer_refusal lane) (offer_by_found cells (value_in Counter h))) ∷ calls)
        (if is_some (offer_refusal lane) then h else (fetch p (record { cell = value_in Counter h; value = x }) ∷ h))
    by None is = rw is (told_fetch cells calls h p x lane t here is)
    by (Some r) is = rw is (told_refusal cells calls h p x lane r t here is)

-- a store to a head or link leaves the counter's value as it is
value_in-link : (p : ℕ) (last : Option ℕ) (v : ℕ) (h : History)
    → value_in Counter (store p (link_after p last) v ∷ h) ≡ value_in Counter h
value_in-link p None v h = refl
value_in-link p (Some k) v h = refl

-- a store to a head or link leaves the items that were offered for cells as they are
item_of-link : (p : ℕ) (last : Option ℕ) (v k : ℕ) (h : History)
    → item_of k (store p (link_after p last) v ∷ h) ≡ item_of k h
item_of-link p None v k h = refl
item_of-link p (Some j) v k h = refl

-- a store of k + 1, which is not the end mark, to a head or link adds cell k to its producer's lane, and to no other
linked_cells-link : (p q : ℕ) (last : Option ℕ) (k : ℕ) (h : History) → k + 1 ≢ END
    → linked_cells q (store p (link_after p last) (k + 1) ∷ h) ≡ cond (nat_eq q p) (k ∷ linked_cells q h)
    (linked_cells q h)
linked_cells-link p q None k h ne = let no_end : nat_eq (k + 1) END ≡ false = ne_eqb (k + 1) END ne in
    let m : (k + 1) - 1 ≡ k = omega arith in rw (no_end, m) refl
linked_cells-link p q (Some j) k h ne =
    let no_end : nat_eq (k + 1) END ≡ false = ne_eqb (k + 1) END ne in let m : (k + 1) - 1 ≡ k = omega arith in
    rw (no_end, m) refl

-- a store of k + 1 to a head or link ends no lane, if k + 1 is not the end mark
has_ended-link : (p q : ℕ) (last : Option ℕ) (k : ℕ) (h : History) → k + 1 ≢ END
    → has_ended q (store p (link_after p last) (k + 1) ∷ h) ≡ has_ended q h
has_ended-link p q None k h ne = let no_end : nat_eq (k + 1) END ≡ false = ne_eqb (k + 1) END ne in
    rw no_end (same_twice (nat_eq q p) (has_ended q h))
has_ended-link p q (Some j) k h ne = let no_end : nat_eq (k + 1) END ≡ false = ne_eqb (k + 1) END ne in
    rw no_end (same_twice (nat_eq q p) (has_ended q h))

-- a store of the end mark links no cell
linked_cells-end : (p q : ℕ) (last : Option ℕ) (h : History)
    → linked_cells q (store p (link_after p last) END ∷ h) ≡ linked_cells q h
linked_cells-end p q None h = same_twice (nat_eq q p) (linked_cells q h)
linked_cells-end p q (Some j) h = same_twice (nat_eq q p) (linked_cells q h)

-- a store of the end mark ends its producer's lane, and no other
has_ended-end : (p q : ℕ) (last : Option ℕ) (h : History)
    → has_ended q (store p (link_after p last) END ∷ h) ≡ cond (nat_eq q p) true (has_ended q h)
has_ended-end p q None h = refl
has_ended-end p q (Some j) h = refl

-- at the stage Stored the cell that is to be linked is one of the pool
stored_below : (cells p : ℕ) (lane : Lane) (done : History) (cell : ℕ) (phase : Phase) → PhaseFits cells phase
    → lane.stage ≡ stage_of phase → lane.stage ≡ stage.Stored cell → cell < cells
stored_below cells p lane done cell phase.Open f x y = absurd (let e = sym x ∙ y in cc)
stored_below cells p lane done cell (phase.Offered e) f x y = absurd (let z = sym x ∙ y in cc)
stored_below cells p lane done cell (phase.Stored e) f x y =
    let z : stage.Stored e.cell ≡ stage.Stored cell = sym x ∙ y in
    let same : e.cell ≡ cell = cc in
    subst (λ n. n < cells) same f
stored_below cells p lane done cell (phase.Full e) f x y = absurd (let z = sym x ∙ y in cc)
stored_below cells p lane done cell (phase.Ended None) f x y = absurd (let z = sym x ∙ y in cc)
stored_below cells p lane done cell (phase.Ended (Some e)) f x y = absurd (let z = sym x ∙ y in cc)

-- if calls agree with a history, they still agree after a push that stores the item
told_item : (cells : ℕ) (calls : List Call) (h : History) (p : ℕ) (lane : Lane) (cell item : ℕ) → Tells cells calls h
    → IsLaneAfter cells p lane (part (Producer p) h) → lane.stage ≡ stage.Offered cell item
    → Tells cells (Pushed p (push.Item cell) ∷ calls) (store p (Item cell) item ∷ h)
told_item cells calls h p lane cell item t here is =
    let some : push_store p lane ≡ Some (Item cell, item) = ap (stage_push_store (next_link p lane)) is in
    let next = pushed_lane cells p lane (part (Producer p) h) (Item cell, item) here some in
    record {
      adds = t.adds;
      items = t.items;
      cells_linked = λ q. same_twice (nat_eq q p) (linked_cells q h) ∙ t.cells_linked q
          ∙ sym (same_twice (nat_eq q p) (linked_cells_by q calls));
      ends = λ q. same_twice (nat_eq q p) (has_ended q h) ∙ t.ends q;
      stages = stages_after cells calls h (store p (Item cell) item) p (lane_after_push lane)
          (λ q. stage.Stored cell) t refl next (ap stage_after_push is);
    }

-- if calls agree with a history, they still agree after a push that stores the link
told_link : (cells : ℕ) (calls : List Call) (h : History) (p : ℕ) (lane : Lane) (cell : ℕ) → cells < END
    → Tells cells calls h → IsLaneAfter cells p lane (part (Producer p) h) → lane.stage ≡ stage.Stored cell
    → Tells cells (Pushed p (push.Link cell) ∷ calls) (store p (next_link p lane) (cell + 1) ∷ h)
told_link cells calls h p lane cell sized t here is =
    let some : push_store p lane ≡ Some (next_link p lane, cell + 1) = ap (stage_push_store (next_link p lane)) is in
    let next = pushed_lane cells p lane (part (Producer p) h) (next_link p lane, cell + 1) here some in
    let low : cell < cells = stored_below cells p lane
    (part (Producer p) h) cell here.phase here.at.fits here.stage is in
    let ne : cell + 1 ≢ END = λ e. absurd (omega arith) in
    record {
      adds = value_in-link p lane.last (cell + 1) h ∙ t.adds;
      items = λ k b. item_of-link p lane.last (cell + 1) k h ∙ t.items k b;
      cells_linked = λ q. linked_cells-link p q lane.last cell h ne
          ∙ ap (λ ks. cond (nat_eq q p) (cell ∷ ks) ks) (t.cells_linked q);
      ends = λ q. has_ended-link p q lane.last cell h ne ∙ t.ends q;
      stages = stages_after cells calls h (store p (next_link p lane) (cell + 1)) p (lane_after_push lane)
          (λ q. stage.Open) t refl next (ap stage_after_push is);
    }

-- if calls agree with a history, they still agree after a push that makes no store
told_idle : (cells : ℕ) (calls : List Call) (h : History) (p : ℕ) → Tells cells calls h
    → Tells cells (Pushed p push.Idle ∷ calls) h
told_idle cells calls h p t = record {
  adds = t.adds;
  items = t.items;
  cells_linked = λ q. t.cells_linked q ∙ sym (same_twice (nat_eq q p) (linked_cells_by q calls));
  ends = t.ends;
  stages = stages_kept cells calls h p (stage_by_push push.Idle) refl t;
}

-- if calls agree with a history, they still agree after any push
pub told_push : (cells : ℕ) (calls : List Call) (h : History) (p : ℕ) (lane : Lane) → cells < END
    → Tells cells calls h → IsLaneAfter cells p lane (part (Producer p) h)
    → Tells cells (Pushed p (push_answer lane) ∷ calls) (history_after_push p lane h)
told_push cells calls h p lane sized t here =
    by lane.stage refl
  where
    by : (z : LaneStage) → lane.stage ≡ z
        → Tells cells (Pushed p (stage_push_answer lane.stage) ∷ calls)
        (option_map_or (λ s. store p s.0 s.1 ∷ h) (stage_push_store (next_link p lane) lane.stage) h)
    by (stage.Offered cell item) is = rw is (told_item cells calls h p lane cell item t here is)
    by (stage.Stored cell) is = rw is (told_link cells calls h p lane cell sized t here is)
    by (stage.Ended full) is = rw is (told_idle cells calls h p t)
    by stage.Full is = rw is (told_idle cells calls h p t)
    by stage.Open is = rw is (told_idle cells calls h p t)

-- calls still agree with a history after a finish without an access, if its answer is not Ended and keeps the stage
told_no_finish : (cells : ℕ) (calls : List Call) (h : History) (p : ℕ) (r : Finish) → is_end r ≡ false
    → stage_by_finish r (stage_by p calls) ≡ stage_by p calls
    → Tells cells calls h → Tells cells (Finished p r ∷ calls) h
told_no_finish cells calls h p r no_end keeps t = record {
  adds = t.adds;
  items = t.items;
  cells_linked = t.cells_linked;
  ends = λ q. rw no_end (t.ends q ∙ sym (same_twice (nat_eq q p) (has_ended_by q calls)));
  stages = stages_kept cells calls h p (stage_by_finish r) keeps t;
}

-- if calls agree with a history, they still agree after a finish that stores the end mark
told_end : (cells : ℕ) (calls : List Call) (h : History) (p : ℕ) (lane : Lane) → Tells cells calls h
    → IsLaneAfter cells p lane (part (Producer p) h) → finish_refusal lane ≡ None
    → Tells cells (Finished p finish.Ended ∷ calls) (store p (next_link p lane) END ∷ h)
told_end cells calls h p lane t here going =
    let next = finished_lane cells p lane (part (Producer p) h) here going in
    record {
      adds = value_in-link p lane.last END h ∙ t.adds;
      items = λ k b. item_of-link p lane.last END k h ∙ t.items k b;
      cells_linked = λ q. linked_cells-end p q lane.last h ∙ t.cells_linked q;
      ends = λ q. has_ended-end p q lane.last h ∙ ap (λ b. cond (nat_eq q p) true b) (t.ends q);
      stages = stages_after cells calls h (store p (next_link p lane) END) p (lane_after_finish lane)
          (λ q. stage.Ended (is_full (stage_by q calls))) t refl next
          (ap (λ z. stage.Ended (is_full z)) (t.stages p lane here));
    }

-- if calls agree with a history, they still agree after any finish
pub told_finish : (cells : ℕ) (calls : List Call) (h : History) (p : ℕ) (lane : Lane) → Tells cells calls h
    → IsLaneAfter cells p lane (part (Producer p) h)
    → Tells cells (Finished p (finish_answer lane) ∷ calls) (history_after_finish p lane h)
told_finish cells calls h p lane t here =
    by lane.stage refl
  where
    by : (z : LaneStage) → lane.stage ≡ z
        → Tells cells (Finished p (unwrap_or (stage_finish_refusal lane.stage) finish.Ended) ∷ calls)
        (if is_some (stage_finish_refusal lane.stage) then h else (store p (next_link p lane) END ∷ h))
    by (stage.Offered cell item) is = rw is (told_no_finish cells calls h p finish.Busy refl refl t)
    by (stage.Stored cell) is = rw is (told_no_finish cells calls h p finish.Busy refl refl t)
    by (stage.Ended full) is = rw is (told_no_finish cells calls h p finish.Closed refl refl t)
    by stage.Full is = rw is (told_end cells calls h p lane t here (ap stage_finish_refusal is))
    by stage.Open is = rw is (told_end cells calls h p lane t here (ap stage_finish_refusal is))
