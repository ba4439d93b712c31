-- What a list of calls with their answers says of the pool after them.
use Rattle.std.proofs.Common.{List, [], ap, arith, inl, inr, refl, subst, sym, ℕ, ◌<◌, ◌∙◌, ◌∷◌, ◌≡◌}
use Rattle.std.specs.Prelude.{if◌then◌else◌, map, reverse, slice_index_or, unwrap_or}
use Rattle.mb_cells.specs.declared.answer.Finish.TheVariants as finish
use Rattle.mb_cells.specs.declared.cursor.Cursor.TheVariants as cursor
use Rattle.mb_cells.specs.declared.answer.Look.TheVariants as look
use Rattle.mb_cells.specs.{Call, Counter, Finished, Has, HasMade, Head, History, IsAfter, IsAnswerBy, IsOnceEach, Item, Link, Offered, PoolSize}
use Rattle.mb_cells.specs.{PoolState, Pushed, Reads, cell_count, entry_of, has_ended, history_after_finish, history_after_offer, history_after_push}
use Rattle.mb_cells.specs.{item_by, item_in, item_of, lane_count, lane_end, lane_end_by, linked_cells, linked_cells_by, look_in, look_of, new_lane}
use Rattle.mb_cells.specs.{offer_by_found, place_past, put_list, put_list_by, size_of, stage_by, stage_finish_refusal, stage_offer_refusal}
use Rattle.mb_cells.specs.{stage_push_answer, value_in, word_in, word_of}
use Rattle.mb_cells.proofs.CallHistories.{Tells, told_finish, told_nothing, told_offer, told_push}
use Rattle.mb_cells.proofs.EndMarks.{end_word}
use Rattle.mb_cells.proofs.Items.{LeadThrough, cell_within, item_held, lead_through, once_each, one_lane, same_map}
use Rattle.mb_cells.proofs.LaneReading.{cursor_past, end_look, reads_back}

-- if the words that a history leaves lead through these cells of the pool, so do the words of each state that it leaves
lead_words : (h : History) (s : PoolState) (p : ℕ) (ks : List ℕ) → IsAfter h s → p < lane_count s
    → ((k : ℕ) → Has ks k → k < cell_count s)
    → LeadThrough (λ w. value_in w h) p ks → LeadThrough (λ w. word_in w s.words) p ks
lead_words h s p [] after lt low lead = tt
lead_words h s p (k ∷ []) after lt low lead = (after.words (Head p) lt ∙ lead.0, tt)
lead_words h s p (k ∷ j ∷ ks) after lt low lead = (
  after.words (Link j) (low j (inr (inl refl)))
      ∙ lead.0,
  lead_words h s p (j ∷ ks) after lt (λ i has. low i (inr has)) lead.1,
)

-- in a state that a history leaves, the word past these cells of the pool holds what the history leaves in it
last_word : (h : History) (s : PoolState) (p : ℕ) (ks : List ℕ) → IsAfter h s → p < lane_count s
    → ((k : ℕ) → Has ks k → k < cell_count s)
    → word_in (word_of (cursor_past p ks)) s.words ≡ value_in (place_past p ks) h
last_word h s p [] after lt low = after.words (Head p) lt
last_word h s p (k ∷ ks) after lt low = after.words (Link k) (low k (inl refl))

-- looks along a lane of a state give the put list of any history that leaves the state, and then the lane's end
pub state_reads : (h : History) (s : PoolState) (p : ℕ) → IsAfter h s → p < lane_count s
    → Reads (λ at. look_in at s) (λ k. item_in k s) (cursor.Head p) (put_list p h) (lane_end p h)
state_reads h s p after lt =
    let l = after.lawful in
    let low : (k : ℕ) → Has (linked_cells p h) k
    → k < cell_count s = λ k has. (cell_within (size_of s) h p k l has).1 in
    reads_back (λ w. word_in w s.words) (λ k. item_of k h) p (linked_cells p h) [] (lane_end p h)
    (λ k has. let b : k < cell_count s = low k has in
    (λ e. absurd (omega (arith, l.sized)), after.words (Item k) b ∙ item_held (size_of s) h p k l has))
    (lead_words h s p (linked_cells p h) after lt low (lead_through (size_of s) h p l))
    (ap look_of (last_word h s p (linked_cells p h) after lt low ∙ end_word (size_of s) h p l)
    ∙ end_look (has_ended p h))

-- the state has the pool's size, and some history that leaves it agrees with the calls
pub record Stands (size : PoolSize) (calls : List Call) (s : PoolState) : Type 0 where
  pub lanes_are : lane_count s ≡ size.lanes
  pub cells_are : cell_count s ≡ size.cells
  pub history : History
  pub after : IsAfter history s
  pub tells : Tells (cell_count s) calls history

-- the state after a list of calls is one that `Stands` describes
pub made_stands : (size : PoolSize) (calls : List Call) (s : PoolState) → HasMade size calls s → Stands size calls s
made_stands size [] s made = record {
  lanes_are = made.0;
  cells_are = made.1;
  history = [];
  after = made.2;
  tells = told_nothing (cell_count s);
}
made_stands size (Offered p x r ∷ older) s (was, (made, (lt, meets, same))) =
    let b = made_stands size older was made in
    let lane = slice_index_or was.lanes p new_lane in
    let here = b.after.lanes p new_lane lt in
    let m = meets b.history lane b.after here in
    let told = told_offer (cell_count was) older b.history p x lane b.tells here in
    record {
      lanes_are = same.0 ∙ b.lanes_are;
      cells_are = same.1 ∙ b.cells_are;
      history = history_after_offer p x (value_in Counter b.history) lane b.history;
      after = m.1;
      tells = subst (λ n. Tells n (Offered p x r ∷ older)
          (history_after_offer p x (value_in Counter b.history) lane b.history)) (sym same.1)
          (subst (λ a. Tells (cell_count was) (Offered p x a ∷ older)
          (history_after_offer p x (value_in Counter b.history) lane b.history)) (sym m.0) told);
    }
made_stands size (Pushed p r ∷ older) s (was, (made, (lt, meets, same))) =
    let b = made_stands size older was made in
    let lane = slice_index_or was.lanes p new_lane in
    let here = b.after.lanes p new_lane lt in
    let m = meets b.history lane b.after here in
    let told = told_push (cell_count was) older b.history p lane b.after.lawful.sized b.tells here in
    record {
      lanes_are = same.0 ∙ b.lanes_are;
      cells_are = same.1 ∙ b.cells_are;
      history = history_after_push p lane b.history;
      after = m.1;
      tells = subst (λ n. Tells n (Pushed p r ∷ older) (history_after_push p lane b.history)) (sym same.1)
          (subst (λ a. Tells (cell_count was) (Pushed p a ∷ older) (history_after_push p lane b.history))
          (sym m.0) told);
    }
made_stands size (Finished p r ∷ older) s (was, (made, (lt, meets, same))) =
    let b = made_stands size older was made in
    let lane = slice_index_or was.lanes p new_lane in
    let here = b.after.lanes p new_lane lt in
    let m = meets b.history lane b.after here in
    let told = told_finish (cell_count was) older b.history p lane b.tells here in
    record {
      lanes_are = same.0 ∙ b.lanes_are;
      cells_are = same.1 ∙ b.cells_are;
      history = history_after_finish p lane b.history;
      after = m.1;
      tells = subst (λ n. Tells n (Finished p r ∷ older) (history_after_finish p lane b.history)) (sym same.1)
          (subst (λ a. Tells (cell_count was) (Finished p a ∷ older) (history_after_finish p lane b.history))
          (sym m.0) told);
    }

-- after a list of calls, looks along a lane give the put list and the end that the calls alone say
pub calls_read : (size : PoolSize) (p : ℕ) (calls : List Call) (s : PoolState) → HasMade size calls s → p < size.lanes
    → Reads (λ at. look_in at s) (λ k. item_in k s) (cursor.Head p) (put_list_by p calls) (lane_end_by p calls)
calls_read size p calls s made lt =
    let b = made_stands size calls s made in
    let l = b.after.lawful in
    let here : p < lane_count s = omega (arith, b.lanes_are) in
    let same =
    same_map (λ k. item_of k b.history) (λ k. item_by k calls) (linked_cells p b.history)
    (λ k has. b.tells.items k (cell_within (size_of s) b.history p k l has).1) in
    let list : put_list p b.history ≡ put_list_by p calls =
    ap reverse same ∙ ap (λ ks. reverse (map (entry_of (λ k. item_by k calls)) ks)) (b.tells.cells_linked p) in
    subst (λ z. Reads (λ at. look_in at s) (λ k. item_in k s) (cursor.Head p) z (lane_end_by p calls)) list
    (subst (λ z. Reads (λ at. look_in at s) (λ k. item_in k s) (cursor.Head p) (put_list p b.history)
    (if z then look.Ended else look.Nothing)) (b.tells.ends p)
    (state_reads b.history s p b.after here))

-- each call returns what follows from the calls before it (`IsAnswerBy`)
pub calls_answer : (size : PoolSize) (c : Call) (older : List Call) (s : PoolState) → HasMade size (c ∷ older) s
    → IsAnswerBy size.cells c older
calls_answer size (Offered p x r) older s (was, (made, (lt, meets, same))) =
    let b = made_stands size older was made in
    let here = b.after.lanes p new_lane lt in
    let m = meets b.history (slice_index_or was.lanes p new_lane) b.after here in
    m.0
    ∙ ap (λ z. unwrap_or (stage_offer_refusal z) (offer_by_found (cell_count was) (value_in Counter b.history)))
    (b.tells.stages p (slice_index_or was.lanes p new_lane) here)
    ∙ ap (λ n. unwrap_or (stage_offer_refusal (stage_by p older)) (offer_by_found n (value_in Counter b.history)))
    b.cells_are
    ∙ ap (λ n. unwrap_or (stage_offer_refusal (stage_by p older)) (offer_by_found size.cells n)) b.tells.adds
calls_answer size (Pushed p r) older s (was, (made, (lt, meets, same))) =
    let b = made_stands size older was made in
    let here = b.after.lanes p new_lane lt in
    let m = meets b.history (slice_index_or was.lanes p new_lane) b.after here in
    m.0 ∙ ap stage_push_answer (b.tells.stages p (slice_index_or was.lanes p new_lane) here)
calls_answer size (Finished p r) older s (was, (made, (lt, meets, same))) =
    let b = made_stands size older was made in
    let here = b.after.lanes p new_lane lt in
    let m = meets b.history (slice_index_or was.lanes p new_lane) b.after here in
    m.0 ∙ ap (λ z. unwrap_or (stage_finish_refusal z) finish.Ended)
    (b.tells.stages p (slice_index_or was.lanes p new_lane) here)

-- no cell is linked into two lanes
pub calls_once : (size : PoolSize) (p q k : ℕ) (calls : List Call) (s : PoolState) → HasMade size calls s
    → Has (linked_cells_by p calls) k → Has (linked_cells_by q calls) k → p ≡ q
calls_once size p q k calls s made x y =
    let b = made_stands size calls s made in
    one_lane (size_of s) b.history p q k b.after.lawful
    (subst (λ z. Has z k) (sym (b.tells.cells_linked p)) x) (subst (λ z. Has z k) (sym (b.tells.cells_linked q)) y)

-- no cell is linked into a lane twice
pub calls_once_each : (size : PoolSize) (p : ℕ) (calls : List Call) (s : PoolState) → HasMade size calls s
    → IsOnceEach (linked_cells_by p calls)
calls_once_each size p calls s made =
    let b = made_stands size calls s made in
    subst IsOnceEach (b.tells.cells_linked p) (once_each (size_of s) b.history p b.after.lawful)

-- each linked cell is one of the pool, and so is its lane
pub calls_within : (size : PoolSize) (p k : ℕ) (calls : List Call) (s : PoolState) → HasMade size calls s
    → Has (linked_cells_by p calls) k → (p < lane_count s) × (k < cell_count s)
calls_within size p k calls s made has =
    let b = made_stands size calls s made in
    cell_within (size_of s) b.history p k b.after.lawful (subst (λ z. Has z k) (sym (b.tells.cells_linked p)) has)
