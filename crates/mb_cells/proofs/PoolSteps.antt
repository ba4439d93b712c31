-- The state of a pool after one access of a producer, and what each call of a lane leaves.
use Rattle.std.proofs.Common.{List, None, Some, [], ap, arith, eq-eqb, false, inl, inr, length, ne_eqb, refl, subst, sym, ℕ, ◌+◌, ◌-◌, ◌<◌, ◌^◌, ◌∙◌, ◌∷◌, ◌≡◌, ◌≢◌}
use Rattle.std.specs.Prelude.{if◌then◌else◌, is_some, slice_index, slice_index_or, slice_set, unwrap_or}
use Rattle.std.proofs.Math.ListN.{length-replicate, length-set, replicate}
use Rattle.std.proofs.lemmas.Bool.{cases_Bool, cases_eq, false≢true}
use Rattle.std.proofs.lemmas.List.{get_or-replicate, get_or-set_other, get_or-set_same}
use Rattle.std.specs.Option.{option_map_or}
use Rattle.mb_cells.specs.declared.answer.Finish.TheVariants as finish
use Rattle.mb_cells.specs.declared.cursor.Cursor.TheVariants as cursor
use Rattle.mb_cells.specs.{ActFits, Counter, Cursor, END, Entry, FinishMeets, HasWord, Head, History, HoldsWords, IsAfter, IsLaneAfter, IsLinkWord}
use Rattle.mb_cells.specs.{IsPoolLawful, IsPoolWord, PoolIsSound, IsWithin, IsLaneWord, Item, Lane, Link, OfferMeets, PoolAccess, PoolSize, PoolState}
use Rattle.mb_cells.specs.{PoolWords, Producer, PushMeets, ReadsLast, Word, cell_count, fetch, finish_refusal, is_same_process, is_same_word}
use Rattle.mb_cells.specs.{lane_after_finish, lane_after_offer, lane_after_push, lane_count, new_lane, next_link, offer_by_found, offer_refusal, part}
use Rattle.mb_cells.specs.{pool_size, push_answer, push_store, size_of, store, stored_by, value_in, word_in, word_of, words_with}
use Rattle.mb_cells.proofs.Counts.{counter_bound}
use Rattle.mb_cells.proofs.Items.{cell_within, leads_to}
use Rattle.mb_cells.proofs.LaneSteps.{finished_lane, lane_prefix, offered_lane, pushed_lane, same_lane, start_lane}
use Rattle.mb_cells.proofs.Names.{is_same_word-eq, own_process, value_in-other, value_in-stored}
use Rattle.mb_cells.proofs.NextAccesses.{link_within, push_value, push_within}
use Rattle.mb_cells.proofs.OneStep.{empty_lawful, producer_step}
use Rattle.mb_cells.proofs.Parts.{part-other, part-own}

-- lane p in a state is producer p's place, by its part of each history that leaves the state
pub lane_here : (h : History) (s : PoolState) (p : ℕ) (lane : Lane) → p < lane_count s → IsAfter h s
    → lane ≡ slice_index_or s.lanes p lane → IsLaneAfter (cell_count s) p lane (part (Producer p) h)
lane_here h s p lane lt after is =
    subst (λ l. IsLaneAfter (cell_count s) p l (part (Producer p) h)) (sym is) (after.lanes p lane lt)

-- if each lane in the list is its producer's place, it is so after an access of producer p too, with p's new place
lanes_after : (h : History) (a : PoolAccess) (cells p : ℕ) (lanes : List Lane) (lane : Lane) → a.process ≡ Producer p
    → p < length lanes
    → ((q : ℕ) (d : Lane) → q < length lanes → IsLaneAfter cells q (slice_index_or lanes q d) (part (Producer q) h))
    → IsLaneAfter cells p lane (a ∷ part (Producer p) h)
    → (q : ℕ) (d : Lane) → q < length (slice_set lanes p lane)
    → IsLaneAfter cells q (slice_index_or (slice_set lanes p lane) q d) (part (Producer q) (a ∷ h))
lanes_after h a cells p lanes lane who lt before now q d bound =
    let within : q < length lanes = omega (arith, length-set lanes p lane) in
    elim (cases_eq q p) [
      | inl same ↦
          let own = own_process (Producer p) a who in
          subst (λ z. IsLaneAfter cells z (slice_index_or (slice_set lanes p lane) z d) (part (Producer z) (a ∷ h)))
          (sym same)
          (subst (λ l. IsLaneAfter cells p l (part (Producer p) (a ∷ h))) (sym (get_or-set_same lanes p lane d lt))
          (subst (IsLaneAfter cells p lane) (sym (part-own (Producer p) a h own)) now))
      | inr other ↦
          let not_own : is_same_process (Producer q) a.process ≡ false =
          subst (λ x. is_same_process (Producer q) x ≡ false) (sym who) (ne_eqb q p other) in
          subst (λ l. IsLaneAfter cells q l (part (Producer q) (a ∷ h))) (sym (get_or-set_other lanes p q lane d other))
          (subst (IsLaneAfter cells q (slice_index_or lanes q d)) (sym (part-other (Producer q) a h not_own))
          (before q d within))
    ]

-- after an access of producer p the state has the words `ws` and p's place `lane`, if the longer history leaves these
access_after : (h : History) (a : PoolAccess) (s : PoolState) (p : ℕ) (lane : Lane) (ws : PoolWords) → IsAfter h s
    → a.process ≡ Producer p → p < lane_count s
    → length ws.items ≡ cell_count s → ActFits a.act → ReadsLast a.word a.act h
    → IsLaneAfter (cell_count s) p lane (a ∷ part (Producer p) h)
    → HoldsWords (size_of s) ws (a ∷ h)
    → IsAfter (a ∷ h) (record { words = ws; lanes = slice_set s.lanes p lane })
access_after h a s p lane ws was who lt same fits truth now holds =
    let n : length (slice_set s.lanes p lane) ≡ lane_count s = length-set s.lanes p lane in
    let wide : size_of s ≡ pool_size (length (slice_set s.lanes p lane)) (length ws.items) =
    ap (λ z. pool_size z (cell_count s)) (sym n)
    ∙ ap (pool_size (length (slice_set s.lanes p lane))) (sym same) in
    let path = lane_prefix (cell_count s) p lane (a ∷ part (Producer p) h) now in
    let lawful = producer_step (size_of s) h a p was.lawful who lt fits truth path in
    let after = lanes_after h a (cell_count s) p s.lanes lane who lt was.lanes now in
    record {
      lawful = subst (λ z. IsPoolLawful z (a ∷ h)) wide lawful;
      words = subst (λ z. HoldsWords z ws (a ∷ h)) wide holds;
      lanes = λ q d b.
          let at = slice_index_or (slice_set s.lanes p lane) q d in
          subst (λ z. IsLaneAfter z q at (part (Producer q) (a ∷ h))) (sym same) (after q d b);
    }

-- after a store the word that was stored to holds the value
words_with-same : (w : Word) (v : ℕ) (ws : PoolWords) → HasWord w ws → word_in w (words_with w v ws) ≡ v
words_with-same Counter v ws has = refl
words_with-same (Head p) v ws has = get_or-set_same ws.heads p v 0 has
words_with-same (Link k) v ws has = get_or-set_same ws.links k v 0 has
words_with-same (Item k) v ws has = get_or-set_same ws.items k v 0 has

-- after a store each other word holds what it held
words_with-other : (w x : Word) (v : ℕ) (ws : PoolWords) → is_same_word w x ≡ false
    → word_in x (words_with w v ws) ≡ word_in x ws
words_with-other Counter Counter v ws differs = absurd (false≢true (sym differs))
words_with-other (Head p) (Head q) v ws differs =
    get_or-set_other ws.heads p q v 0 (λ e. absurd (false≢true (sym differs ∙ eq-eqb p q (sym e))))
words_with-other (Link j) (Link k) v ws differs =
    get_or-set_other ws.links j k v 0 (λ e. absurd (false≢true (sym differs ∙ eq-eqb j k (sym e))))
words_with-other (Item j) (Item k) v ws differs =
    get_or-set_other ws.items j k v 0 (λ e. absurd (false≢true (sym differs ∙ eq-eqb j k (sym e))))
words_with-other _ _ v ws differs = refl

-- after an access that stores a value, each word holds what the longer history leaves in it
words_after : (size : PoolSize) (ws : PoolWords) (h : History) (a : PoolAccess) (v : ℕ) → HasWord a.word ws
    → stored_by a.act ≡ Some v → HoldsWords size ws h → HoldsWords size (words_with a.word v ws) (a ∷ h)
words_after size ws h a v has stores holds w within =
    elim (cases_Bool (is_same_word a.word w)) [
      | inl same ↦
          let here : a.word ≡ w = is_same_word-eq a.word w same in
          subst (λ x. word_in x (words_with a.word v ws) ≡ v) here (words_with-same a.word v ws has)
          ∙ sym (value_in-stored a h w v here stores)
      | inr other ↦
          words_with-other a.word w v ws other ∙ holds w within ∙ sym (value_in-other a h w other)
    ]

-- a store leaves the number of items as it is
pub words_with-items : (ws : PoolWords) (w : Word) (v : ℕ) → length (words_with w v ws).items ≡ length ws.items
words_with-items ws Counter v = refl
words_with-items ws (Head q) v = refl
words_with-items ws (Link k) v = refl
words_with-items ws (Item k) v = length-set ws.items k v

-- a store leaves the number of heads as it is
pub words_with-heads : (ws : PoolWords) (w : Word) (v : ℕ) → length (words_with w v ws).heads ≡ length ws.heads
words_with-heads ws Counter v = refl
words_with-heads ws (Head q) v = length-set ws.heads q v
words_with-heads ws (Link k) v = refl
words_with-heads ws (Item k) v = refl

-- a store leaves the number of links as it is
pub words_with-links : (ws : PoolWords) (w : Word) (v : ℕ) → length (words_with w v ws).links ≡ length ws.links
words_with-links ws Counter v = refl
words_with-links ws (Head q) v = refl
words_with-links ws (Link k) v = length-set ws.links k v
words_with-links ws (Item k) v = refl

-- after a store of producer p the state has the value in its word, and p at the place `lane`
store_after : (h : History) (s : PoolState) (p : ℕ) (w : Word) (v : ℕ) (lane : Lane) → IsAfter h s → p < lane_count s
    → HasWord w s.words → v < 2 ^ 64
    → IsLaneAfter (cell_count s) p lane (store p w v ∷ part (Producer p) h)
    → IsAfter (store p w v ∷ h) (record { words = words_with w v s.words; lanes = slice_set s.lanes p lane })
store_after h s p w v lane was lt has fits now =
    access_after h (store p w v) s p lane (words_with w v s.words) was refl lt
    (words_with-items s.words w v) fits tt now (words_after (size_of s) s.words h (store p w v) v has refl was.words)

-- after a fetch-add of producer p the state has the counter raised by one, and p at the place `lane`
fetch_after : (h : History) (s : PoolState) (p x : ℕ) (lane : Lane) → IsAfter h s → p < lane_count s → x < 2 ^ 64
    → s.words.counter < 2 ^ 64
    → IsLaneAfter (cell_count s) p lane
    (fetch p (record { cell = value_in Counter h; value = x }) ∷ part (Producer p) h)
    → IsAfter (fetch p (record { cell = value_in Counter h; value = x }) ∷ h)
    (record { words = words_with Counter (s.words.counter + 1) s.words; lanes = slice_set s.lanes p lane })
fetch_after h s p x lane was lt fits small now =
    let e : Entry = record { cell = value_in Counter h; value = x } in
    let found : s.words.counter ≡ value_in Counter h = was.words Counter tt in
    let more : Some (value_in Counter h + 1) ≡ Some (s.words.counter + 1) = ap (λ n. Some (n + 1)) (sym found) in
    access_after h (fetch p e) s p lane (words_with Counter (s.words.counter + 1) s.words) was refl lt refl
    (fits, omega (arith, found)) refl now
    (words_after (size_of s) s.words h (fetch p e) (s.words.counter + 1) tt more was.words)

-- an offer that makes a fetch-add does what the clause `meets` says
pub offer_made : (s : PoolState) (p x : ℕ) (lane : Lane) → p < lane_count s → lane ≡ slice_index_or s.lanes p lane
    → offer_refusal lane ≡ None → x < 2 ^ 64 → s.words.counter < 2 ^ 64
    → OfferMeets s p x (offer_by_found (cell_count s) s.words.counter)
    (record {
      words = words_with Counter (s.words.counter + 1) s.words;
      lanes = slice_set s.lanes p (lane_after_offer (cell_count s) x s.words.counter lane);
    })
offer_made s p x lane lt read going fits small h other was at =
    let here = lane_here h s p lane lt was read in
    let same : lane ≡ other = same_lane (cell_count s) p lane other (part (Producer p) h) here at in
    let goes : offer_refusal other ≡ None = sym (ap offer_refusal same) ∙ going in
    let e : Entry = record { cell = value_in Counter h; value = x } in
    let next = offered_lane (cell_count s) p lane (part (Producer p) h) e here going in
    let there = lane_after_offer (cell_count s) x s.words.counter lane in
    let moved : IsLaneAfter (cell_count s) p there (fetch p e ∷ part (Producer p) h) =
    subst (λ n. IsLaneAfter (cell_count s) p (lane_after_offer (cell_count s) x n lane)
    (fetch p e ∷ part (Producer p) h)) (sym (was.words Counter tt)) next in
    let now : PoolState =
    record { words = words_with Counter (s.words.counter + 1) s.words; lanes = slice_set s.lanes p there } in (
      ap (offer_by_found (cell_count s)) (was.words Counter tt)
          ∙ sym (ap (λ r. unwrap_or r (offer_by_found (cell_count s) (value_in Counter h))) goes),
      subst (λ r. IsAfter (if is_some r then h else (fetch p e ∷ h)) now) (sym goes)
          (fetch_after h s p x there was lt fits small moved),
    )

-- a head, link or item within the pool's size is among the pool's words
pub word_here : (s : PoolState) (w : Word) → PoolIsSound s → IsLaneWord (size_of s) w → HasWord w s.words
word_here s Counter sound within = tt
word_here s (Head p) sound within = omega (arith, sound.heads)
word_here s (Link k) sound within = omega (arith, sound.links)
word_here s (Item k) sound within = within

-- the store of a push is to a head, link or item of the pool, and its value is below 2^64
pub push_fits : (s : PoolState) (p : ℕ) (lane : Lane) (st : Word × ℕ) → p < lane_count s → PoolIsSound s
    → lane ≡ slice_index_or s.lanes p lane → push_store p lane ≡ Some st
    → IsLaneWord (size_of s) st.0 × (st.1 < 2 ^ 64)
push_fits s p lane st lt sound read is =
    let h = sound.history.0 in
    let was = sound.history.1 in
    let here = lane_here h s p lane lt was read in (
      push_within (size_of s) p lane (part (Producer p) h) st.0 st.1 lt here is,
      push_value (size_of s) h p lane st.0 st.1 was.lawful here is,
    )

-- a push that makes a store does what the clause `meets` says
pub push_made : (s : PoolState) (p : ℕ) (lane : Lane) (st : Word × ℕ) → p < lane_count s → PoolIsSound s
    → lane ≡ slice_index_or s.lanes p lane → push_store p lane ≡ Some st
    → PushMeets s p (push_answer lane)
    (record { words = words_with st.0 st.1 s.words; lanes = slice_set s.lanes p (lane_after_push lane) })
push_made s p lane st lt sound read is h other was at =
    let here = lane_here h s p lane lt was read in
    let same : lane ≡ other = same_lane (cell_count s) p lane other (part (Producer p) h) here at in
    let goes : push_store p other ≡ Some st = sym (ap (push_store p) same) ∙ is in
    let fits = push_fits s p lane st lt sound read is in
    let moved = pushed_lane (cell_count s) p lane (part (Producer p) h) st here is in
    let now : PoolState =
    record { words = words_with st.0 st.1 s.words; lanes = slice_set s.lanes p (lane_after_push lane) } in (
      ap push_answer same,
      subst (λ z. IsAfter (option_map_or (λ x. store p x.0 x.1 ∷ h) z h) now) (sym goes)
          (store_after h s p st.0 st.1 (lane_after_push lane) was lt (word_here s st.0 sound fits.0) fits.1 moved),
    )

-- a finish that stores the end mark does what the clause `meets` says
pub finish_made : (s : PoolState) (p : ℕ) (lane : Lane) → p < lane_count s → PoolIsSound s
    → lane ≡ slice_index_or s.lanes p lane → finish_refusal lane ≡ None
    → FinishMeets s p finish.Ended
    (record { words = words_with (next_link p lane) END s.words; lanes = slice_set s.lanes p (lane_after_finish lane) })
finish_made s p lane lt sound read going h other was at =
    let here = lane_here h s p lane lt was read in
    let same : lane ≡ other = same_lane (cell_count s) p lane other (part (Producer p) h) here at in
    let goes : finish_refusal other ≡ None = sym (ap finish_refusal same) ∙ going in
    let link = link_within (size_of s) p lane (part (Producer p) h) lt here in
    let now : PoolState =
    record {
      words = words_with (next_link p lane) END s.words;
      lanes = slice_set s.lanes p (lane_after_finish lane);
    } in
    let after : IsAfter (store p (next_link p lane) END ∷ h) now =
    store_after h s p (next_link p lane) END (lane_after_finish lane) was lt
    (word_here s (next_link p lane) sound link) (omega arith)
    (finished_lane (cell_count s) p lane (part (Producer p) h) here going) in (
      sym (ap (λ r. unwrap_or r finish.Ended) goes),
      subst (λ r. IsAfter (if is_some r then h else (store p (next_link p other) END ∷ h)) now) (sym goes)
          (subst (λ l. IsAfter (store p (next_link p l) END ∷ h) now) same after),
    )

-- a look at a cursor within the pool loads a word that the pool has
pub cursor_word : (s : PoolState) (at : Cursor) → PoolIsSound s → IsWithin at s → HasWord (word_of at) s.words
cursor_word s (cursor.Head p) sound within = omega (arith, sound.heads)
cursor_word s (cursor.Past k) sound within = omega (arith, sound.links)

-- if a head or link holds neither 0 nor the end mark, it leads to a cell of the pool
pub link_bound : (s : PoolState) (at : Cursor) (v : ℕ) → PoolIsSound s → IsWithin at s
    → word_in (word_of at) s.words ≡ v
    → v ≢ 0 → v ≢ END → v - 1 < cell_count s
link_bound s at v sound within is some no_end =
    let h = sound.history.0 in
    let was = sound.history.1 in
    let back : (v - 1) + 1 ≡ v = omega arith in
    let told : value_in (word_of at) h ≡ (v - 1) + 1 = sym (word_told h s at sound was within) ∙ is ∙ sym back in
    let cell = leads_to (size_of s) h (word_of at) (v - 1) was.lawful (link_cursor at) told
    (λ e. no_end (sym back ∙ e)) in
    let low = cell_within (size_of s) h cell.0 (v - 1) was.lawful cell.1 in
    low.1
  where
    link_cursor : (at : Cursor) → IsLinkWord (word_of at)
    link_cursor (cursor.Head p) = tt
    link_cursor (cursor.Past k) = tt

    word_told : (h : History) (s : PoolState) (at : Cursor) → PoolIsSound s → IsAfter h s → IsWithin at s
        → word_in (word_of at) s.words ≡ value_in (word_of at) h
    word_told h s (cursor.Head p) sound was within = was.words (Head p) within
    word_told h s (cursor.Past k) sound was within = was.words (Link k) within

-- the counter of a sound pool is below 2^33
pub counter_small : (s : PoolState) → PoolIsSound s → s.words.counter < 2 ^ 33
counter_small s sound =
    let was = sound.history.1 in
    omega (
      arith,
      (was.words Counter tt),
      counter_bound (size_of s) sound.history.0 was.lawful,
      sound.lanes,
      sound.cells,
    )

-- a new pool is what the empty history leaves
pub empty_after : (n m : ℕ) (heads links items : List ℕ) (lanes : List Lane) → n < 2 ^ 32 → m < 2 ^ 32
    → heads ≡ replicate n 0 → links ≡ replicate m 0 → items ≡ replicate m 0 → lanes ≡ replicate n new_lane
    → IsAfter [] (record { words = record { counter = 0; heads = heads; links = links; items = items }; lanes = lanes })
empty_after n m heads links items lanes few small hs ks is ls =
    let len : length lanes ≡ n = ap length ls ∙ length-replicate n new_lane in
    let wide : length items ≡ m = ap length is ∙ length-replicate m 0 in
    record {
      lawful = empty_lawful (pool_size (length lanes) (length items)) (omega arith);
      words = λ w. holds_nothing w;
      lanes = λ p d b.
          let read : slice_index_or lanes p d ≡ new_lane =
          ap (λ z. slice_index_or z p d) ls ∙ get_or-replicate n p new_lane d (omega arith) in
          subst (λ l. IsLaneAfter (length items) p l []) (sym read) (start_lane (length items) p);
    }
  where
    holds_nothing : (w : Word) → IsPoolWord (pool_size (length lanes) (length items)) w
        → word_in w (record { counter = 0; heads = heads; links = links; items = items }) ≡ 0
    holds_nothing Counter b = refl
    holds_nothing (Head p) b =
        let len : length lanes ≡ n = ap length ls ∙ length-replicate n new_lane in
        ap (λ z. slice_index z p) hs ∙ get_or-replicate n p 0 0 (omega (arith, b, len))
    holds_nothing (Link k) b =
        let wide : length items ≡ m = ap length is ∙ length-replicate m 0 in
        ap (λ z. slice_index z k) ks ∙ get_or-replicate m k 0 0 (omega (arith, b, wide))
    holds_nothing (Item k) b =
        let wide : length items ≡ m = ap length is ∙ length-replicate m 0 in
        ap (λ z. slice_index z k) is ∙ get_or-replicate m k 0 0 (omega (arith, b, wide))

-- a new pool is sound
pub empty_sound : (n m : ℕ) (heads links items : List ℕ) (lanes : List Lane) → n < 2 ^ 32 → m < 2 ^ 32
    → heads ≡ replicate n 0 → links ≡ replicate m 0 → items ≡ replicate m 0 → lanes ≡ replicate n new_lane
    → PoolIsSound (record {
      words = record {
        counter = 0;
        heads = heads;
        links = links;
        items = items;
      };
      lanes = lanes;
    })
empty_sound n m heads links items lanes few small hs ks is ls =
    let len : length lanes ≡ n = ap length ls ∙ length-replicate n new_lane in
    let wide : length items ≡ m = ap length is ∙ length-replicate m 0 in
    record {
      heads = ap length hs ∙ length-replicate n 0 ∙ sym len;
      links = ap length ks ∙ length-replicate m 0 ∙ sym wide;
      lanes = omega arith;
      cells = omega arith;
      history = ([], empty_after n m heads links items lanes few small hs ks is ls);
    }

-- after a store and a new place of one lane a sound pool is still sound, if some history leaves the new state
pub sound_after : (s : PoolState) (w : Word) (v p : ℕ) (lane : Lane) → PoolIsSound s
    → (h : History) × IsAfter h (record { words = words_with w v s.words; lanes = slice_set s.lanes p lane })
    → PoolIsSound (record { words = words_with w v s.words; lanes = slice_set s.lanes p lane })
sound_after s w v p lane sound history =
    let n : length (slice_set s.lanes p lane) ≡ lane_count s = length-set s.lanes p lane in
    record {
      heads = words_with-heads s.words w v ∙ sound.heads ∙ sym n;
      links = words_with-links s.words w v ∙ sound.links ∙ sym (words_with-items s.words w v);
      lanes = omega (arith, sound.lanes);
      cells = omega (arith, words_with-items s.words w v, sound.cells);
      history = history;
    }
