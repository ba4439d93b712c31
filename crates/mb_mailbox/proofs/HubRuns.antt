-- What a hub has after it has issued or taken back several producers or consumers.
use Rattle.std.proofs.Common.{◌≡◌, ℕ, zero, suc, List, [], ◌∷◌, ◌++◌, length, map, refl, sym, ap, ◌∙◌, subst, append_assoc, arith}
use Rattle.std.specs.Prelude.{Option, Some, None, slice_set}
use Rattle.std.proofs.lemmas.List.{append-nil, length-append}
use Rattle.mb_mailbox.specs.Consumers.{ConsumerView}
use Rattle.mb_mailbox.specs.Hubs.{HubView, record_of, put_list_of, with_consumer, with_producer, with_taken_consumer, with_taken_producer}
use Rattle.mb_mailbox.specs.HubRuns.{with_consumers, with_producers, with_taken_consumers, with_taken_producers}
use Rattle.mb_mailbox.specs.Producers.{ProducerView}

-- ---- one more at the end of the list
-- for a list with one more at its end, a hub issues one producer more. The next lemma says the same of consumers
pub producers_snoc : {X : Type 0} (xs : List X) (x : X) (h : HubView)
    → with_producers (xs ++ x ∷ []) h ≡ with_producer (with_producers xs h)
producers_snoc [] x h = refl
producers_snoc (y ∷ ys) x h = producers_snoc ys x (with_producer h)

pub consumers_snoc : {X : Type 0} (xs : List X) (x : X) (h : HubView)
    → with_consumers (xs ++ x ∷ []) h ≡ with_consumer (with_consumers xs h)
consumers_snoc [] x h = refl
consumers_snoc (y ∷ ys) x h = consumers_snoc ys x (with_consumer h)

-- ---- lists of those not returned yet (`None`), filled place by place
-- a list that is as long as `xs`, with `None` at each place
abbrev pub outs : {X Y : Type 0} → List X → List (Option Y)
outs [] = []
outs (x ∷ xs) = None ∷ outs xs

-- the list `ys` after each element of `xs` has set the place of its number to its value
abbrev pub filled : {X Y : Type 0} → (X → ℕ) → (X → Y) → List X → List Y → List Y
filled at val [] ys = ys
filled at val (x ∷ xs) ys = filled at val xs (slice_set ys (at x) (val x))

-- the elements have the numbers from n on
abbrev pub CountFrom : {X : Type 0} → (X → ℕ) → ℕ → List X → Type 0
CountFrom at n [] = Unit {0}
CountFrom at n (x ∷ xs) = (at x ≡ n) × CountFrom at (suc n) xs

-- if the element after the first n is set, the other elements are as before
set_next : {Y : Type 0} (base rest : List Y) (old new : Y) (n : ℕ) → length base ≡ n
    → slice_set (base ++ old ∷ rest) n new ≡ base ++ new ∷ rest
set_next [] rest old new zero e = refl
set_next [] rest old new (suc n) e = absurd (cc)
set_next (b ∷ base) rest old new zero e = absurd (cc)
set_next (b ∷ base) rest old new (suc n) e = ap (λ l. b ∷ l) (set_next base rest old new n (omega (arith, e)))

-- if the elements of `xs` have the numbers after `base`, the places with `None` get their values in order
pub fills : {X Y : Type 0} (at : X → ℕ) (val : X → Option Y) (xs : List X) (base : List (Option Y))
    (n : ℕ) → length base ≡ n → CountFrom at n xs
    → filled at val xs (base ++ outs xs) ≡ base ++ map val xs
fills at val [] base n e c = refl
fills at val (x ∷ xs) base n e c =
    let longer : length (base ++ val x ∷ []) ≡ suc n = length-append base (val x ∷ []) ∙ omega (arith, e) in
    ap (filled at val xs) (subst (λ k. slice_set (base ++ None ∷ outs xs) k (val x) ≡ base ++ val x
    ∷ outs xs) (sym c.0) (set_next base (outs xs) None (val x) n e)
    ∙ sym (append_assoc base (val x ∷ []) (outs xs)))
    ∙ fills at val xs (base ++ val x ∷ []) (suc n) longer c.1
    ∙ append_assoc base (val x ∷ []) (map val xs)

-- for two lists of one length `outs` is the same list
pub outs_alike : {X W Y : Type 0} (xs : List X) (ws : List W) → length xs ≡ length ws → outs {Y = Y} xs ≡ outs ws
outs_alike [] [] e = refl
outs_alike [] (w ∷ ws) e = absurd (cc)
outs_alike (x ∷ xs) [] e = absurd (cc)
outs_alike (x ∷ xs) (w ∷ ws) e = ap (λ l. None ∷ l) (outs_alike xs ws (omega (arith, e)))

-- ---- one list or field of a hub, after several producers or consumers were issued or returned
module _ {X Y : Type 0} (f : HubView → List (Option Y)) where
  -- if each producer issued adds one `None` to a list of the hub, several add one `None` each. The next lemma says
  -- the same of consumers
  pub issued_by_producers : ((h : HubView) → f (with_producer h) ≡ f h ++ None ∷ [])
      → (xs : List X) (h : HubView) → f (with_producers xs h) ≡ f h ++ outs xs
  issued_by_producers more [] h = sym (append-nil (f h))
  issued_by_producers more (x ∷ xs) h =
      issued_by_producers more xs (with_producer h) ∙ ap (λ l. l ++ outs xs) (more h)
      ∙ append_assoc (f h) (None ∷ []) (outs xs)

  pub issued_by_consumers : ((h : HubView) → f (with_consumer h) ≡ f h ++ None ∷ [])
      → (xs : List X) (h : HubView) → f (with_consumers xs h) ≡ f h ++ outs xs
  issued_by_consumers more [] h = sym (append-nil (f h))
  issued_by_consumers more (x ∷ xs) h =
      issued_by_consumers more xs (with_consumer h) ∙ ap (λ l. l ++ outs xs) (more h)
      ∙ append_assoc (f h) (None ∷ []) (outs xs)

module _ {Y : Type 0} (f : HubView → List (Option Y)) where
  -- if each producer returned sets the place of its number in a list of the hub, several fill their places. The next
  -- lemma says the same of consumers
  pub taken_by_producers : (at : ProducerView → ℕ) (val : ProducerView → Option Y)
      → ((s : ProducerView) (h : HubView) → f (with_taken_producer s h) ≡ slice_set (f h) (at s) (val s))
      → (ss : List ProducerView) (h : HubView) → f (with_taken_producers ss h) ≡ filled at val ss (f h)
  taken_by_producers at val step [] h = refl
  taken_by_producers at val step (s ∷ ss) h =
      taken_by_producers at val step ss (with_taken_producer s h) ∙ ap (filled at val ss) (step s h)

  pub taken_by_consumers : (at : ConsumerView → ℕ) (val : ConsumerView → Option Y)
      → ((s : ConsumerView) (h : HubView) → f (with_taken_consumer s h) ≡ slice_set (f h) (at s) (val s))
      → (ss : List ConsumerView) (h : HubView) → f (with_taken_consumers ss h) ≡ filled at val ss (f h)
  taken_by_consumers at val step [] h = refl
  taken_by_consumers at val step (s ∷ ss) h =
      taken_by_consumers at val step ss (with_taken_consumer s h) ∙ ap (filled at val ss) (step s h)

module _ {Y : Type 0} (f : HubView → Y) where
  -- a field that does not change if one producer is issued is the same after several were issued. The three other
  -- lemmas say this of consumers issued, of producers returned, and of consumers returned
  pub same_by_producers : {X : Type 0} → ((h : HubView) → f (with_producer h) ≡ f h)
      → (xs : List X) (h : HubView) → f (with_producers xs h) ≡ f h
  same_by_producers same [] h = refl
  same_by_producers same (x ∷ xs) h = same_by_producers same xs (with_producer h) ∙ same h

  pub same_by_consumers : {X : Type 0} → ((h : HubView) → f (with_consumer h) ≡ f h)
      → (xs : List X) (h : HubView) → f (with_consumers xs h) ≡ f h
  same_by_consumers same [] h = refl
  same_by_consumers same (x ∷ xs) h = same_by_consumers same xs (with_consumer h) ∙ same h

  pub same_by_taken_producers : ((s : ProducerView) (h : HubView) → f (with_taken_producer s h)
      ≡ f h) → (ss : List ProducerView) (h : HubView)
      → f (with_taken_producers ss h) ≡ f h
  same_by_taken_producers same [] h = refl
  same_by_taken_producers same (s ∷ ss) h = same_by_taken_producers same ss (with_taken_producer s h) ∙ same s h

  pub same_by_taken_consumers : ((s : ConsumerView) (h : HubView) → f (with_taken_consumer s h)
      ≡ f h) → (ss : List ConsumerView) (h : HubView)
      → f (with_taken_consumers ss h) ≡ f h
  same_by_taken_consumers same [] h = refl
  same_by_taken_consumers same (s ∷ ss) h = same_by_taken_consumers same ss (with_taken_consumer s h) ∙ same s h

-- ---- a whole run: as many producers and consumers are issued as these lists have elements, and all are returned
module _ {J K : Type 0} (js : List J) (ks : List K) (ss : List ProducerView)
    (cs : List ConsumerView) (h : HubView) where
  -- `given` is the hub after all were issued, and `after` the hub after all were returned
  abbrev pub given : HubView
  given = with_consumers ks (with_producers js h)

  abbrev pub after : HubView
  after = with_taken_consumers cs (with_taken_producers ss given)

  module _ (count : length js ≡ length ss) (from : CountFrom (λ s. s.seat.lane) (length h.puts) ss) where
    -- the put lists of these producers come after the older ones
    pub run_puts : after.puts ≡ h.puts ++ map (λ s. Some (put_list_of s)) ss
    run_puts =
        same_by_taken_consumers (λ v. v.puts) (λ s v. refl) cs (with_taken_producers ss given)
        ∙ taken_by_producers (λ v. v.puts) (λ s. s.seat.lane) (λ s. Some (put_list_of s)) (λ s v. refl) ss given
        ∙ ap (filled (λ (s : ProducerView). s.seat.lane) (λ s. Some (put_list_of s)) ss)
        (same_by_consumers (λ v. v.puts) (λ v. refl) ks (with_producers js h)
        ∙ issued_by_producers (λ v. v.puts) (λ v. refl) js h
        ∙ ap (λ l. h.puts ++ l) (outs_alike js ss count))
        ∙ fills (λ (s : ProducerView). s.seat.lane) (λ s. Some (put_list_of s)) ss h.puts (length h.puts) refl from

    -- the parts of these producers come after the older ones
    pub run_parts : length h.puts ≡ length h.cells.roll.lanes → after.cells.roll.lanes
        ≡ h.cells.roll.lanes ++ map (λ s. Some s.seat.part) ss
    run_parts same =
        same_by_taken_consumers (λ v. v.cells.roll.lanes) (λ s v. refl) cs (with_taken_producers ss given)
        ∙ taken_by_producers (λ v. v.cells.roll.lanes) (λ s. s.seat.lane) (λ s. Some s.seat.part) (λ s v. refl) ss given
        ∙ ap (filled (λ (s : ProducerView). s.seat.lane) (λ s. Some s.seat.part) ss)
        (same_by_consumers (λ v. v.cells.roll.lanes) (λ v. refl) ks (with_producers js h)
        ∙ issued_by_producers (λ v. v.cells.roll.lanes) (λ v. refl) js h
        ∙ ap (λ l. h.cells.roll.lanes ++ l) (outs_alike js ss count))
        ∙ fills (λ (s : ProducerView). s.seat.lane) (λ s. Some s.seat.part) ss h.cells.roll.lanes
        (length h.puts) (sym same) from

  module _ (count : length ks ≡ length cs) where
    -- the records of these consumers come after the older ones
    pub run_records : CountFrom (λ s. s.seat.consumer) (length h.records) cs → after.records
        ≡ h.records ++ map (λ s. Some (record_of s)) cs
    run_records from =
        taken_by_consumers (λ v. v.records) (λ s. s.seat.consumer) (λ s. Some (record_of s))
        (λ s v. refl) cs (with_taken_producers ss given)
        ∙ ap (filled (λ (s : ConsumerView). s.seat.consumer) (λ s. Some (record_of s)) cs)
        (same_by_taken_producers (λ v. v.records) (λ s v. refl) ss given
        ∙ issued_by_consumers (λ v. v.records) (λ v. refl) ks (with_producers js h)
        ∙ ap (λ l. l ++ outs ks) (same_by_producers (λ v. v.records) (λ v. refl) js h)
        ∙ ap (λ l. h.records ++ l) (outs_alike ks cs count))
        ∙ fills (λ (s : ConsumerView). s.seat.consumer) (λ s. Some (record_of s)) cs h.records
        (length h.records) refl from

    -- the readers' parts of these consumers come after the older ones
    pub run_readers : length h.records ≡ length h.cells.roll.readers
        → CountFrom (λ s. s.reader.reader) (length h.records) cs
        → after.cells.roll.readers ≡ h.cells.roll.readers ++ map (λ s. Some s.reader.part) cs
    run_readers same from =
        taken_by_consumers (λ v. v.cells.roll.readers) (λ s. s.reader.reader)
        (λ s. Some s.reader.part) (λ s v. refl) cs (with_taken_producers ss given)
        ∙ ap (filled (λ (s : ConsumerView). s.reader.reader) (λ s. Some s.reader.part) cs)
        (same_by_taken_producers (λ v. v.cells.roll.readers) (λ s v. refl) ss given
        ∙ issued_by_consumers (λ v. v.cells.roll.readers) (λ v. refl) ks (with_producers js h)
        ∙ ap (λ l. l ++ outs ks) (same_by_producers (λ v. v.cells.roll.readers) (λ v. refl) js h)
        ∙ ap (λ l. h.cells.roll.readers ++ l) (outs_alike ks cs count))
        ∙ fills (λ (s : ConsumerView). s.reader.reader) (λ s. Some s.reader.part) cs
        h.cells.roll.readers (length h.records) (sym same) from

  -- the parts of these consumers at the claims come after the older ones
  pub run_claimed : length ks ≡ length cs → length h.records ≡ length h.claims.roll
      → CountFrom (λ s. s.seat.consumer) (length h.records) cs
      → after.claims.roll ≡ h.claims.roll ++ map (λ s. Some s.seat.part) cs
  run_claimed count same from =
      taken_by_consumers (λ v. v.claims.roll) (λ s. s.seat.consumer) (λ s. Some s.seat.part)
      (λ s v. refl) cs (with_taken_producers ss given)
      ∙ ap (filled (λ (s : ConsumerView). s.seat.consumer) (λ s. Some s.seat.part) cs)
      (same_by_taken_producers (λ v. v.claims.roll) (λ s v. refl) ss given
      ∙ issued_by_consumers (λ v. v.claims.roll) (λ v. refl) ks (with_producers js h)
      ∙ ap (λ l. l ++ outs ks) (same_by_producers (λ v. v.claims.roll) (λ v. refl) js h)
      ∙ ap (λ l. h.claims.roll ++ l) (outs_alike ks cs count))
      ∙ fills (λ (s : ConsumerView). s.seat.consumer) (λ s. Some s.seat.part) cs h.claims.roll
      (length h.records) (sym same) from

  -- after the run the hub has the same table of the cells
  pub run_table : after.cells.table ≡ h.cells.table
  run_table =
      same_by_taken_consumers (λ v. v.cells.table) (λ s v. refl) cs (with_taken_producers ss given)
      ∙ same_by_taken_producers (λ v. v.cells.table) (λ s v. refl) ss given
      ∙ same_by_consumers (λ v. v.cells.table) (λ v. refl) ks (with_producers js h)
      ∙ same_by_producers (λ v. v.cells.table) (λ v. refl) js h
