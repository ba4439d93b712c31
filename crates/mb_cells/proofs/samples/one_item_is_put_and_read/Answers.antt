-- Proof of `samples::one_item_is_put_and_read`: one item is put and read, and the lane ends.
use Rattle.std.proofs.Common.{None, [], arith, inl, inr, refl, ◌∷◌}
use Rattle.mb_cells.proofs.samples.one_item_is_put_and_read.Goals as goal
use Rattle.mb_cells.specs.{END, Gave, Head, LaneIsAt, IsPoolLawful, Item, Link, eight, fetch, load, one_put, one_taken, pool_size, store}
use Rattle.mb_cells.specs.Place.{Ended, Offered, Open, Stored}
use Rattle.mb_cells.proofs.OneStep.{empty_lawful, producer_step, reader_step}
use Rattle.mb_cells.proofs.Places.{prefix_at}

-- `one_read` is lawful, shown access by access. The fetch-add alone is a lawful history
taken : IsPoolLawful (pool_size 1 1) one_taken
taken =
    let at : LaneIsAt 1 0 [] (Offered eight) one_taken = record { below = tt; fits = omega arith; is = refl } in
    producer_step (pool_size 1 1) [] (fetch 0 eight) 0 (empty_lawful (pool_size 1 1) (omega arith)) refl (omega arith)
    (omega arith, omega arith) refl (prefix_at 1 0 [] (Offered eight) one_taken at)

-- with the store of the item the history is lawful
filled : IsPoolLawful (pool_size 1 1) (store 0 (Item 0) 8 ∷ one_taken)
filled =
    let at : LaneIsAt 1 0 [] (Stored eight) (store 0 (Item 0) 8 ∷ one_taken) =
    record { below = tt; fits = omega arith; is = refl } in
    producer_step (pool_size 1 1) one_taken (store 0 (Item 0) 8) 0 taken refl (omega arith)
    (omega arith) tt (prefix_at 1 0 [] (Stored eight) (store 0 (Item 0) 8 ∷ one_taken) at)

-- with the store of the link to the cell the history is lawful
pub returns-clause-item : goal.returns-clause-item
returns-clause-item c =
    let at : LaneIsAt 1 0 (eight ∷ []) Open one_put = record { below = (omega arith, tt); fits = tt; is = refl } in
    producer_step (pool_size 1 1) (store 0 (Item 0) 8 ∷ one_taken) (store 0 (Head 0) 1) 0 filled refl
    (omega arith) (omega arith) tt (prefix_at 1 0 (eight ∷ []) Open one_put at)

-- with the reader's load of the head the history is lawful
found : IsPoolLawful (pool_size 1 1) one_put → IsPoolLawful (pool_size 1 1) (load 5 (Head 0) 1 ∷ one_put)
found item = reader_step (pool_size 1 1) one_put 5 (Head 0) item (omega arith)

-- a load of 1 from the head of lane 0 gave the reader cell 0
given_zero : Gave 0 (load 5 (Head 0) 1 ∷ [])
given_zero = inl (refl, λ e. absurd (omega arith))

-- with the reader's load of the item the history is lawful
took : IsPoolLawful (pool_size 1 1) one_put
    → IsPoolLawful (pool_size 1 1) (load 5 (Item 0) 8 ∷ load 5 (Head 0) 1 ∷ one_put)
took item = reader_step (pool_size 1 1) (load 5 (Head 0) 1 ∷ one_put) 5 (Item 0) (found item) given_zero

-- with the store of the end mark the history is lawful
finished : IsPoolLawful (pool_size 1 1) one_put
    → IsPoolLawful (pool_size 1 1) (store 0 (Link 0) END ∷ load 5 (Item 0) 8 ∷ load 5 (Head 0) 1 ∷ one_put)
finished item =
    let at : LaneIsAt 1 0 (eight ∷ []) (Ended None) (store 0 (Link 0) END ∷ one_put) =
    record { below = (omega arith, tt); fits = tt; is = refl } in
    producer_step (pool_size 1 1) (load 5 (Item 0) 8 ∷ load 5 (Head 0) 1 ∷ one_put)
    (store 0 (Link 0) END) 0 (took item) refl (omega arith) (omega arith) tt
    (prefix_at 1 0 (eight ∷ []) (Ended None) (store 0 (Link 0) END ∷ one_put) at)

pub returns-clause-lawful : goal.returns-clause-lawful
returns-clause-lawful c =
    reader_step (pool_size 1 1) (store 0 (Link 0) END ∷ load 5 (Item 0) 8 ∷ load 5 (Head 0) 1 ∷ one_put) 5
    (Link 0) (finished (returns-clause-item c)) (inr given_zero)

pub returns-clause-put : goal.returns-clause-put
returns-clause-put c = refl

pub returns-clause-ended : goal.returns-clause-ended
returns-clause-ended c = refl

pub returns-clause-met : goal.returns-clause-met
returns-clause-met c = (inr (inr (inr (inl refl))), λ e. absurd (omega arith), tt)
