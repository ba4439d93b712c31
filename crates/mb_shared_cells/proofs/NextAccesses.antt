-- Which accesses may follow a seat's part, whatever others did. The laws of `mb_cells` come in as premises.
use Rattle.std.proofs.Common.{arith, refl, subst, sym, ℕ, ◌%◌, ◌+◌, ◌<◌, ◌^◌, ◌∷◌, ◌≡◌, ◌≤◌}
use Rattle.mb_cells.specs.Vocabulary.{ActFits, Entry, History, IsLaneWord, IsLanePrefix, IsPoolLawful, IsPoolWord, MayRead, ReadsLast, fetch, load, part, store, value_in}
use Rattle.mb_cells.specs.declared.access.PoolAccess.{PoolAccess}
use Rattle.mb_cells.specs.declared.access.PoolAct.TheVariants.{FetchAdd, Load, Store}
use Rattle.mb_cells.specs.declared.access.Process.TheVariants.{Producer, Reader}
use Rattle.mb_cells.specs.declared.access.Word.{Word}
use Rattle.mb_cells.specs.declared.access.Word.TheVariants.{Counter, Head, Item, Link}
use Rattle.mb_cells.specs.declared.size.PoolSize.{PoolSize}
use Rattle.mb_shared_cells.proofs.AccessMoves.{GoesOn}

-- a head, link or item word is one of the pool's
pub pool_word : (size : PoolSize) (w : Word) → IsLaneWord size w → IsPoolWord size w
pool_word size Counter x = absurd x
pool_word size (Head p) x = x
pool_word size (Link k) x = x
pool_word size (Item k) x = x

-- a law of `mb_cells`: a history stays lawful with a lane producer's access, in range, true to memory and on its path
abbrev pub ProducerLaw : Type 0
ProducerLaw =
    (size : PoolSize) (h : History) (a : PoolAccess) (p : ℕ) → IsPoolLawful size h → a.process ≡ Producer p
    → p < size.lanes → ActFits a.act → ReadsLast a.word a.act h
    → IsLanePrefix size.cells p (a ∷ part (Producer p) h) → IsPoolLawful size (a ∷ h)

-- a law of `mb_cells`: a history stays lawful if a reader loads a word that it may load
abbrev pub ReaderLaw : Type 0
ReaderLaw =
    (size : PoolSize) (h : History) (r : ℕ) (w : Word) → IsPoolLawful size h
    → MayRead size.lanes w (part (Reader r) h) → IsPoolLawful size (load r w (value_in w h) ∷ h)

-- a law of `mb_cells`: the counter is at most the number of cells plus the number of lanes
abbrev pub CounterLaw : Type 0
CounterLaw = (size : PoolSize) (h : History) → IsPoolLawful size h → value_in Counter h ≤ size.cells + size.lanes

-- a load may follow a lawful history if its reader may load the word, and it finds what the word holds
pub load_follows : ReaderLaw → (size : PoolSize) (r : ℕ) (done : History) (w : Word)
    → MayRead size.lanes w done → (h : History) (n : ℕ) → IsPoolLawful size h
    → part (Reader r) h ≡ done → n ≡ value_in w h
    → IsPoolLawful size (load r w n ∷ h)
load_follows law size r done w may h n lawful mine is =
    subst (λ z. IsPoolLawful size (load r w z ∷ h)) (sym is)
    (law size h r w lawful (subst (λ l. MayRead size.lanes w l) (sym mine) may))

-- a load of a word that its reader may load may follow, whatever the word holds
pub load_goes : ReaderLaw → (size : PoolSize) (r : ℕ) (done : History) (w : Word) → MayRead size.lanes w done
    → GoesOn size (Reader r) done w (λ n. Load n) (λ n. n)
load_goes law size r done w may h n lawful mine lane is low =
    (load_follows law size r done w may h n lawful mine is, refl)

-- a store of a value below 2^64 may follow a lawful history if its producer has a lane and its path goes on with it
pub store_follows : ProducerLaw → (size : PoolSize) (p : ℕ) (done : History) (w : Word) (value : ℕ)
    → value < 2 ^ 64 → IsLanePrefix size.cells p (store p w value ∷ done)
    → (h : History) → IsPoolLawful size h → part (Producer p) h ≡ done → p < size.lanes
    → IsPoolLawful size (store p w value ∷ h)
store_follows law size p done w value small path h lawful mine lane =
    law size h (store p w value) p lawful refl lane small tt
    (subst (λ l. IsLanePrefix size.cells p (store p w value ∷ l)) (sym mine) path)

-- a store of a value below 2^64 with which its producer's path goes on may follow, whatever its word holds
pub store_goes : ProducerLaw → (size : PoolSize) (p : ℕ) (done : History) (w : Word) (value : ℕ) → value < 2 ^ 64
    → IsLanePrefix size.cells p (store p w value ∷ done)
    → GoesOn size (Producer p) done w (λ _. Store value) (λ _. value)
store_goes law size p done w value small path h n lawful mine lane is low =
    (store_follows law size p done w value small path h lawful mine lane, refl)

-- a fetch-add with which its producer's path goes on may follow a lawful history, if it finds what the counter holds
pub fetch_follows : ProducerLaw → (size : PoolSize) (p : ℕ) (done : History) (item n : ℕ)
    → item < 2 ^ 64 → n < 2 ^ 64
    → IsLanePrefix size.cells p (fetch p (record { cell = n; value = item }) ∷ done)
    → (h : History) → IsPoolLawful size h → part (Producer p) h ≡ done → p < size.lanes
    → n ≡ value_in Counter h
    → IsPoolLawful size (fetch p (record { cell = n; value = item }) ∷ h)
fetch_follows law size p done item n small low path h lawful mine lane is =
    let e : Entry = record { cell = n; value = item } in
    law size h (fetch p e) p lawful refl lane (small, low) is
    (subst (λ l. IsLanePrefix size.cells p (fetch p e ∷ l)) (sym mine) path)

-- a fetch-add with which its producer's path goes on may follow, whatever it finds. The counter stays below 2^64
pub fetch_goes : ProducerLaw → CounterLaw → (size : PoolSize) (p : ℕ) (done : History) (item : ℕ)
    → size.lanes < 2 ^ 32 → size.cells < 2 ^ 32 → item < 2 ^ 64
    → ((n : ℕ) → IsLanePrefix size.cells p (fetch p (record { cell = n; value = item }) ∷ done))
    → GoesOn size (Producer p) done Counter (λ n. FetchAdd item n) (λ n. (n + 1) % 2 ^ 64)
fetch_goes law bound size p done item lanes cells small path h n lawful mine lane is low =
    let most = bound size h lawful in
    (fetch_follows law size p done item n small low (path n) h lawful mine lane is, omega arith)
