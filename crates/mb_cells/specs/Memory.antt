-- Histories of the pool's words. A history is a list of accesses, the newest first: in `a ∷ older` the accesses of
-- `older` came before a.
use Rattle.std.specs.Prelude.{Bool, IfSome, List, None, Option, Some, [], false, filter, if◌then◌else◌, nat_eq, true, unwrap_or, ℕ, ◌&&◌, ◌+◌, ◌∷◌, ◌≡◌, ◌⊎◌}
use Rattle.mb_cells.specs.Types.{Counter, FetchAdd, Head, Item, Link, Load, PoolAccess, PoolAct, Process, Producer, Reader, Store, Word}

-- a finite list of accesses, the newest first
abbrev pub History : Type 0
History = List PoolAccess

-- whether both are the same word
abbrev pub is_same_word : Word → Word → Bool
is_same_word Counter Counter = true
is_same_word (Head p) (Head q) = nat_eq p q
is_same_word (Link j) (Link k) = nat_eq j k
is_same_word (Item j) (Item k) = nat_eq j k
is_same_word _ _ = false

-- whether both are the same process
abbrev pub is_same_process : Process → Process → Bool
is_same_process (Producer p) (Producer q) = nat_eq p q
is_same_process (Reader p) (Reader q) = nat_eq p q
is_same_process _ _ = false

-- the list has this element. It is used of accesses in a history and of cells in a lane
abbrev pub Has : {X : Type 0} → List X → X → Type 0
Has [] x = ⊥
Has (y ∷ ys) x = (y ≡ x) ⊎ Has ys x

-- what an act loads: the value that it finds in its word
abbrev pub loaded_by : PoolAct → Option ℕ
loaded_by (Load v) = Some v
loaded_by (Store _) = None
loaded_by (FetchAdd _ n) = Some n

-- what an act stores in its word: a fetch-add one more than it finds
abbrev pub stored_by : PoolAct → Option ℕ
stored_by (Load _) = None
stored_by (Store v) = Some v
stored_by (FetchAdd _ n) = Some (n + 1)

-- what a history leaves in word w: the value that was last stored there, or 0 if none was
abbrev pub value_in : Word → History → ℕ
value_in w [] = 0
value_in w (a ∷ older) =
    if is_same_word a.word w then unwrap_or (stored_by a.act) (value_in w older)
    else value_in w older

-- what an act loads is what the older accesses left in its word
abbrev pub ReadsLast : Word → PoolAct → History → Type 0
ReadsLast w act older = IfSome (loaded_by act) (λ v. v ≡ value_in w older)

-- each access that loads a value finds the one stored last in its word, or 0 if none was. In a lawful history a
-- fetch-add then finds the number of earlier ones (law `numbers_are_issued_once`)
abbrev pub IsMemoryTrue : History → Type 0
IsMemoryTrue [] = Unit {0}
IsMemoryTrue (a ∷ older) = ReadsLast a.word a.act older × IsMemoryTrue older

-- the part of one process: the accesses that it made
abbrev pub part : Process → History → History
part who h = filter (λ a. is_same_process who a.process) h

-- whether the act is a fetch-add
abbrev pub is_fetch_add : PoolAct → Bool
is_fetch_add (FetchAdd _ _) = true
is_fetch_add _ = false

-- how many fetch-adds a history has on the word
abbrev pub fetch_adds_on : Word → History → ℕ
fetch_adds_on w [] = 0
fetch_adds_on w (a ∷ older) =
    if is_same_word a.word w && is_fetch_add a.act then fetch_adds_on w older + 1
    else fetch_adds_on w older
