-- The words of a pool in one block: their addresses, and how each access changes them.
use Rattle.std.proofs.Common.{List, [], ap, arith, get_or-set_other, get_or-set_same, inl, inr, length, length-set, refl, slice_index, slice_set, subst, sym, ℕ, ◌<◌, ◌∙◌, ◌∷◌, ◌≡◌, ◌≤◌}
use Rattle.std.specs.Prelude.{unwrap_or}
use Rattle.mb_cells.specs.{Counter, END, Head, History, IsMemoryOf, IsPoolLawful, IsPoolWord, IsStateOf, Item, Link, PoolAccess, PoolSize, Process, Word}
use Rattle.mb_cells.specs.{address_of, block_after, parts_after, stored_by, value_in, pool_words}
use Rattle.mb_cells.proofs.Names.{cases_word, is_same_word-ne, is_same_word-refl, value_in-other}
use Rattle.mb_cells.proofs.NextAccesses.{newest_within}
use Rattle.mb_cells.proofs.OneStep.{empty_lawful}

-- different words have different addresses
pub address-apart : (size : PoolSize) (v w : Word) → IsPoolWord size v → IsPoolWord size w
    → address_of size v ≡ address_of size w → v ≡ w
address-apart size Counter Counter a b e = refl
address-apart size Counter (Head q) a b e = absurd (omega (arith, e))
address-apart size Counter (Link q) a b e = absurd (omega (arith, e))
address-apart size Counter (Item q) a b e = absurd (omega (arith, e))
address-apart size (Head p) Counter a b e = absurd (omega (arith, e))
address-apart size (Head p) (Head q) a b e = ap Head (omega (arith, e))
address-apart size (Head p) (Link q) a b e = absurd (omega (arith, e, a))
address-apart size (Head p) (Item q) a b e = absurd (omega (arith, e, a))
address-apart size (Link p) Counter a b e = absurd (omega (arith, e))
address-apart size (Link p) (Head q) a b e = absurd (omega (arith, e, b))
address-apart size (Link p) (Link q) a b e = ap Link (omega (arith, e))
address-apart size (Link p) (Item q) a b e = absurd (omega (arith, e, a))
address-apart size (Item p) Counter a b e = absurd (omega (arith, e))
address-apart size (Item p) (Head q) a b e = absurd (omega (arith, e, b))
address-apart size (Item p) (Link q) a b e = absurd (omega (arith, e, b))
address-apart size (Item p) (Item q) a b e = ap Item (omega (arith, e))

-- the address of each word of the pool is below the number of the pool's words
pub address-within : (size : PoolSize) (w : Word) → IsPoolWord size w → address_of size w < pool_words size
address-within size Counter b = omega arith
address-within size (Head p) b = omega (arith, b)
address-within size (Link k) b = omega (arith, b)
address-within size (Item k) b = omega (arith, b)

-- after an access its word holds what the access stores, or if it stores nothing, what was there before
pub value_in-here : (a : PoolAccess) (h : History)
    → value_in a.word (a ∷ h) ≡ unwrap_or (stored_by a.act) (value_in a.word h)
value_in-here a h = rw (is_same_word-refl a.word) refl

-- if a history that leaves a block stays lawful with one access more, the longer one leaves the block after that access
pub memory_after : (size : PoolSize) (words : List ℕ) (h : History) (a : PoolAccess) → IsMemoryOf size words h
    → IsPoolLawful size (a ∷ h) → IsMemoryOf size (block_after size a words) (a ∷ h)
memory_after size words h a m l =
    let at = address_of size a.word in
    let found = slice_index words at in
    let v = unwrap_or (stored_by a.act) found in
    let mine : IsPoolWord size a.word = newest_within size h a l in
    let wide : length (slice_set words at v) ≡ length words = length-set words at v in
    record {
      lawful = l;
      room = omega (arith, wide, m.room);
      left = λ w within. elim (cases_word a.word w) [
        | inl same ↦ subst (λ x. slice_index (slice_set words at v) (address_of size x) ≡ value_in x (a ∷ h)) same
            (get_or-set_same words at v 0 (omega (arith, address-within size a.word mine, m.room))
            ∙ ap (unwrap_or (stored_by a.act)) (m.left a.word mine) ∙ sym (value_in-here a h))
        | inr other ↦
            get_or-set_other words at (address_of size w) v 0
            (λ e. other (address-apart size a.word w mine within (sym e)))
            ∙ m.left w within ∙ sym (value_in-other a h w (is_same_word-ne a.word w other))
      ];
    }

-- if a history with these words and parts stays lawful with one access more, it then has those after that access
pub state_after : (size : PoolSize) (words : List ℕ) (parts : Process → History) (h : History) (a : PoolAccess)
    → IsStateOf size words parts h → IsPoolLawful size (a ∷ h)
    → IsStateOf size (block_after size a words) (parts_after a parts) (a ∷ h)
state_after size words parts h a s l = record {
  memory = memory_after size words h a s.memory l;
  same = λ who. rw (s.same who) refl;
}

-- a block in which all words of the pool hold 0 is what the empty history leaves
pub state_empty : (size : PoolSize) (words : List ℕ) → size.cells < END → pool_words size ≤ length words
    → ((w : Word) → IsPoolWord size w → slice_index words (address_of size w) ≡ 0)
    → IsStateOf size words (λ who. []) []
state_empty size words few room empty = record {
  memory = record { lawful = empty_lawful size few; room = room; left = empty };
  same = λ who. refl;
}

-- if two blocks have the same words of the pool, the same history leaves both: words past the pool's do not count
pub state_more : (size : PoolSize) (words more : List ℕ) (parts : Process → History) (h : History)
    → IsStateOf size words parts h
    → ((i : ℕ) → i < pool_words size → slice_index more i ≡ slice_index words i)
    → pool_words size ≤ length more → IsStateOf size more parts h
state_more size words more parts h s same room = record {
  memory = record {
    lawful = s.memory.lawful;
    room = room;
    left = λ w within. same (address_of size w) (address-within size w within) ∙ s.memory.left w within;
  };
  same = s.same;
}
