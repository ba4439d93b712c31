-- The counter: a fetch-add finds what the one before it stored, so each number is given once.
use Rattle.std.proofs.Common.{None, Some, [], ap, arith, false, inl, inr, refl, subst, sym, true, ℕ, ◌+◌, ◌<◌, ◌∙◌, ◌∷◌, ◌≡◌, ◌≤◌, ◌⊎◌}
use Rattle.std.proofs.lemmas.Bool.{cases_Bool, cond_both, false≢true}
use Rattle.mb_cells.specs.{Counter, Entry, FetchAdd, Has, History, IsMemoryTrue, PoolAccess, PoolAct, Process, ReadsLast, fetch, fetch_adds_on}
use Rattle.mb_cells.specs.{is_fetch_add, is_same_process, is_same_word, part, stored_by, value_in}
use Rattle.mb_cells.proofs.Names.{is_same_word-eq, stores_or_not, value_in-kept, value_in-other, value_in-stored}
use Rattle.mb_cells.proofs.Parts.{Has-of_part}

-- the history is true to memory, and only fetch-adds store to the counter
pub record IsCounted (h : History) : Type 0 where
  pub memory : IsMemoryTrue h
  pub adds : (a : PoolAccess) (v : ℕ) → Has h a → a.word ≡ Counter → stored_by a.act ≡ Some v
      → is_fetch_add a.act ≡ true

-- if `IsCounted` holds of a history, it holds of it without its newest access too
pub counted-tail : (a : PoolAccess) (h : History) → IsCounted (a ∷ h) → IsCounted h
counted-tail a h c = record { memory = c.memory.1; adds = λ b v has. c.adds b v (inr has) }

-- the access leaves the counter's value, and the number of fetch-adds of the counter, as they were
pub record IsNoAdd (a : PoolAccess) (h : History) : Type 0 where
  pub value : value_in Counter (a ∷ h) ≡ value_in Counter h
  pub adds : fetch_adds_on Counter (a ∷ h) ≡ fetch_adds_on Counter h

-- the access is a fetch-add of the counter, and raises it by one
pub record IsAdd (a : PoolAccess) (h : History) : Type 0 where
  pub item : ℕ
  pub word : a.word ≡ Counter
  pub act : a.act ≡ FetchAdd item (value_in Counter h)
  pub value : value_in Counter (a ∷ h) ≡ value_in Counter h + 1
  pub adds : fetch_adds_on Counter (a ∷ h) ≡ fetch_adds_on Counter h + 1

-- the act is a fetch-add, with this item and this number found
pub record IsFetchAdd (act : PoolAct) : Type 0 where
  pub item : ℕ
  pub found : ℕ
  pub is : act ≡ FetchAdd item found

-- if `is_fetch_add` is true of an act, the act is a fetch-add
pub fetch-add : (act : PoolAct) → is_fetch_add act ≡ true → IsFetchAdd act
fetch-add (FetchAdd x n) is = record { item = x; found = n; is = refl }
fetch-add _ is = absurd (false≢true is)

-- each access leaves the counter as it was, or is a fetch-add that raises it by one
pub counter_step : (a : PoolAccess) (h : History) → IsCounted (a ∷ h) → IsNoAdd a h ⊎ IsAdd a h
counter_step a h c =
    elim (cases_Bool (is_same_word a.word Counter)) [
      | inl same ↦
          let on : a.word ≡ Counter = is_same_word-eq a.word Counter same in
          elim (cases_Bool (is_fetch_add a.act)) [
            | inl adds ↦ inr (adding same on (fetch-add a.act adds))
            | inr other ↦
                let none : stored_by a.act ≡ None = nothing on other in
                inl (record { value = value_in-kept a h Counter none; adds = rw (same, other) refl })
          ]
      | inr other ↦ inl (record { value = value_in-other a h Counter other; adds = rw other refl })
    ]
  where
    nothing : a.word ≡ Counter → is_fetch_add a.act ≡ false → stored_by a.act ≡ None
    nothing on other =
        elim (stores_or_not a.act) [
          | inl stores ↦ absurd (false≢true (sym other ∙ c.adds a stores.0 (inl refl) on stores.1))
          | inr none ↦ none
        ]

    adding : is_same_word a.word Counter ≡ true → a.word ≡ Counter → IsFetchAdd a.act → IsAdd a h
    adding same on add =
        let n = add.found in
        let read : ReadsLast Counter (FetchAdd add.item n) h =
        subst (λ act. ReadsLast Counter act h) add.is (subst (λ w. ReadsLast w a.act h) on c.memory.0) in
        let found : n ≡ value_in Counter h = read in
        let then = value_in-stored a h Counter (n + 1) on (ap stored_by add.is) in
        let counts : is_fetch_add a.act ≡ true = ap is_fetch_add add.is in
        record {
          item = add.item;
          word = on;
          act = add.is ∙ ap (FetchAdd add.item) found;
          value = then ∙ ap (λ z. z + 1) found;
          adds = rw (same, counts) refl;
        }

-- the counter holds the number of fetch-adds
pub counter_count : (h : History) → IsCounted h → value_in Counter h ≡ fetch_adds_on Counter h
counter_count [] c = refl
counter_count (a ∷ h) c =
    let rest = counter_count h (counted-tail a h c) in
    elim (counter_step a h c) [
      | inl stays ↦ stays.value ∙ rest ∙ sym stays.adds
      | inr adds ↦ adds.value ∙ ap (λ z. z + 1) rest ∙ sym adds.adds
    ]

-- no access lowers the counter
pub counter-grows : (a : PoolAccess) (h : History) → IsCounted (a ∷ h) → value_in Counter h ≤ value_in Counter (a ∷ h)
counter-grows a h c =
    elim (counter_step a h c) [
      | inl stays ↦ omega (arith, stays.value)
      | inr adds ↦ omega (arith, adds.value)
    ]

-- the number that a fetch-add found is what the counter held before it
pub fetch-found : (a : PoolAccess) (h : History) (p : ℕ) (e : Entry) → IsCounted (a ∷ h) → a ≡ fetch p e
    → e.cell ≡ value_in Counter h
fetch-found a h p e c is =
    let read : ReadsLast Counter (FetchAdd e.value e.cell) h = subst (λ x. ReadsLast x.word x.act h) is c.memory.0 in
    read

-- the number that a fetch-add gave is below the counter from then on
pub fetch-below : (h : History) (p : ℕ) (e : Entry) → IsCounted h → Has h (fetch p e) → e.cell < value_in Counter h
fetch-below [] p e c has = absurd has
fetch-below (b ∷ h) p e c (inl is) =
    let found = fetch-found b h p e c is in
    let then : value_in Counter (b ∷ h) ≡ e.cell + 1 =
    value_in-stored b h Counter (e.cell + 1) (ap (λ (x : PoolAccess). x.word) is)
    (ap (λ (x : PoolAccess). stored_by x.act) is) in
    omega (arith, then)
fetch-below (b ∷ h) p e c (inr has) =
    let rest = fetch-below h p e (counted-tail b h c) has in
    omega (arith, rest, counter-grows b h c)

-- two fetch-adds that gave the same number are the same access
pub fetch-one : (h : History) (p q : ℕ) (e f : Entry) → IsCounted h → Has h (fetch p e) → Has h (fetch q f)
    → e.cell ≡ f.cell → fetch p e ≡ fetch q f
fetch-one [] p q e f c x y s = absurd x
fetch-one (b ∷ h) p q e f c (inl x) (inl y) s = sym x ∙ y
fetch-one (b ∷ h) p q e f c (inl x) (inr y) s =
    let found = fetch-found b h p e c x in
    let low = fetch-below h q f (counted-tail b h c) y in
    absurd (omega (arith, found, low))
fetch-one (b ∷ h) p q e f c (inr x) (inl y) s =
    let found = fetch-found b h q f c y in
    let low = fetch-below h p e (counted-tail b h c) x in
    absurd (omega (arith, found, low))
fetch-one (b ∷ h) p q e f c (inr x) (inr y) s = fetch-one h p q e f (counted-tail b h c) x y s

-- each fetch-add gave a greater number than all older ones
abbrev pub AreRising : History → Type 0
AreRising [] = Unit {0}
AreRising (a ∷ h) = ((p q : ℕ) (e f : Entry) → a ≡ fetch p e → Has h (fetch q f) → f.cell < e.cell) × AreRising h

-- if only fetch-adds store to the counter, each gave a greater number than all older ones
pub rising : (h : History) → IsCounted h → AreRising h
rising [] c = tt
rising (a ∷ h) c = (
  λ p q e f is has.
      let found = fetch-found a h p e c is in
      let low = fetch-below h q f (counted-tail a h c) has in
      omega (arith, found, low),
  rising h (counted-tail a h c),
)

-- if the numbers that fetch-adds gave rise in a history, they rise in each process's part of it
pub rising-part : (who : Process) (h : History) → AreRising h → AreRising (part who h)
rising-part who [] r = tt
rising-part who (a ∷ h) r =
    cond_both (is_same_process who a.process) (a ∷ part who h) (part who h) AreRising
    (λ _. (λ p q e f is has. r.0 p q e f is (Has-of_part who h (fetch q f) has), rising-part who h r.1))
    (λ _. rising-part who h r.1)
