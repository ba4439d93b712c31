-- What a reader finds after a cursor, and along a lane.
use Rattle.std.specs.Prelude.{List, [], if◌then◌else◌, nat_eq, ℕ, ◌-◌, ◌∷◌, ◌≡◌}
use Rattle.mb_cells.specs.declared.answer.Look.TheVariants as look
use Rattle.mb_cells.specs.declared.access.Word.TheVariants as word
use Rattle.mb_cells.specs.declared.cursor.Cursor.TheVariants as cursor
use Rattle.mb_cells.specs.Types.{Cursor, END, Look, Word}
use Rattle.mb_cells.specs.Memory.{History, value_in}
use Rattle.mb_cells.specs.LanePath.{Entry}

-- the word that a look at this cursor loads: it says what comes next
abbrev pub word_of : Cursor → Word
word_of (cursor.Head p) = word.Head p
word_of (cursor.Past k) = word.Link k

-- what a look returns that finds this value in a head or link
abbrev pub look_of : ℕ → Look
look_of v = if nat_eq v 0 then look.Nothing else if nat_eq v END then look.Ended
    else look.Cell (v - 1)

-- what a look at this cursor returns after a history
abbrev pub look_after : Cursor → History → Look
look_after at h = look_of (value_in (word_of at) h)

-- looks from the cursor on give these cells (the first first) with these items, and then one look gives `last`
abbrev pub Reads : (Cursor → Look) → (ℕ → ℕ) → Cursor → List Entry → Look → Type 0
Reads look_at item_at at [] last = look_at at ≡ last
Reads look_at item_at at (e ∷ es) last =
    (look_at at ≡ look.Cell e.cell) × (item_at e.cell ≡ e.value)
    × Reads look_at item_at (cursor.Past e.cell) es last
