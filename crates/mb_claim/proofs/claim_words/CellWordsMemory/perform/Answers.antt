-- Proof of `CellWords::perform`: makes an access to a word of the cell, and keeps it as the step made.
use Rattle.std.proofs.Common.{◌≡◌, ◌<◌, ◌≤◌, ◌*◌, ℕ, List, length, refl, ◌∙◌, ap, ap₂, slice_index, slice_set, arith}
use Rattle.std.proofs.lemmas.List.{get_or_read}
use Rattle.mb_claim.specs.ObjectTypes.{Reg, Act}
use Rattle.mb_deciding.specs.Vocabulary.{reg_of}
use Rattle.mb_claim.specs.Types.{ObjectTurn, Layout}
use Rattle.mb_claim.specs.Layouts.{quorums_of, kinds_of, cell_words, word_address, IsWordInLayout}
use Rattle.mb_claim.proofs.Addresses.{within}
use Rattle.mb_claim.proofs.claim_words.CellWordsMemory.perform.Goals as goal

-- if the block has the words of `cells` cells, each word of a cell below `cells` is among them
inside :
    (layout : Layout) (cells cell object : ℕ) (reg : Reg) (words : List ℕ) (at : ℕ) → IsWordInLayout layout object reg
    → cell < cells → cells * cell_words layout ≤ length words → at
    ≡ word_address layout cell object reg → at < length words
inside layout cells cell object reg words at word below room is =
    let lies = within (quorums_of layout).registers (kinds_of layout) cells cell object reg word below in
    rw is (omega (arith, lies, room))

-- the step on this object that makes the act, with the random word
abbrev turn_of : ℕ → ℕ → Act → ObjectTurn
turn_of object word act = record { object = object; turn = record { act = act; word = word } }

pub index-seen-requires : goal.index-seen-requires
index-seen-requires g c =
    let m = c.args.self.now in
    let room = c.requires.2 in
    let below = inside m.layout.now room.0 m.cell c.args.object (reg_of c.args.op) m.words.now.items
    _ c.requires.0 room.1
    room.2 (rw (c.reg.ensures) at c.address-address.ensures.exact) in
    omega (arith, below, m.words.now.ok.0)

pub index_mut-requires : goal.index_mut-requires
index_mut-requires g c =
    let m = c.args.self.now in
    let room = c.requires.2 in
    let below = inside m.layout.now room.0 m.cell c.args.object (reg_of c.args.op) m.words.now.items
    _ c.requires.0 room.1
    room.2 (rw (c.reg.ensures) at c.address-address.ensures.exact) in
    omega (arith, below, m.words.now.ok.0)

pub returns : goal.returns
returns g c =
    let m = c.args.self.now in
    let words = m.words.now.items in
    let room = c.requires.2 in
    let exact : c.address-address.result ≡ word_address m.layout.now m.cell c.args.object (reg_of c.args.op) =
    rw (c.reg.ensures) at c.address-address.ensures.exact in
    let below = inside m.layout.now room.0 m.cell c.args.object (reg_of c.args.op) words _
    c.requires.0 room.1 room.2 exact
    in (
      get_or_read words c.address-address.result c.index-seen.result.now below c.index-seen.ensures 0
          ∙ ap (slice_index words) exact,
      ap₂ (slice_set words) exact c.word_after.ensures.exact,
      refl,
      ap (turn_of c.args.object m.made.turn.word) c.act-self.ensures,
      c.word_after.ensures.small,
    )
