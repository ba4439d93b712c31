use Rattle.mb_segment.proofs.Base.{Option, Some, ap, arith, slice_index, suc, sym, zero, ℕ, ◌%◌, ◌+◌, ◌-◌, ◌<◌, ◌∙◌, ◌≡◌}
use Rattle.std.specs.Prelude.{◌/◌}
use Rattle.std.specs.Mem.Slots.{slots_items}
use Rattle.mb_segment.specs.Vocabulary.{fate_of, name_in}
use Rattle.mb_segment.proofs.Spots.{index_at}
use Rattle.mb_segment.proofs.left.Left.fate.Goals as goal

pub returns-then-state-eq0 : goal.returns-then-state-eq0
returns-then-state-eq0 g c =
    let items = slots_items c.args.self.now.closed.words in
    let here : slice_index items (c.args.at + 17) ≡ c.word-state.result
    = ap (λ (i : ℕ). slice_index items i) (sym c.state_of.ensures)
    ∙ index_at items c.state_of.result c.word-state.result c.word-state.ensures in
    let none_ : c.word-state.result ≡ 0 = omega arith in
    sym (ap fate_of (here ∙ none_))

-- the parts of a state that is not 0
told : (w : ℕ) (x y : Option ℕ) → 0 < w → x ≡ name_in ((w - 1) % 4294967296) → y ≡ name_in ((w - 1) / 4294967296)
    → fate_of w ≡ Some record { sender = x; receiver = y }
told zero x y lt p q = absurd (omega arith)
told (suc n) x y lt p q =
    let e : n ≡ suc n - 1 = omega arith in
    ap (λ (m : ℕ). Some record { sender = name_in (m % 4294967296); receiver = name_in (m / 4294967296) }) e
    ∙ (λ i. Some record { sender = sym p i; receiver = sym q i })

pub returns : goal.returns
returns g c =
    let items = slots_items c.args.self.now.closed.words in
    let here : slice_index items (c.args.at + 17) ≡ c.word-state.result
    = ap (λ (i : ℕ). slice_index items i) (sym c.state_of.ensures)
    ∙ index_at items c.state_of.result c.word-state.result c.word-state.ensures in
    let some_ : 0 < c.word-state.result = omega arith in
    sym (ap fate_of here
    ∙ told c.word-state.result c.name_of.result c.name_of-2.result some_ c.name_of.ensures c.name_of-2.ensures)
