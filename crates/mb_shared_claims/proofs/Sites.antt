-- The consumer of a seat, and where the words of an object are.
use Rattle.std.proofs.Common.{◌≡◌, ◌<◌, ◌+◌, ◌*◌, ℕ, ◌^◌, Option, Some, sym, ◌∙◌, ap, subst, arith}
use Rattle.std.specs.Prelude.{MatchOption}
use Rattle.mb_deciding.specs.declared.memory.Site.{Site}
use Rattle.mb_claim.specs.Vocabulary.{quorums_of, kinds_of, offset, cell_words, address_of, consumer_count, site_of}
use Rattle.mb_shared_claims.specs.Types.{Layout, Reg, TableId, TableSize}
use Rattle.mb_shared_claims.specs.Seats.{ClaimTable, IsClaimSeat, TableView, name_of, size_in, table_of}
use Rattle.mb_shared_claims.specs.ViewSteps.{Seated}

-- ---- the consumer of a seat
-- the consumer of a seat is one of the consumers of its table's layout
pub seat_known :
    (me : Seated) (c : ℕ) (id : TableId) (t : TableView) → IsClaimSeat me c → table_of id me.0 ≡ name_of t
    → c < consumer_count t.layout
seat_known me c id t is named =
    let size : Some is.size ≡ Some (record { layout = t.layout; cells = t.cells }) =
    sym (ap (λ (m : Seated). size_in m.0) is.is) ∙ ap (λ (z : ClaimTable). z.size) named in
    subst (λ (z : Option TableSize). MatchOption z ⊥ (λ s. c < consumer_count s.layout)) size is.known

-- ---- the words of an object
-- a word of an object can be addressed if the words of its cell can
pub word_addressed :
    (layout : Layout) (cell : ℕ) (site : Site) (reg : Reg)
    → address_of (quorums_of layout).registers (kinds_of layout) 0 site.object reg < 1 * cell_words layout
    → site ≡ site_of layout (cell * cell_words layout) site.object
    → cell * cell_words layout + cell_words layout < 2 ^ 64 → site.begin + offset reg < 2 ^ 64
word_addressed layout cell site reg in_cell at room =
    let begin = ap (λ (s : Site). s.begin) at in omega (arith, in_cell, begin, room)
