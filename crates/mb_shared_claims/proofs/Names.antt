-- What the name of a seat's table says of the size that the seat's view has.
use Rattle.std.proofs.Common.{◌≡◌, Some, sym, ap, ◌∙◌}
use Rattle.mb_shared_claims.specs.Types.{TableId, TableSize, View}
use Rattle.mb_shared_claims.specs.Seats.{TableView, ClaimTable, name_of, size_in, table_of}

-- a seat whose table has this name has the size of that table
pub size_named :
    (id : TableId) (v : View) (size : TableSize) (t : TableView) → size_in v ≡ Some size → table_of id v ≡ name_of t
    → size ≡ record { layout = t.layout; cells = t.cells }
size_named id v size t is named =
    let same : Some size ≡ Some (record { layout = t.layout; cells = t.cells }) =
    sym is ∙ ap (λ (z : ClaimTable). z.size) named in cc
