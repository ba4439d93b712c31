-- A claim on at least one object goes on before its first access, and which shapes give each cell an object.
use Rattle.std.proofs.Common.{◌≢◌, ℕ, zero, suc, ◌<◌, ◌≤◌, Bool, true, false, List, [], ◌∷◌, ◌++◌, ◌≡◌, refl, inl, arith}
use Rattle.std.proofs.lemmas.Bool.{false≢true}
use Rattle.mb_quorum.specs.Quorum.{IsQuorumTable, QuorumTable}
use Rattle.mb_deciding.specs.Deciding.{IsDeciding}
use Rattle.mb_deciding.specs.Objects.{IsOpen}
use Rattle.mb_deciding.specs.OneObject.{Object, object_of}
use Rattle.mb_claim.specs.declared.access.Stage.TheVariants as stage
use Rattle.mb_claim.specs.Layouts.{fast_row, last_row, pairs_of, row_of}
use Rattle.mb_claim.specs.declared.shape.Shape.{Shape}
use Rattle.mb_claim.specs.Paths.{IsClaimPrefixFrom}
use Rattle.mb_world.specs.Imports.{Claims, IsClaimPrefix, Kind}

-- a claim on a row of at least one object goes on before its first access, if a use of each kind of object does
goes_from : (t : QuorumTable) (kinds : List Kind) (c : ℕ) → kinds ≢ [] → ((kind : Kind) → IsOpen t kind c [])
    → IsClaimPrefixFrom t c kinds 0 c [] stage.Going
goes_from t [] c some opens = absurd (some refl)
goes_from t (kind ∷ kinds) c some opens = inl (record { turns = []; all = refl; going = opens kind; is = refl })

-- a claim on a cell with objects goes on before its first access, if the table and the objects keep their laws
pub fresh_goes : (cs : Claims) → IsQuorumTable cs.table → ((o : Object) → IsQuorumTable o.table → IsDeciding o)
    → cs.kinds ≢ []
    → (c : ℕ) → c < cs.table.values → IsClaimPrefix cs c [] stage.Going
fresh_goes cs table promises some c known =
    goes_from cs.table cs.kinds c some (λ kind. (promises (object_of cs.table kind (λ i. i)) table).opens c known)

-- a row of objects that is not empty stays so with a fast path before it, or without
some_with : (fast : Bool) (rest : List Kind) → rest ≢ [] → fast_row fast ++ rest ≢ []
some_with true rest some e = cc
some_with false rest some e = some e

-- a row of pairs and perhaps a last object is not empty, if it has a last object when there are no pairs
some_pairs : (s n : ℕ) (b : Bool) → (n ≡ 0 → b ≡ true) → pairs_of s n ++ last_row b ≢ []
some_pairs s (suc n) b some e = cc
some_pairs s zero true some e = cc
some_pairs s zero false some e = absurd (false≢true (some refl))

-- the row of a shape with pairs or a last object is not empty
pub some_row : (shape : Shape) (s n : ℕ) → (n ≡ 0 → shape.last ≡ true) → row_of shape s n ≢ []
some_row shape s n some =
    some_with shape.fast (pairs_of s n ++ last_row shape.last) (some_pairs s n shape.last some)
