-- Proof of `laws::shaped_setups_have_last_objects`: if the shape of a setup or plan has a last object, each of its
-- cells ends with one.
use Rattle.std.proofs.Common.{◌≡◌, ℕ, true, List, sym, ap, ◌∙◌, [], ◌∷◌, ◌++◌, append_assoc}
use Rattle.mb_deciding.specs.Spread.{spread}
use Rattle.mb_deciding.specs.declared.object.Kind.{Kind}
use Rattle.mb_deciding.specs.declared.object.Kind.TheVariants.{LastObject}
use Rattle.mb_claim.specs.Layouts.{fast_row, last_row, pairs_of, quorums_of, row_of}
use Rattle.mb_claim.specs.declared.shape.Shape.{Shape}
use Rattle.mb_world.proofs.laws.shaped_setups_have_last_objects.Goals as goal

-- if a shape has a last object, a cell's row of objects ends with one
ends_with : (shape : Shape) (s n : ℕ) → shape.last ≡ true
    → (front : List Kind) × (row_of shape s n ≡ front ++ LastObject ∷ [])
ends_with shape s n has = (
  fast_row shape.fast ++ pairs_of s n,
  ap (λ b. fast_row shape.fast ++ (pairs_of s n ++ last_row b)) has
      ∙ sym (append_assoc (fast_row shape.fast) (pairs_of s n) (LastObject ∷ [])),
)

pub returns-clause-setups : goal.returns-clause-setups
returns-clause-setups c setup has =
    ends_with setup.layout.shape (spread (quorums_of setup.layout).values) setup.layout.pairs has

pub returns-clause-plans : goal.returns-clause-plans
returns-clause-plans c shape p d m k t has = ends_with shape (spread d) k has
