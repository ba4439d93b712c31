-- Proof of `Setup::shaped`: this setup, but with this shape for each cell.
use Rattle.std.proofs.Common.{◌≡◌, ℕ, ap, ◌∙◌, List}
use Rattle.mb_quorum.specs.Quorum.{QuorumTable}
use Rattle.mb_quorum.specs.Tables.{table_of}
use Rattle.mb_quorum.specs.TablesLaw.{named_values}
use Rattle.mb_deciding.specs.Spread.{spread}
use Rattle.mb_deciding.specs.declared.object.Kind.{Kind}
use Rattle.mb_claim.specs.AllClaims.{claims_of}
use Rattle.mb_claim.specs.Layouts.{quorums_of, row_of}
use Rattle.mb_claim.specs.declared.shape.Shape.{Shape}
use Rattle.mb_world.specs.Plan.{Plan}
use Rattle.mb_world.proofs.setup.Setup.shaped.Goals as goal

-- the plan of this table, these objects of each cell, this number of cells and this number of lanes
abbrev plan_with : QuorumTable → List Kind → ℕ → ℕ → Plan
plan_with t kinds cells lanes = record { claims = claims_of t kinds cells; lanes = lanes }

-- equal tables, objects, cells and lanes make equal plans
same_plan : (t u : QuorumTable) (ks js : List Kind) (a b p q : ℕ) → t ≡ u → ks ≡ js → a ≡ b → p ≡ q
    → plan_with t ks a p ≡ plan_with u js b q
same_plan t u ks js a b p q table kinds cells lanes =
    ap (λ x. plan_with x ks a p) table
    ∙ (ap (λ x. plan_with u x a p) kinds ∙ (ap (λ x. plan_with u js x p) cells ∙ ap (λ x. plan_with u js b x) lanes))

-- equal shapes, numbers of consumers and numbers of pairs make equal rows of objects
same_row : (s r : Shape) (v w n k : ℕ) → s ≡ r → v ≡ w → n ≡ k → row_of s (spread v) n ≡ row_of r (spread w) k
same_row s r v w n k shape values pairs =
    ap (λ x. row_of x (spread v) n) shape
    ∙ (ap (λ x. row_of r (spread x) n) values ∙ ap (λ x. row_of r (spread w) x) pairs)

pub returns-clause-plan : goal.returns-clause-plan
returns-clause-plan c s p d m k t same pairs some =
    let table : quorums_of c.args.self.now.layout ≡ table_of t d = ap (λ plan. plan.claims.table) same in
    let made = c.shaped.ensures in
    same_plan _ _ _ _ _ _ _ _ (made.quorums ∙ table)
    (same_row _ _ _ _ _ _ (made.shape some)
    (ap (λ q. q.values) (made.quorums ∙ table) ∙ named_values t d) (made.pairs ∙ pairs))
    (ap (λ plan. plan.claims.cells) same) (ap (λ plan. plan.lanes) same)
