-- Histories of a world: the accesses to the words of the cells and to those of the claims in one order, the newest
-- first.
use Rattle.std.specs.Prelude.{ℕ, ◌≡◌, Bool, ◌&&◌, List, [], ◌∷◌, nat_eq, filter}
use Rattle.mb_world.specs.Imports.{ClaimAccess, History, PoolAccess, Reader, has_cell, is_of_lane, is_same_process, linked_cells}
use Rattle.mb_world.specs.Plan.{Histories}

-- one atomic access, to a word of the cells or to a word of the claims. Consumer c reads the cells as reader c
pub data WorldAccess : Type 0 where
  ToCells : PoolAccess → WorldAccess
  ToClaims : ClaimAccess → WorldAccess

-- a history of a world: a finite list of its accesses, the newest first
abbrev pub WorldHistory : Type 0
WorldHistory = List WorldAccess

-- the accesses of a world's history to the words of the cells
abbrev pub pool_accesses : WorldHistory → History
pool_accesses [] = []
pool_accesses (ToCells a ∷ older) = a ∷ pool_accesses older
pool_accesses (ToClaims a ∷ older) = pool_accesses older

-- the accesses of a world's history to the words of the claims
abbrev pub claim_accesses : WorldHistory → List ClaimAccess
claim_accesses [] = []
claim_accesses (ToCells a ∷ older) = claim_accesses older
claim_accesses (ToClaims a ∷ older) = a ∷ claim_accesses older

-- both histories of a world, with no order between the two
abbrev pub histories_of : WorldHistory → Histories
histories_of h = record { claims = claim_accesses h; pool = pool_accesses h; reader_of = λ c. c }

-- the access is one of consumer c
abbrev pub IsBy : ℕ → WorldAccess → Type 0
IsBy c (ToCells a) = a.process ≡ Reader c
IsBy c (ToClaims a) = a.consumer ≡ c

-- whether the access is one of consumer c on lane p, if these cells are linked there. Such an access is to the lane's
-- head, or to a word or the claim of one of the cells
abbrev pub is_on : ℕ → ℕ → List ℕ → WorldAccess → Bool
is_on c p ks (ToCells a) = is_same_process (Reader c) a.process && is_of_lane p ks a.word
is_on c p ks (ToClaims a) = nat_eq a.consumer c && has_cell ks a.cell

-- the part of consumer c on lane p: its accesses there
abbrev pub lane_part : ℕ → ℕ → WorldHistory → WorldHistory
lane_part c p h = filter (is_on c p (linked_cells p (pool_accesses h))) h
