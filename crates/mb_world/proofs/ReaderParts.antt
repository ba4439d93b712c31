-- The part of a reader has what the reader loaded, and nothing else.
use Rattle.std.proofs.Common.{◌≡◌, ℕ, refl, subst}
use Rattle.mb_cells.proofs.Names.{access_is, own_process}
use Rattle.mb_cells.proofs.Parts.{Has-of_part, Has-part, part_by}
use Rattle.mb_world.specs.Imports.{Has, HasLoaded, History, Load, PoolAccess, Reader, Word, load, part}
use Rattle.mb_world.specs.Fitting.{HasRead}

-- a reader's access is in its part
pub has_part : (q : ℕ) (h : History) (a : PoolAccess) → Has h a → a.process ≡ Reader q → Has (part (Reader q) h) a
has_part q h a has by_q = Has-part (Reader q) h a has (own_process (Reader q) a by_q)

-- an access of a reader's part is the reader's
pub of_part : (q : ℕ) (h : History) (a : PoolAccess) → Has (part (Reader q) h) a → Has h a × (a.process ≡ Reader q)
of_part q h a has = (Has-of_part (Reader q) h a has, part_by (Reader q) h a has)

-- a reader's part has each load that the reader made
pub read-loaded : (q : ℕ) (h : History) (w : Word) (v : ℕ) → HasLoaded q w v h → HasRead w v (part (Reader q) h)
read-loaded q h w v has = (load q w v, has_part q h (load q w v) has refl, refl, refl)

-- each load that a reader's part has was made by the reader
pub loaded-read : (q : ℕ) (h : History) (w : Word) (v : ℕ) → HasRead w v (part (Reader q) h) → HasLoaded q w v h
loaded-read q h w v read =
    let own = of_part q h read.0 read.1 in
    subst (Has h) (access_is read.0 (Reader q) w (Load v) own.1 read.2 read.3) own.0
