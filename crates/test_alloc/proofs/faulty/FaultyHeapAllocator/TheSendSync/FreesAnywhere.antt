-- If any thread may give a block back to the inner allocator, any thread may give one back to the faulty heap.
use mir.Syntax.{Dict}
use denote.Param.Send.{Frees}
use denote.RattleType.{RattleType}
use Rattle.std.specs.declared.alloc.Allocator.{Ghosts}
use Rattle.test_alloc.specs.contracts.faulty.FaultyHeapAllocator.TheImpl.{ghosts}

pub frees : (B : RattleType) (g : Ghosts B.Denot) (d e : Dict) → Frees g g.dealloc_token
    → Frees (ghosts B g d e) (ghosts B g d e).dealloc_token
frees B g d e f = record { frees = λ rations τ p. f.frees rations.inner τ p }
