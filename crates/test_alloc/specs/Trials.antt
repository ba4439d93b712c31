-- What a call that is tried over a faulty heap may return.
use denote.Ref.{Bor}
use denote.Param.Members.{Shared}
use Rattle.std.specs.Prelude.{◌≡◌, Bool}
use Rattle.std.specs.Fn.{FnReturnsAt}
use Rattle.std.specs.declared.result.Result.{Result}
use Rattle.std.specs.declared.result.Result.TheVariants.{Ok}
use Rattle.test_alloc.specs.declared.counters.Refuse.{Refuse}
use Rattle.test_alloc.specs.declared.faulty.FaultyHeap.{FaultyHeap}

-- by its contract the call may return `served`, which says whether it was served, over some faulty heap that refuses
-- these requests
abbrev pub MaySay : {F B E : Type 0}
    → Shared F (Bor (FaultyHeap B) × Unit {0}) (Result Bool E) → F → Refuse → Bool → Type 0
MaySay {F} {B} g call refuse served =
    (rations : FaultyHeap B) × (rations.book.refuse ≡ refuse) × FnReturnsAt g call rations (Ok served)
