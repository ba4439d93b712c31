-- A box of a thing, its parts, and a block that may lead to it, in the form that the proofs in `handle` need.
use mathlib.Core.List.{[]}
use mathlib.Core.Path.{◌≡◌, refl}
use mir.Syntax.{impl, tnil, dnil}
use mathlib.Core.Bool.{Bool, true, false, ◌&&◌}
use lib.Dec.{T}
use denote.Signature.{Slot, plain}
use Rattle.std.specs.Prelude.{Option, Some, None, IsSome}
use Rattle.std_alloc.proofs.BoxSteps.Form.{Bx}
use Rattle.std_heap.specs.contracts.Global as heap_row
use Rattle.std_heap.specs.contracts.GlobalAllocator.TheImpl.{ghosts, dict}
use Rattle.std_heap.proofs.Global.TheLaws as heap_laws
use Rattle.hazbultra_channel.specs.contracts.thing.Thing as thing
use Rattle.hazbultra_channel.proofs.thing.Thing.TheLaws as thing_laws
use Rattle.hazbultra_channel.specs.contracts.handle.block.parts.Parts as parts
use Rattle.hazbultra_channel.specs.contracts.handle.block.Block as block

-- a box of a thing, from the heap
abbrev pub thing_box : Bx
thing_box = record {
  row = thing.the_row;
  laws = thing_laws.the_row_laws;
  al = record {
    row = heap_row.the_row;
    laws = heap_laws.the_row_laws;
    g = ghosts;
    d = dict;
    drops = impl [] tnil dnil;
  };
}

-- the type of the parts of a box of a thing, as a parameter of a function
abbrev pub parts_slot : Slot 0
parts_slot = plain (λ _. parts.the_row thing.the_row heap_row.the_row ghosts)

-- the type of a block that may lead to a thing, as a parameter of a function
abbrev pub block_slot : Slot 0
block_slot = plain (λ _. block.the_row)

-- an option that is not `None` has a value, and is `Some` of that value
pub the_some : {X : Type 0} (o : Option X) → IsSome o → (x : X) × (o ≡ Some x)
the_some None nothing = absurd (cc)
the_some (Some x) _ = (x, refl)

-- if b is true, `b && true` is true
pub and_true : (b : Bool) → T b → T (b && true)
and_true true holds = holds
and_true false never = elim never [ ]
