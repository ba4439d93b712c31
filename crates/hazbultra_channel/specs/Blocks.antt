-- What a block (the address in a handle) owns, and the coding of the thing to which it may lead.
use base.Fml.{Fml, ftrue}
use base.Stored.{Coded}
use denote.RawPtr.{Ptr}
use Rattle.std.specs.Prelude.{Option, None, Some}
use Rattle.std.specs.Coded.{coded_option}
use Rattle.std.specs.Box.Ownership.{box_owns}
use Rattle.std.specs.Global.{Global}
use Rattle.std_heap.specs.contracts.GlobalAllocator.TheImpl.{ghosts}
use Rattle.hazbultra_channel.specs.contracts.thing.Thing.{the_row}

-- a block that leads to nothing owns nothing, and one that leads to a thing owns what a box of that thing owns
abbrev pub block_owns : Global → Ptr → Option the_row.Denot → Fml
block_owns alloc at None = ftrue
block_owns alloc at (Some x) = box_owns (ghosts.dealloc_token alloc) the_row at x

-- the coding of a thing or nothing, from the coding of a thing
abbrev pub maybe_thing_coded : Coded (Option the_row.Denot)
maybe_thing_coded = coded_option the_row.coded
