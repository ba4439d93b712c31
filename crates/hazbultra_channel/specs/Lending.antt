-- What a block or a handle leads to once the borrow that it lent has ended.
use base.Fml.{Fml}
use mathlib.Core.Path.{refl}
use Rattle.std.specs.Prelude.{Option, Some, true}
use Rattle.std.specs.Borrow.{Lends, LendsIf, MutBor}
use Rattle.hazbultra_channel.specs.declared.handle.End.{End}
use Rattle.hazbultra_channel.specs.declared.handle.block.Block.{Block}
use Rattle.hazbultra_channel.specs.declared.thing.Thing.{Thing}
use Rattle.hazbultra_channel.specs.contracts.handle.End.{the_row as handle_row}
use Rattle.hazbultra_channel.specs.contracts.handle.block.Block.{the_row as block_row}
use Rattle.hazbultra_channel.specs.contracts.thing.Thing.{the_row as thing_row}

-- this block, but leading to this thing
abbrev pub leading_to : Block → Thing → Block
leading_to b x = record { at = b.at; alloc = b.alloc; thing = Some x }

-- this handle, but leading to this thing
abbrev pub handle_to : End → Thing → End
handle_to h x = record { full = true; alloc = h.alloc; block = leading_to h.block x; agrees = refl }

-- once borrow r has ended, block b leads to the last value of r
abbrev pub BlockLends : MutBor Block → MutBor Thing → Fml
BlockLends b r = Lends block_row thing_row b r (leading_to b.now)

-- once borrow r has ended, handle h leads to the last value of r. If nothing was lent, h is as it was
abbrev pub EndLends : MutBor End → Option (MutBor Thing) → Fml
EndLends h r = LendsIf handle_row thing_row h r (handle_to h.now) h.now
