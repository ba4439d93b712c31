-- What comes of a try to send in place.
use Rattle.std.specs.Prelude.{◌≡◌}
use Rattle.mb_channel.specs.declared.busy.Busy.{Busy}
use Rattle.mb_channel.specs.declared.busy.Debt.TheVariants as owed
use Rattle.mb_channel.specs.declared.posting.Posted.{Posted}
use Rattle.mb_channel.specs.declared.posting.Posted.TheVariants as posted
use Rattle.mb_channel.specs.Work.{HasSent, IsStill, Work, work_of}

-- the value was sent, or sent with something owed. Or it comes back: another was first, or this is no place to send
abbrev pub HasPosted : {T : Type 0} → Posted T → T → Work T → Busy T → Type 0
HasPosted posted.Sent x v b = HasSent x v (work_of b) × (b.debt ≡ owed.Nothing)
HasPosted posted.Owes x v b = HasSent x v (work_of b)
HasPosted (posted.Again y) x v b = IsStill v (work_of b) × (y ≡ x) × (b.debt ≡ owed.Nothing)
HasPosted (posted.Back y) x v b = IsStill v (work_of b) × (y ≡ x) × (b.debt ≡ owed.Nothing)
