-- A claim that goes straight through whole objects: where it stands before one, and where its accesses ended.
use Rattle.std.specs.Prelude.{ℕ, zero, suc, ◌≡◌, ◌+◌, ◌*◌, ◌<◌, Bool, true, false, Some, MatchOption, slice_get}
use Rattle.mb_deciding.specs.Vocabulary.{first_place}
use Rattle.mb_claim.specs.ObjectTypes.{Kind, LastObject, Site}
use Rattle.mb_claim.specs.Types.{Claim, Going, Layout, Stretch}
use Rattle.mb_claim.specs.Layouts.{quorums_of, kinds_of, words_before}
use Rattle.mb_claim.specs.OneClaim.{claim_stage, consumer_of, FitsLayout}

-- whether a claim before its first access to object o has made an access: it has, if o is not 0
abbrev pub is_past : ℕ → Bool
is_past zero = false
is_past (suc o) = true

-- the claim of consumer c before its first access to object o, which is of this kind, with input v
abbrev pub standing : Layout → ℕ → ℕ → ℕ → Kind → Claim
standing layout c o v kind =
    record {
      consumer = c;
      object = o;
      place = first_place (quorums_of layout) kind v;
      stage = Going;
      begun = is_past o;
    }

-- the claim is consumer c's before its first access to object o, with input v
abbrev pub IsStanding : Layout → ℕ → ℕ → ℕ → Claim → Type 0
IsStanding layout c o v claim =
    MatchOption (slice_get (kinds_of layout) o) ⊥ (λ kind. claim ≡ standing layout c o v kind)

-- the site of object o, on a cell whose words begin at `begin`
abbrev pub site_of : Layout → ℕ → ℕ → Site
site_of layout begin o =
    record { object = o; begin = begin + words_before (quorums_of layout).registers (kinds_of layout) o }

-- straight accesses of consumer c ended with this claim. It is c's, and has the stage of the stretch. If it is going,
-- it stands on one of the layout's objects. It is then before its first access to the object that the stretch names,
-- with the value of the stretch as input
abbrev pub HasEnd : Layout → ℕ → Stretch → Claim → Type 0
HasEnd layout c stretch end = (claim_stage end ≡ stretch.stage) × (consumer_of end ≡ c) × FitsLayout layout end
    × (stretch.stage ≡ Going → IsStanding layout c stretch.object stretch.value end)

-- straight accesses of a claim ended no sooner than they had to. If it is going, fewer accesses are left than 2 for
-- each register and 10: no object takes more. Before a last object none is left
abbrev pub HasStopped : Layout → Stretch → Type 0
HasStopped layout stretch = stretch.stage ≡ Going
    → (stretch.left < 2 * (quorums_of layout).registers + 10)
    × (slice_get (kinds_of layout) stretch.object ≡ Some LastObject → stretch.left ≡ 0)
