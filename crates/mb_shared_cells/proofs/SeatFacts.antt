-- Why the invariants of the hub and of each seat hold, also after an access, and what callers see of a reader's access.
use Rattle.std.proofs.Common.{[], ap, length, refl, subst, sym, ℕ, ◌∙◌, ◌∷◌, ◌≡◌}
use Rattle.std.specs.Prelude.{Some}
use Rattle.atomic_table.specs.Seated.{TableId}
use Rattle.mb_cells.specs.Vocabulary.{History, IsLaneAfter, IsPoolLawful, part}
use Rattle.mb_cells.specs.declared.access.PoolAccess.{PoolAccess}
use Rattle.mb_cells.specs.declared.access.PoolAct.{PoolAct}
use Rattle.mb_cells.specs.declared.access.Process.{Process}
use Rattle.mb_cells.specs.declared.access.Process.TheVariants.{Producer, Reader}
use Rattle.mb_cells.specs.declared.access.Word.{Word}
use Rattle.mb_cells.specs.declared.lane.Lane.{Lane}
use Rattle.mb_cells.specs.declared.size.PoolSize.{PoolSize}
use Rattle.mb_shared_cells.specs.Seats.{IsHubSeat, IsLaneSeat, IsReaderSeat, done_in, known_in, number_in, reader_shown, size_in}
use Rattle.mb_shared_cells.specs.Shown.{HasHistory}
use Rattle.mb_shared_cells.specs.Views.{IsAccessAfter, IsRollOf, MakesAccess, PartList, SeatState, access_by, empty_roll, roll_at}
use Rattle.mb_shared_cells.specs.declared.views.Roll.{Roll}
use Rattle.mb_shared_cells.specs.declared.views.View.TheVariants.{Hub}

-- the invariant of the hub (`IsHubSeat`) follows from its view, its count and the history of its roll
pub hub_is : (me : SeatState) (size : PoolSize) (roll : Roll) (given : ℕ) → me ≡ (Hub size roll, [])
    → given ≡ length roll.lanes → (h : History) × IsRollOf size roll h → IsHubSeat me given
hub_is me size roll given is count history =
    subst (λ (z : SeatState). IsHubSeat z given) (sym is) (record { is = refl; count = count; history = history })

-- a law of `mb_cells`: after an access its process's part is the part before, with the access in front
abbrev pub OwnLaw : Type 0
OwnLaw = (h : History) (a : PoolAccess) → part a.process (a ∷ h) ≡ a ∷ part a.process h

-- if an access came after this part, some lawful history has the part with the access in front
history_then : OwnLaw → (size : PoolSize) (who : Process) (known : PartList) (done : History) (word : Word)
    (act : PoolAct) → IsAccessAfter size known (access_by who word act) done
    → HasHistory size who (access_by who word act ∷ done)
history_then law size who known done word act after =
    let a = access_by who word act in
    (a ∷ after.older, after.lawful, law after.older a ∙ ap (λ l. a ∷ l) after.own)

-- if the invariant of a lane's seat (`IsLaneSeat`) holds, it holds after an access too, with `now`, the place after it
pub lane_then : OwnLaw → (me new : SeatState) (number : ℕ) (was now : Lane) (word : Word) (act : PoolAct)
    → IsLaneSeat me number was → MakesAccess word act me new
    → IsLaneAfter (size_in me.0).cells number now (access_by (Producer number) word act ∷ done_in me.0)
    → IsLaneSeat new number now
lane_then law me new number was now word act s m stands =
    let size = size_in me.0 in
    let done = done_in me.0 in
    let m' = subst (λ (z : SeatState). MakesAccess word act z new) s.is m in
    subst (λ (z : SeatState). IsLaneSeat z number now) (sym m'.1)
    (record {
      is = refl;
      within = s.within;
      stands = stands;
      history = history_then law size (Producer number) [] done word act m'.0;
    })

-- after an access the invariant of a reader's seat (`IsReaderSeat`) still holds
pub reader_then : OwnLaw → (me new : SeatState) (word : Word) (act : PoolAct) → IsReaderSeat me
    → MakesAccess word act me new → IsReaderSeat new
reader_then law me new word act s m =
    let size = size_in me.0 in
    let m' = subst (λ (z : SeatState). MakesAccess word act z new) s.is m in
    subst (λ (z : SeatState). IsReaderSeat z) (sym m'.1)
    (record {
      is = refl;
      history = history_then law size (Reader (number_in me.0)) (known_in me.0) (done_in me.0) word act m'.0;
    })

-- what callers see of a reader's access: it came after the part seen before, and the part seen after has it in front
pub reader_makes : (id then : TableId) (me new : SeatState) (word : Word) (act : PoolAct) → IsReaderSeat me
    → MakesAccess word act me new → then ≡ id
    → IsAccessAfter (size_in me.0) (known_in me.0) (access_by (Reader (number_in me.0)) word act) (done_in me.0)
    × (reader_shown then new ≡ record (reader_shown id me) {
      part = access_by (Reader (number_in me.0)) word act ∷ done_in me.0;
    })
reader_makes id then me new word act s m same =
    let m' = subst (λ (z : SeatState). MakesAccess word act z new) s.is m in
    (m'.0, λ i. reader_shown (same i) (m'.1 i))

-- the empty history has the parts of an empty roll, which are none
pub empty_roll_history : (size : PoolSize) → IsPoolLawful size [] → (h : History) × IsRollOf size empty_roll h
empty_roll_history size lawful = ([], record { lawful = lawful; parts = nobody; others = λ who e. refl })
  where
    nobody : (who : Process) (done : History) → roll_at who empty_roll ≡ Some (Some done) → part who [] ≡ done
    nobody (Producer p) done e = absurd (cc)
    nobody (Reader r) done e = absurd (cc)
