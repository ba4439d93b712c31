-- Proof of `laws::steps_keep_states`: each kind of step leads from a state to a state.
use Rattle.std.proofs.Common.{[], inl, refl, subst, sym, ◌∙◌, ◌∷◌, ◌≡◌, ◌≢◌}
use mathlib.Core.Option.{some, some-injective}
use lib.ListN.{get_elem?}
use Rattle.atomic_table.proofs.Lists.{set_else}
use Rattle.mb_shared_cells.specs.Types.{Hub, HubDraws, Member}
use Rattle.mb_shared_cells.proofs.Seatings.{enrolled_fits}
use Rattle.mb_shared_cells.proofs.AccessMoves.{AccessLaws, kept_by_access}
use Rattle.mb_shared_cells.proofs.DrawMoves.{after_draw, begins}
use Rattle.mb_shared_cells.proofs.EnrolMoves.{lane_splits, reader_splits}
use Rattle.mb_shared_cells.proofs.TakeMoves.{after_load, takes_in}
use Rattle.mb_shared_cells.proofs.laws.steps_keep_states.Goals as goal

pub returns-clause-new : goal.returns-clause-new
returns-clause-new c = λ size few. begins c.words_follow_steps.ensures.empty size few

-- the access may follow the history of the state's seating, since that history leaves the words
pub returns-clause-access : goal.returns-clause-access
returns-clause-access c = λ size own words views id known done a held is may.
    let laws : AccessLaws = record {
      own = c.accesses_lengthen_one_part.ensures.own;
      others = c.accesses_lengthen_one_part.ensures.others;
      step = c.words_follow_steps.ensures.step;
      within = c.addresses_are_apart.ensures.within;
    } in
    let t = held.0 in
    let r = held.1 in
    let mine = r.fits id (Member own a.process known done) is in
    let fits = enrolled_fits t size.lanes _ a.process mine.2.enrolled r.drawn r.few in
    let lawful = may t.history r.memory (sym mine.2.part) fits in
    kept_by_access laws size words views id own a.process known done a.word a.act _ held is
    (c.accesses_stay_within.ensures.all size (a ∷ t.history) a lawful (inl refl)) refl lawful

-- after a draw the table agrees with the same seating
pub returns-clause-draw : goal.returns-clause-draw
returns-clause-draw c = λ size own words views id roll held is room.
    let more = c.words_follow_steps.ensures.more in
    (held.0, after_draw more size words views held.0 id _ own roll held.1 is room refl)

-- a split and a join leave the words as they are. The rule says nothing of slots, so the state here has none
pub returns-clause-give_lane : goal.returns-clause-give_lane
returns-clause-give_lane c = λ size own words views id roll held is.
    lane_splits size id (HubDraws own roll) own roll refl
    (record { words = words; homes = []; views = views }) held is

pub returns-clause-give_reader : goal.returns-clause-give_reader
returns-clause-give_reader c = λ size own words views id roll held is.
    reader_splits size id (Hub own roll) own roll refl
    (record { words = words; homes = []; views = views }) held is

-- hub and seat are two seats, since one has the hub's view and the other a member's
pub returns-clause-take : goal.returns-clause-take
returns-clause-take c = λ size own its words views id other roll who known done held is there.
    let apart : other ≢ id = λ e.
    let here = subst (λ i. get_elem? views i ≡ some (Member its who known done)) e there in
    let one = some-injective (Hub own roll) (Member its who known done) (sym is ∙ here) in
    absurd (cc) in
    takes_in size id other own its roll who known done
    (record { words = words; homes = []; views = views }) held is
    apart (set_else views id other _ apart ∙ there)

-- after the load the table agrees with the same seating
pub returns-clause-settle : goal.returns-clause-settle
returns-clause-settle c = λ size own words views id roll who done held is.
    (held.0, after_load size words views held.0 id own roll who done held.1 is)
