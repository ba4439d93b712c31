-- Proof of `laws::steps_keep_states`: each kind of step leads from a state to a state.
use Rattle.std.proofs.Common.{◌≡◌, suc, length, slice_index, refl, sym, ◌∙◌}
use Rattle.std.proofs.Common.{arith, le_refl}
use Rattle.atomic_table.proofs.Lists.{set_else}
use Rattle.mb_deciding.specs.Vocabulary.{reg_of}
use Rattle.mb_claim.specs.Vocabulary.{quorums_of, kinds_of, address_in, access_in, after_op, found_in}
use Rattle.mb_shared_claims.specs.Types.{Issuing, Standing}
use Rattle.mb_shared_claims.specs.Views.{claims_of_size}
use Rattle.mb_shared_claims.specs.Rule.{roster}
use Rattle.mb_shared_claims.proofs.Moves.{begins}
use Rattle.mb_shared_claims.proofs.Plans.{after_access, after_drawing, after_giving, after_taking, after_settling}
use Rattle.mb_shared_claims.proofs.laws.steps_keep_states.Goals as goal

pub returns-clause-new : goal.returns-clause-new
returns-clause-new g k = begins k (g.histories_begin_with_zeros.ensures.memory (claims_of_size k))

-- each clause from here on takes the plan of the state before its step, and gives one that explains the state after it
pub returns-clause-access : goal.returns-clause-access
returns-clause-access g k size words views id own cell word done next held is low has may small =
    let cs = claims_of_size k in
    let s = held.1 in
    let address = address_in cs cell next.object (reg_of next.op) in
    let mine = s.parts id own done (Standing size own done, is, (refl, refl)) in (
      _,
      after_access k words views held.0 s size id own address
          (after_op next.op (found_in cs cell next.object next.op words))
          done (access_in cs own cell next.object next.op word words) is refl g.accesses_lengthen_one_part.ensures.own
          g.accesses_lengthen_one_part.ensures.others
          (g.addresses_are_apart.ensures.within (quorums_of k.layout).registers (kinds_of k.layout)
          k.cells cell next.object
          (reg_of next.op) has low)
          (may word words held.0.history s.memory (sym mine.2) small),
    )

-- after the draw the same plan explains the table
pub returns-clause-draw : goal.returns-clause-draw
returns-clause-draw g k size words views id roll held is room =
    let s = held.1 in
    let count = slice_index words (roster k) in
    let fits = s.fits id (Issuing size roll) is in
    let counted : count ≡ length roll = fits.2 ∙ sym fits.1.1 in (
      held.0,
      after_drawing k words views held.0 s size id (suc count) roll is refl (omega arith)
          (g.other_words_are_free.ensures (claims_of_size k) (roster k) (suc count) words
          held.0.history (le_refl (roster k))
          s.memory),
    )

pub returns-clause-give : goal.returns-clause-give
returns-clause-give g k size words views id roll held is = (_, after_giving k words views held.0 held.1 size id roll is)

pub returns-clause-take : goal.returns-clause-take
returns-clause-take g k size its words views id other own roll done held apart is there = (
  _,
  after_taking k words views held.0 held.1 size its id other own roll done apart is
      (set_else views id other _ apart ∙ there),
)

pub returns-clause-settle : goal.returns-clause-settle
returns-clause-settle g k size words views id own roll done held is =
    (held.0, after_settling k words views held.0 held.1 size id own roll done is)
