use Rattle.std.proofs.Common.{◌≡◌, List, arith, subst, sym, refl, ℕ}
use Rattle.std.specs.Prelude.{Some, slice_get}
use Rattle.mb_mailbox.specs.LaneNotes.{AreMarked, all_told, by_lane}
use Rattle.mb_mailbox.specs.declared.notes.marks.Mark.{Mark}
use Rattle.mb_mailbox.proofs.LaneLists.{lanes_counted, no_lists, none_counted}
use Rattle.mb_mailbox.proofs.notes.Notes.new.Goals as goal

-- the lists of marks and of words are empty: both proofs replace them by the empty list
pub invariant_of-result : goal.invariant_of-result
invariant_of-result g c =
    subst (λ (z : List Mark × List ℕ). AreMarked c.args.lanes z.0 z.1)
    (λ j. (sym c.in_ok-marks.ensures.items j, sym c.in_ok-words.ensures.items j))
    (record { few = c.requires; words = refl; count = sym (none_counted c.args.lanes) })

pub returns : goal.returns
returns g c =
    let ms = c.in_ok-marks.marks.items in
    let ws = c.in_ok-words.words.items in
    record {
      count = lanes_counted c.args.lanes (all_told ms ws);
      empty = λ p l e. no_lists c.args.lanes p l
          (subst (λ (z : List Mark × List ℕ). slice_get (by_lane c.args.lanes (all_told z.0 z.1)) p ≡ Some l)
          (λ j. (c.in_ok-marks.ensures.items j, c.in_ok-words.ensures.items j)) e);
      room = let marks = c.in_ok-marks.ensures.capacity in let words = c.in_ok-words.ensures.capacity in
          omega (arith, marks, words);
    }
