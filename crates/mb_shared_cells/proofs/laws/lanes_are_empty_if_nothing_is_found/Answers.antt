-- Proof of `laws::lanes_are_empty_if_nothing_is_found`: before such a load the reader has met all cells of the lane.
use Rattle.std.proofs.Common.{◌∷◌, refl, sym}
use Rattle.mb_cells.specs.Vocabulary.{load, place_past}
use Rattle.mb_shared_cells.proofs.KnownLanes.{ReadLaws, found_in, nothing_found}
use Rattle.mb_shared_cells.proofs.laws.lanes_are_empty_if_nothing_is_found.Goals as goal

pub returns : goal.returns
returns c = λ size later before r p ks lawful met.
    let laws : ReadLaws = record {
      older = c.history_extends.ensures.older;
      start = c.readers_follow_lanes.ensures.part;
      next = c.words_lead_through_lanes.ensures.next;
      end = c.words_lead_through_lanes.ensures.end;
      linked = c.parts_tell_lanes.ensures.linked;
      ended = c.parts_tell_lanes.ensures.ended;
      within = c.cells_stand_once.ensures.within;
    } in
    let found = found_in laws size r p before ks (place_past p ks) 0 refl
    (laws.older size later (load r (place_past p ks) 0 ∷ before) lawful) met in
    let so = nothing_found p before ks 0 refl found in (sym so.0, so.1)
