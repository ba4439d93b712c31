-- Proof of `steps::loads_meet_cells`: the cells that a reader's own loads met on a lane: how they grow load by load,
-- and what they are in a lawful history with these loads.
use Rattle.std.proofs.Common.{◌∙◌, ◌+◌, ap, refl}
use Rattle.mb_cells.proofs.Names.{is_same_word-ne}
use Rattle.mb_world.specs.Imports.{Reader, load, part, place_past, push_if}
use Rattle.mb_world.specs.Fitting.{cells_met}
use Rattle.mb_world.proofs.Loads.{met_given}
use Rattle.mb_world.proofs.MetCells.{all_met_in, met_in, on_lane_in, once_in}
use Rattle.mb_world.proofs.PathLoads.{met_elsewhere, met_there, none_given, one_given}
use Rattle.mb_world.proofs.steps.loads_meet_cells.Goals as goal

pub returns-clause-cell : goal.returns-clause-cell
returns-clause-cell c q p k reads ne =
    met_there p (cells_met p reads) (load q (place_past p (cells_met p reads)) (k + 1)) reads refl refl
    ∙ ap (λ o. push_if o (cells_met p reads)) (one_given k ne)

pub returns-clause-none : goal.returns-clause-none
returns-clause-none c q p v reads says =
    met_there p (cells_met p reads) (load q (place_past p (cells_met p reads)) v) reads refl refl
    ∙ ap (λ o. push_if o (cells_met p reads)) (none_given v says)

pub returns-clause-elsewhere : goal.returns-clause-elsewhere
returns-clause-elsewhere c p a reads ne =
    met_elsewhere p a reads (is_same_word-ne a.word (place_past p (cells_met p reads)) ne)

pub returns-clause-met : goal.returns-clause-met
returns-clause-met c q p h = met_in q p h

pub returns-clause-given : goal.returns-clause-given
returns-clause-given c q p k h has = met_given q p h (cells_met p (part (Reader q) h)) k (met_in q p h) has

pub returns-clause-on_lane : goal.returns-clause-on_lane
returns-clause-on_lane c size q p k h lawful has =
    on_lane_in q h (λ r ks. c.readers_follow_lanes.ensures.met size h q r ks lawful)
    (λ r s j. c.cells_stand_once.ensures.lane size h r s j lawful) p k has

pub returns-clause-once : goal.returns-clause-once
returns-clause-once c size q p h lawful =
    once_in q h (λ r ks. c.readers_follow_lanes.ensures.met size h q r ks lawful)
    (λ r s k. c.cells_stand_once.ensures.lane size h r s k lawful) p
    (c.cells_stand_once.ensures.once size h p lawful)

pub returns-clause-all : goal.returns-clause-all
returns-clause-all c size q p h lawful follows =
    all_met_in q h (λ r ks. c.readers_follow_lanes.ensures.met size h q r ks lawful)
    (λ r s k. c.cells_stand_once.ensures.lane size h r s k lawful) p follows
