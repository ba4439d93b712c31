use Rattle.mb_mailbox.proofs.consumer.moves.laws_hold.Goals as goal

pub returns : goal.returns
returns c = record {
  start = c.readers_follow_lanes.ensures.met;
  own_met = c.readers_follow_lanes.ensures.own;
  link = c.readers_follow_lanes.ensures.link;
  item = c.readers_follow_lanes.ensures.item;
  lane = c.cells_stand_once.ensures.lane;
  within = c.cells_stand_once.ensures.within;
  few = c.cells_stand_once.ensures.few;
  share = c.lanes_share_cells.ensures.few;
  older = c.history_extends.ensures.older;
  only = c.parts_have_accesses.ensures.only;
  own = c.accesses_lengthen_one_part.ensures.own;
  table = c.layouts_are_sound.ensures.table;
  one_stage = c.prefixes_have_one_stage.ensures;
  own_cell = c.accesses_lengthen_one_part-2.ensures.own_cell;
  other_cells = c.accesses_lengthen_one_part-2.ensures.other_cells;
  cell = c.loads_meet_cells.ensures.cell;
  none = c.loads_meet_cells.ensures.none;
  elsewhere = c.loads_meet_cells.ensures.elsewhere;
  met = c.loads_meet_cells.ensures.met;
  given = c.loads_meet_cells.ensures.given;
  on_lane = c.loads_meet_cells.ensures.on_lane;
  once = c.loads_meet_cells.ensures.once;
  has_met_all = c.loads_meet_cells.ensures.all;
  looks = c.parts_fit_on.ensures.looks;
  claims = c.parts_fit_on.ensures.claims;
  takes = c.parts_fit_on.ensures.takes;
}
