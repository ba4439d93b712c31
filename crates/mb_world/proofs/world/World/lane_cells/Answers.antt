-- Proof of `World::lane_cells`: the cells of lane `p`, along the links from its head, and whether the lane has ended.
use Rattle.std.proofs.Common.{◌≡◌, ◌<◌, sym, ◌∙◌, ap, subst, arith, true, false, length}
use Rattle.std.proofs.Common.{[], ◌∷◌, length-append}
use Rattle.std.proofs.lemmas.List.Elements.{All-push}
use Rattle.mb_cells.specs.State.{IsAfter, PoolState, cell_count, lane_count, look_in, size_of}
use Rattle.mb_cells.specs.declared.answer.Look.TheVariants as look
use Rattle.mb_world.specs.Imports.{History}
use Rattle.mb_world.specs.WorldState.{WorldIsSound, WorldState}
use Rattle.mb_world.proofs.LaneWalks.{walk_begins, walk_ends, walk_goes, walk_fits}
use Rattle.mb_world.proofs.world.World.lane_cells.Goals as goal

-- at the head no cell was met yet
pub links-init : goal.links-init
links-init g c =
    let s = c.args.self.now in
    let is : WorldIsSound s = subst WorldIsSound c.self.view_is c.self.invariant in
    let inside : c.args.p < lane_count s.pool = omega (arith, is.1.lanes, c.requires) in
    record {
      within = λ k d less. absurd (omega (arith, less, ap length c.new-cells.ensures.items));
      cursor = rw (c.head-cursor.ensures) inside;
      walks = rw (c.new-cells.ensures.items, c.head-cursor.ensures)
          (walk_begins s.pool c.args.p (λ pool after. c.pools_show_lanes.ensures pool s.pool c.args.p after inside));
    }

-- if a cell is found, the walk goes on past it
pub links-preserved : goal.links-preserved
links-preserved g c =
    let s = c.args.self.now in
    let is : WorldIsSound s = subst WorldIsSound c.self.view_is c.self.invariant in
    let ks = c.links.cells.items in
    let k = c.in-Cell.k in
    let pool = ap (λ (w : WorldState). w.pool) c.self.view_is in
    let seen : look_in c.links.cursor s.pool ≡ look.Cell k =
    subst (λ (q : PoolState). look_in c.links.cursor q ≡ look.Cell k) pool (sym c.look.ensures.shown ∙ c.in-Cell.is) in
    let at : k < cell_count s.pool =
    subst (λ (q : PoolState). k < cell_count q) pool (c.look.ensures.within k c.in-Cell.is) in
    let goes = walk_goes s.pool c.args.p k ks c.links.cursor seen c.links.invariant.walks in
    rw (c.in_ok-push-in-Cell.ensures.items, c.past-cursor.ensures) (record {
      within = All-push (λ i. i < s.setup.cells) ks k c.links.invariant.within (omega (arith, at, is.1.cells));
      cursor = at;
      walks = goes;
    })

-- before a pass that finds a cell, fewer cells were met than the pool has, so there is one less to meet
pub links-smaller : goal.links-smaller
links-smaller g c =
    let s = c.args.self.now in
    let is : WorldIsSound s = subst WorldIsSound c.self.view_is c.self.invariant in
    let ks = c.links.cells.items in
    let k = c.in-Cell.k in
    let pool = ap (λ (w : WorldState). w.pool) c.self.view_is in
    let seen : look_in c.links.cursor s.pool ≡ look.Cell k =
    subst (λ (q : PoolState). look_in c.links.cursor q ≡ look.Cell k) pool (sym c.look.ensures.shown ∙ c.in-Cell.is) in
    let old : (h : History) × IsAfter h s.pool =
    subst (λ (q : PoolState). (h : History) × IsAfter h q) pool c.has_history.ensures.history in
    let once = c.cells_stand_once.ensures.once (size_of s.pool) old.0 c.args.p old.1.lawful in
    let fits : length ks < cell_count s.pool =
    walk_fits s.pool c.args.p k (cell_count s.pool) ks c.links.cursor seen
    c.links.invariant.walks old.0 old.1 once
    (λ i has. (c.cells_stand_once.ensures.within (size_of s.pool) old.0 c.args.p i old.1.lawful has).1) in
    omega (arith, fits, is.1.cells, ap length c.in_ok-push-in-Cell.ensures.items, length-append ks (k ∷ []))

-- if nothing is found, the cells met are all cells of the lane, which has not ended
pub returns-in-Nothing-clause-walked : goal.returns-in-Nothing-clause-walked
returns-in-Nothing-clause-walked g c =
    walk_ends c.args.self.now.pool c.args.p c.links.cells.items c.links.cursor false
    (subst (λ (q : PoolState). look_in c.links.cursor q ≡ look.Nothing) (ap (λ (w : WorldState). w.pool) c.self.view_is)
    (sym c.look.ensures.shown ∙ c.in-Nothing.is)) c.links.invariant.walks

-- if the end mark is found, the cells met are all cells of the lane, which has ended
pub returns-in-Ended-clause-walked : goal.returns-in-Ended-clause-walked
returns-in-Ended-clause-walked g c =
    walk_ends c.args.self.now.pool c.args.p c.links.cells.items c.links.cursor true
    (subst (λ (q : PoolState). look_in c.links.cursor q ≡ look.Ended) (ap (λ (w : WorldState). w.pool) c.self.view_is)
    (sym c.look.ensures.shown ∙ c.in-Ended.is)) c.links.invariant.walks
