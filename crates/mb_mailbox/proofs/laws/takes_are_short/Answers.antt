-- Proof of `laws::takes_are_short`: a take makes few accesses.
use Rattle.std.proofs.Common.{◌+◌, ◌*◌, ◌≤◌, ◌≡◌, ap, arith, length, subst, suc}
use Rattle.std.proofs.Math.Nat.{mul-le-mul_left, mul-suc}
use Rattle.std.proofs.lemmas.List.{length-append}
use Rattle.mb_claim.specs.Vocabulary.{most_accesses}
use Rattle.mb_mailbox.specs.Imports.{CellsName, ClaimTable, HasMet, History, cells_met}
use Rattle.mb_mailbox.proofs.ShortTakes.{take_few}
use Rattle.mb_mailbox.proofs.Straight.{few_on}
use Rattle.mb_mailbox.proofs.Takes.{spent_by}
use Rattle.mb_mailbox.proofs.laws.takes_are_short.Goals as goal

pub returns-clause-few : goal.returns-clause-few
returns-clause-few c m p most answer s t old new i belongs lawful =
    let few = take_few c.accesses_lengthen_one_part.ensures.own_cell c.loads_meet_cells.ensures.cell
    c.looks_tell_links.ensures.cell p (most_accesses m.claims.layout) most answer s t old new i
    (λ k. few_on c.accesses_lengthen_one_part.ensures.cells c.claims_are_bounded.ensures.layouts m.claims.layout
    m.claims.cells k new.seat (ap (λ (z : ClaimTable). z.size) belongs.claims) lawful) in
    omega (arith, few)

pub returns-clause-unspent : goal.returns-clause-unspent
returns-clause-unspent c m p most answer s t old new i belongs loads lawful wide spent =
    let each = most_accesses m.claims.layout in
    let few = returns-clause-few c m p most answer s t old new i belongs lawful in
    let all = spent_by p most answer i.rest t old i.mid new i.last spent in
    let r = new.reader.reader in
    let h = loads.0 in
    let met : HasMet r p (cells_met p new.reader.part) h =
    subst (λ (d : History). HasMet r p (cells_met p d) h) loads.2 (c.loads_meet_cells.ensures.met r p h) in
    let start = c.readers_follow_lanes.ensures.met new.reader.table.size h r p (cells_met p new.reader.part) loads.1
    met in
    let size = length-append start.0 (cells_met p new.reader.part) in
    let long = ap length start.1 in
    let linked = c.cells_stand_once.ensures.few new.reader.table.size h p loads.1 in
    let cells : length (cells_met p new.reader.part) ≤ m.cells.size.cells =
    subst (λ (z : CellsName). length (cells_met p new.reader.part) ≤ z.size.cells) belongs.cells
    (omega (arith, size, long, linked)) in
    let most-cells = mul-le-mul_left (each + 1) cells in
    let one-more = mul-suc (each + 1) m.cells.size.cells in
    let plus : (each + 1) * (m.cells.size.cells + 1) ≡ (each + 1) * suc m.cells.size.cells =
    ap (λ n. (each + 1) * n) (omega arith) in
    omega (arith, few, all, most-cells, one-more, plus, wide)
