-- Proof of `laws::sample_emptiness`: which loads of a consumer find a lane empty.
use Rattle.std.proofs.Common.{◌≡◌, ◌++◌, [], ◌∷◌, refl, subst}
use Rattle.mb_mailbox.specs.Imports.{Head, HasMet, History, Link, Reader, cells_met, load, part}
use Rattle.mb_mailbox.specs.EmptinessSamples.{met_one}
use Rattle.mb_mailbox.proofs.laws.sample_emptiness.Goals as goal

pub returns-clause-whole : goal.returns-clause-whole
returns-clause-whole c s =
    let r = s.reader.reader in
    record {
      made = met_one s;
      newest = refl;
      moment = λ later before lawful own.
          c.lanes_are_empty_if_nothing_is_found.ensures s.reader.table.size later before r 0 (0 ∷ []) lawful
          (subst (λ (d : History). HasMet r 0 (cells_met 0 d) (part (Reader r) before)) own
          (c.readers_follow_lanes.ensures.own before r 0 (cells_met 0 (part (Reader r) before))
          (c.loads_meet_cells.ensures.met r 0 before)));
    }

pub returns-clause-early : goal.returns-clause-early
returns-clause-early c s found =
    let same : load s.reader.reader (Head 0) 1 ∷ [] ≡ load s.reader.reader (Link 0) 0 ∷ found.made ++ [] =
    found.newest in
    absurd (cc)
