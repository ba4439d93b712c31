-- Proof of `laws::reports_have_all_diaries`: a report has a diary exactly of each consumer on each lane.
use Rattle.std.proofs.Common.{◌≡◌, true, false, refl}
use Rattle.mb_world.proofs.ReportPositions.{diary_is, inside}
use Rattle.mb_world.proofs.laws.reports_have_all_diaries.Goals as goal

pub returns : goal.returns
returns c plan hs r d p is = (
  λ some. inside plan hs r is d p (λ none. let no : false ≡ true = rw none at some in cc),
  λ both. rw (diary_is plan hs r is d p both.0 both.1) refl,
)
