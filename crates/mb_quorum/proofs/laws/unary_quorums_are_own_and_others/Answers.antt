-- Proof of `laws::unary_quorums_are_own_and_others`: in the unary table, a write quorum holds the value's own register,
-- and a read quorum holds all others.
use Rattle.std.proofs.Common.{◌≢◌, sym, subst}
use Rattle.mb_quorum.specs.Quorum.{IsMember}
use Rattle.mb_quorum.specs.Unary.{unary_table}
use Rattle.mb_quorum.specs.UnaryLaw.{write_own, write_only, read_own, read_others, read_within}
use Rattle.mb_quorum.proofs.laws.unary_quorums_are_own_and_others.Goals as goal

pub returns-clause-write : goal.returns-clause-write
returns-clause-write c m v r value =
    (write_only m v r, λ same. subst (IsMember ((unary_table m).write v)) (sym same) (write_own m v))

pub returns-clause-read : goal.returns-clause-read
returns-clause-read c m v r value =
    let own : IsMember ((unary_table m).read v) r → r ≢ v =
    λ member same. read_own m v value (subst (IsMember ((unary_table m).read v)) same member) in
    (λ member. (read_within m v r member, own member), λ others. read_others m v r value others.0 others.1)
