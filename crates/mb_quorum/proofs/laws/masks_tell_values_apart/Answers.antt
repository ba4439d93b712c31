-- Proof of `laws::masks_tell_values_apart`: in every lawful table, a write quorum and a read quorum share no bit
-- exactly if they belong to one value.
use Rattle.mb_quorum.proofs.Disjoint.{disjoint_as_and}
use Rattle.mb_quorum.proofs.laws.masks_tell_values_apart.Goals as goal

pub returns : goal.returns
returns c t v w lawful written seen =
    let number = disjoint_as_and (t.write v) (t.read w) in
    let law = lawful.disjoint v w written seen in
    (λ none. law.0 (number.0 none), λ same. number.1 (law.1 same))
