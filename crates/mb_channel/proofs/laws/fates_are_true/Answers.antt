use Rattle.mb_channel.proofs.Audits.{fates_true, taken_of_list}
use Rattle.mb_channel.proofs.Owners.{fates_owned}
use Rattle.mb_channel.proofs.laws.fates_are_true.Goals as goal

pub returns : goal.returns
returns g c = record {
  list = λ s k id r told st v w at gives. taken_of_list s k id r told st v w at gives;
  names = λ s k f at x is e. fates_true s k f is at x e;
  owners = λ s k f at x is e. fates_owned s k f is at x e;
}
