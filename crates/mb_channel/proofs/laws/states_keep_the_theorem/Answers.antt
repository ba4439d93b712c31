use Rattle.mb_channel.proofs.States.{end_visits, moment_keeps, receive_told, send_told}
use Rattle.mb_channel.proofs.laws.states_keep_the_theorem.Goals as goal

pub returns-clause-moment : goal.returns-clause-moment
returns-clause-moment g c = λ s k now a. moment_keeps (record {
  over = c.over_is_true.ensures.over;
  over_all = c.over_is_true.ensures.over_all;
  asleep = c.no_wake_up_is_lost.ensures.over;
  debtor = c.no_wake_up_is_lost.ensures.debtor;
  beginning = c.one_taker.ensures.beginning;
  back = c.one_taker.ensures.back;
}) s k now a

pub returns-clause-visited : goal.returns-clause-visited
returns-clause-visited g c = λ s k now a. end_visits s k now a

pub returns-clause-told : goal.returns-clause-told
returns-clause-told g c = λ s k now a. receive_told s k now a

pub returns-clause-refused : goal.returns-clause-refused
returns-clause-refused g c = λ s k now a. send_told s k now a
