use Rattle.mb_bounded.proofs.laws.last_is_true.Goals as goal

pub returns-clause-senders : goal.returns-clause-senders
returns-clause-senders g c = λ r s k n v at told. (k.fits n v at).no_sender told

pub returns-clause-receivers : goal.returns-clause-receivers
returns-clause-receivers g c = λ r s k n v at told. (k.fits n v at).no_receiver told
