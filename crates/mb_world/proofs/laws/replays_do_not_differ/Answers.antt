-- Proof of `laws::replays_do_not_differ`: after a lawful history, events have at most one replay.
use Rattle.mb_world.proofs.OneReplay.{never_both, one_entry, one_replay, replay_lawful}
use Rattle.mb_world.proofs.laws.replays_do_not_differ.Goals as goal

pub returns-clause-never_both : goal.returns-clause-never_both
returns-clause-never_both c plan e r a h table lawful refused made longer =
    never_both plan h (c.events_are_known.ensures plan h table lawful) e r a refused made longer

pub returns-clause-entry : goal.returns-clause-entry
returns-clause-entry c plan e r s a b h table lawful x y =
    one_entry plan h (c.events_are_known.ensures plan h table lawful) e r s a b x y

pub returns-clause-replay : goal.returns-clause-replay
returns-clause-replay c plan es rs ss was now then table lawful x y =
    one_replay plan (λ h. c.events_are_known.ensures plan h table) es rs ss was now then lawful x y

pub returns-clause-lawful : goal.returns-clause-lawful
returns-clause-lawful c plan es rs was now table lawful x =
    replay_lawful plan (λ h. c.events_are_known.ensures plan h table) es rs was now lawful x
