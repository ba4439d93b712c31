use Rattle.mb_channel.proofs.home.Homes.take_fates.Goals as goal

pub returns-clause-some : goal.returns-clause-some
returns-clause-some g c = λ hs s. (c.in-Some.ensures.fates hs s, c.in-Some.ensures.next)
