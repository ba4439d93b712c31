use Rattle.atomic_table.proofs.Lists.{at_index}
use Rattle.mb_channel.proofs.Chairs.{issued_of}
use Rattle.mb_channel.proofs.home.Homes.issue.Goals as goal

pub returns-clause-some : goal.returns-clause-some
returns-clause-some g c = issued_of c.args.name c.issue.result c.args.self.now.list.items c.args.at
    c.index_mut.result.now
    c.issue.new.self (at_index c.args.self.now.list.items c.args.at c.index_mut.result.now c.requires.there
    c.index_mut.ensures.value) c.issue.ensures.home c.issue.ensures.pass
