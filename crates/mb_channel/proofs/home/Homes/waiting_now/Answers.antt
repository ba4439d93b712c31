use Rattle.mb_channel.proofs.Lengths.{looked_on}
use Rattle.mb_channel.proofs.home.Homes.waiting_now.Goals as goal

pub returns-in_err-drawn-clause-looked : goal.returns-in_err-drawn-clause-looked
returns-in_err-drawn-clause-looked g c = looked_on c.args.self.now.list.items c.taken.new.self.list.items
    c.drawn.new.self.list.items c.taken.ensures.looked c.drawn.ensures.looked

pub returns-in_err-taken-2-clause-looked : goal.returns-in_err-taken-2-clause-looked
returns-in_err-taken-2-clause-looked g c = looked_on c.args.self.now.list.items c.drawn.new.self.list.items
    c.taken-2.new.self.list.items
    (looked_on c.args.self.now.list.items c.taken.new.self.list.items c.drawn.new.self.list.items
    c.taken.ensures.looked c.drawn.ensures.looked) c.taken-2.ensures.looked

pub returns-then-branch-taken-clause-looked : goal.returns-then-branch-taken-clause-looked
returns-then-branch-taken-clause-looked g c = looked_on c.args.self.now.list.items c.drawn.new.self.list.items
    c.taken-2.new.self.list.items
    (looked_on c.args.self.now.list.items c.taken.new.self.list.items c.drawn.new.self.list.items
    c.taken.ensures.looked c.drawn.ensures.looked) c.taken-2.ensures.looked

pub returns-clause-looked : goal.returns-clause-looked
returns-clause-looked g c = looked_on c.args.self.now.list.items c.drawn.new.self.list.items
    c.taken-2.new.self.list.items
    (looked_on c.args.self.now.list.items c.taken.new.self.list.items c.drawn.new.self.list.items
    c.taken.ensures.looked c.drawn.ensures.looked) c.taken-2.ensures.looked
