use Rattle.entries.specs.Listing.{listed}
use Rattle.branches.proofs.Passing.{until_le, none_left, one_left}
use Rattle.branches.proofs.Branching.branch.Goals as goal

pub returns-in-Some : goal.returns-in-Some
returns-in-Some g c = λ s u.
    let m = g.N.Network.meaning c.args.self.now.network.now in
    let q = c.args.self.now.question.now in
    let ys = listed c.args.self.now.entries.now in
    one_left m q ys c.args.beginning.now c.until.result c.in-Some.journey c.args.best c.offer.result (c.in-Some.ensures s (rw c.until.ensures (until_le m q ys c.args.best u))) c.offer.ensures u

pub returns-in-None : goal.returns-in-None
returns-in-None g c = λ s u.
    let m = g.N.Network.meaning c.args.self.now.network.now in
    let q = c.args.self.now.question.now in
    let ys = listed c.args.self.now.entries.now in
    none_left m q ys c.args.beginning.now c.args.best (rw (← c.until.ensures) (c.in-None.ensures s (rw c.until.ensures (until_le m q ys c.args.best u)))) u
