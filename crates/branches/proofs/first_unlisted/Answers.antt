use Rattle.std.proofs.Common.{None, length, ap, ◌∙◌, arith, take_all}
use Rattle.entries.specs.Listing.{all_edges, listed}
use Rattle.entries.proofs.Listed.{in_all}
use Rattle.branches.proofs.Passing.{next_entry, first_of_all}
use Rattle.branches.proofs.first_unlisted.Goals as goal

pub branch-best-requires-clause-here : goal.branch-best-requires-clause-here
branch-best-requires-clause-here g c = c.at_origin.ensures (g.N.Network.meaning c.args.network.now)

pub branch_along-best-requires : goal.branch_along-best-requires
branch_along-best-requires g c = rw (c.deref.ensures.0, c.index-list-i.is, c.as_slice-list.ensures.value) (in_all c.args.entries.now.list.items c.loop-i.i c.index-list-i.result (omega (arith, ap length c.as_slice-list.ensures.value)))

pub loop-i-preserved : goal.loop-i-preserved
loop-i-preserved g c = λ s.
    let m = g.N.Network.meaning c.args.network.now in
    let q = c.args.question.now in
    let x = c.loop-i.invariant s in
    next_entry m q (listed c.args.entries.now) c.as_slice-list.result.now c.loop-i.i c.index-list-i.result None c.loop-i.best c.branch_along-best.result c.loop-i-test.true c.index-list-i.is x
    (rw c.deref.ensures.0 at (c.branch_along-best.ensures x.beats s x.unlisted))

pub returns : goal.returns
returns g c = λ s.
    let all = ap all_edges (take_all c.loop-i.i c.as_slice-list.result.now c.loop-i-test.false ∙ c.as_slice-list.ensures.value) in
    first_of_all (g.N.Network.meaning c.args.network.now) c.args.question.now (listed c.args.entries.now) s c.loop-i.best (rw all at (c.loop-i.invariant s))
