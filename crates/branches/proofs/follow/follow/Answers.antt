use Rattle.branches.proofs.Advancing.{no_way}
use Rattle.branches.proofs.follow.follow.Goals as goal

pub loop-edge-init : goal.loop-edge-init
loop-edge-init g c = c.at_origin-position.ensures (g.N.Network.meaning c.args.network.now)

pub returns-in_err-position : goal.returns-in_err-position
returns-in_err-position g c =
    rw c.from_residual.ensures (no_way (g.N.Network.meaning c.args.network.now) c.args.question.now c.args.edges.now c.loop-edge.edge-index c.loop-edge-test.true
    (c.in_err-position.ensures c.args.question.now _ c.loop-edge.invariant))
