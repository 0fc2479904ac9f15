use Rattle.std.proofs.Common.{sym, ◌∙◌, inl, inr, arith}
use Rattle.branches.proofs.Advancing.{not_simple, elsewhere, arrives}
use Rattle.branches.proofs.follow.simple_arrival.Goals as goal
use Rattle.branches.proofs.follow.simple_arrival.Goals.{then-position-destination-via-then-position-destination, then-position-destination-via-else-position-destination+then-position-latest}

pub returns-in_err-position : goal.returns-in_err-position
returns-in_err-position g c =
    rw c.from_residual.ensures (not_simple (g.N.Network.meaning c.args.network.now) c.args.question.now c.args.edges.now c.in_err-position.ensures)

pub returns-then-position-destination : goal.returns-then-position-destination
returns-then-position-destination g c =
    elsewhere (g.N.Network.meaning c.args.network.now) c.args.question.now c.args.edges.now c.in_ok-position.position c.in_ok-position.ensures
    (elim c.then-position-destination.branch [
      | then-position-destination-via-then-position-destination w ↦ inl (λ e. w.if-position-destination.true (e ∙ sym c.destination.ensures))
      | then-position-destination-via-else-position-destination+then-position-latest w ↦ inr (omega arith)
    ])

pub returns : goal.returns
returns g c =
    arrives (g.N.Network.meaning c.args.network.now) c.args.question.now c.args.edges.now c.in_ok-position.position c.in_ok-position.ensures (g.met.N.Network.lawful c.args.network.now) (omega arith) (omega arith)
