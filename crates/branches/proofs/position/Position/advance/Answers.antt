use Rattle.std.proofs.Common.{◌≡◌, Result, Some, Ok, sym, ◌∙◌, subst, inl, inr, rules}
use Rattle.journeys.specs.declared.walks.Step.{Step}
use Rattle.journeys.specs.declared.walks.Obstacle.{Obstacle}
use Rattle.journeys.specs.Walking.{Taken}
use Rattle.branches.proofs.Advancing.{none_taken, comes_again, goes_on}
use Rattle.branches.proofs.position.Position.advance.Goals as goal
use Rattle.branches.proofs.position.Position.advance.Goals.{then-step-self-via-then-step-self, then-step-self-via-else-step-self+then-contains}

pub returns-in_err-step : goal.returns-in_err-step
returns-in_err-step g c =
    rw c.from_residual.ensures
    (λ q p at. none_taken (g.N.Network.meaning c.args.network.now) q p c.args.edge c.args.self at c.take_edge.result c.take_edge.ensures (sym c.ok.ensures.value ∙ c.in_err-step.was))

pub returns-then-step-self : goal.returns-then-step-self
returns-then-step-self g c = λ q p at.
    let m = g.N.Network.meaning c.args.network.now in
    let taken : ◌≡◌ {A = Result Step Obstacle} c.take_edge.result (Ok c.in_ok-step.step) = search rules in
    comes_again m q p c.args.edge c.args.self at c.in_ok-step.step (subst (Taken m (Some c.args.self.stop) c.args.self.instant c.args.edge) taken c.take_edge.ensures)
    (elim c.then-step-self.branch [
      | then-step-self-via-then-step-self w ↦ inl w.if-step-self.true
      | then-step-self-via-else-step-self+then-contains w ↦ inr (sym w.if-contains.ensures)
    ])

pub returns : goal.returns
returns g c = λ q p at.
    let m = g.N.Network.meaning c.args.network.now in
    let taken : ◌≡◌ {A = Result Step Obstacle} c.take_edge.result (Ok c.in_ok-step.step) = search rules in
    goes_on m q p c.args.edge c.args.self at c.in_ok-step.step (subst (Taken m (Some c.args.self.stop) c.args.self.instant c.args.edge) taken c.take_edge.ensures)
    c.if-step-self.false (sym c.if-contains.ensures) c.insert.new.self c.insert.ensures.after c.insert.ensures.rest
