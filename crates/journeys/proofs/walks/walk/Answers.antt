use Rattle.std.proofs.Common.{◌≡◌, Result, get_or, take, None, Ok, subst, rules}
use Rattle.std.proofs.lemmas.List.{take_more}
use Rattle.journeys.specs.declared.walks.Step.{Step}
use Rattle.journeys.specs.declared.walks.Obstacle.{Obstacle}
use Rattle.journeys.specs.Walking.{Taken}
use Rattle.journeys.proofs.Longer.{longer}
use Rattle.journeys.proofs.walks.walk.Goals as goal

pub loop-step-preserved : goal.loop-step-preserved
loop-step-preserved g c =
    let m = g.N.Network.meaning c.args.network.now in
    let es = c.args.edges.now in
    let i = c.loop-step.step-counter in
    let s = c.in_ok-taken.taken in
    let taken : ◌≡◌ {A = Result Step Obstacle} c.take_edge.result (Ok s) = search rules in
    let h = subst (Taken m c.loop-step.here c.loop-step.instant (get_or es i 0)) taken c.take_edge.ensures in
    rw (take_more es i 0 c.loop-step-test.true) (longer m None c.args.start (take i es) c.loop-step.here c.loop-step.instant s.from (get_or es i 0) s.to s.arrival c.loop-step.invariant h.0 h.1)
