use Rattle.stops.specs.Sets.{Holds}
use Rattle.journeys.specs.Journeys.{In}
use Rattle.detour.proofs.Passing.{nowhere}
use Rattle.detour.proofs.attempt.Goals as goal

pub returns-else-leads_on : goal.returns-else-leads_on
returns-else-leads_on g c =
    nowhere _ (Holds c.args.around.now.shut.now) (λ e. In e c.args.around.now.barred.now) c.args.fit.course.stop c.args.fit.course.instant c.args.fit.course.destination c.args.fit.course.latest c.requires.here
    c.in_ok-to.ensures (c.leads_on.ensures.no c.if-leads_on.false)
