use Rattle.std.proofs.Common.{◌≤◌, sym, subst, arith}
use Rattle.std.proofs.lemmas.Bool.{leb-true, leb-false}
use Rattle.stops.specs.Sets.{Holds}
use Rattle.journey_laws.specs.Ways.{Leading}
use Rattle.journey_laws.proofs.Choosing.{here_leads}
use Rattle.detour.proofs.leads_on.Goals as goal

pub returns-then-course : goal.returns-then-course
returns-then-course g c =
    let m = g.N.Network.meaning c.args.departures.now.network.now in
    let S = Holds c.args.shut.now in
    let d = c.args.fit.course.destination in
    let t = c.args.fit.course.instant in
    let latest = c.args.fit.course.latest in
    record {
      yes = λ h. subst (λ u. Leading m S u t d latest) (sym c.if-course.true) ((here_leads m S d t latest).0 (leb-true t latest h));
      no = λ h l. (let le : t ≤ latest = (here_leads m S d t latest).1 (subst (λ u. Leading m S u t d latest) c.if-course.true l) in omega (arith, leb-false t latest h));
    }
