use Rattle.std.proofs.Common.{◌≡◌, ◌<◌, Some}
use Rattle.std.specs.Option.{ForSome}
use Rattle.stops.specs.Sets.{Holds}
use Rattle.journeys.specs.Journeys.{In}
use Rattle.detour.specs.Departing.{start_of, or_count}
use Rattle.detour.proofs.Passing.{NoneBelow}
use Rattle.detour.proofs.choose.Given as goal

abbrev pub invariant-loop-edge : goal.invariant-loop-edge
invariant-loop-edge g l =
    let m = g.N.Network.meaning l.departures.network.now in
    (l.edge-iterator.next.now ≡ l.departures.links.now.next)
    × ForSome l.edge-iterator.edge (λ e. (e < m.count) × (start_of m e ≡ Some l.fit.course.stop))
    × NoneBelow m (Holds l.around.shut.now) (λ e. In e l.around.barred.now) l.fit.course.stop l.fit.course.instant l.fit.course.destination l.fit.course.latest (or_count m l.edge-iterator.edge)
