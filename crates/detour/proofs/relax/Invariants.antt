use Rattle.std.proofs.Common.{◌≡◌, ◌<◌, get_or, Some}
use Rattle.std.specs.Option.{ForSome}
use Rattle.stops.specs.Sets.{Holds}
use Rattle.journeys.specs.Journeys.{In}
use Rattle.journey_laws.specs.Ways.{Also}
use Rattle.journey_laws.specs.Arrivals.{Relaxed}
use Rattle.detour.specs.Departing.{start_of, or_count}
use Rattle.detour.proofs.relax.Given as goal

abbrev pub invariant-loop-edge : goal.invariant-loop-edge
invariant-loop-edge g l =
    let m = g.N.Network.meaning l.departures.network.now in
    (l.edge-iterator.next.now ≡ l.departures.links.now.next)
    × ForSome l.edge-iterator.edge (λ e. (e < m.count) × (start_of m e ≡ Some l.stop))
    × Relaxed m (Also l.origin (Holds l.around.shut.now)) (λ e. In e l.around.barred.now) l.stop l.instant (or_count m l.edge-iterator.edge) (λ y. get_or l.initial.arrivals y 0) (λ y. get_or l.arrivals y 0)
