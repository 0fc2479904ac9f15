use Rattle.std.proofs.Common.{◌≡◌, false, length, get_or}
use Rattle.stops.specs.Sets.{member, Holds}
use Rattle.journeys.specs.Journeys.{In}
use Rattle.journey_laws.specs.Ways.{Also}
use Rattle.journey_laws.proofs.Settling.{Front, left}
use Rattle.detour.proofs.earliest.Given as goal

abbrev pub invariant-loop-arrivals : goal.invariant-loop-arrivals
invariant-loop-arrivals g l =
    (length l.arrivals ≡ 256)
    × (member l.settled l.destination ≡ false)
    × Front (g.N.Network.meaning l.departures.network.now) (Also l.stop (Holds l.around.shut.now)) (λ e. In e l.around.barred.now) l.stop l.instant (λ y. get_or l.arrivals y 0) (member l.settled)

abbrev pub decreases-loop-arrivals : goal.decreases-loop-arrivals
decreases-loop-arrivals g l = left (member l.settled) 256
