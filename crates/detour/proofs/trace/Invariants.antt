use Rattle.std.proofs.Common.{◌≡◌, ◌≤◌, length}
use Rattle.stops.specs.Sets.{member, Holds}
use Rattle.journeys.specs.Journeys.{In}
use Rattle.journey_laws.specs.Ways.{Onward}
use Rattle.journey_laws.proofs.Settling.{left}
use Rattle.detour.proofs.Tracing.{Tracing}
use Rattle.detour.proofs.trace.Given as goal

abbrev pub invariant-loop-stop : goal.invariant-loop-stop
invariant-loop-stop g l =
    let m = g.N.Network.meaning l.departures.network.now in
    (length l.edges ≡ 255) × (l.count ≤ 255)
    × Tracing m (Onward m (Holds l.initial.shut) (λ e. In e l.initial.barred) l.initial.stop l.initial.instant l.course.destination l.course.latest) l.course.destination l.course.latest l.initial.edges l.edges l.count l.stop l.instant l.shut l.barred

abbrev pub decreases-loop-stop : goal.decreases-loop-stop
decreases-loop-stop g l = left (member l.shut) 256
