use Rattle.std.proofs.Common.{◌≡◌, ℕ, ◌<◌, ◌≤◌, false, get_or}
use Rattle.stops.specs.Sets.{member}
use Rattle.detour.proofs.Picked.{Picked}
use Rattle.detour.proofs.nearest.Given as goal

abbrev pub invariant-loop-stop : goal.invariant-loop-stop
invariant-loop-stop l =
    Picked (λ y. get_or l.arrivals y 0) (member l.settled) l.latest l.least l.pick
    × ((y : ℕ) → y < l.stop → member l.settled y ≡ false → l.least ≤ get_or l.arrivals y 0)
