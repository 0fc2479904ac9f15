use Rattle.detour.specs.Departing.{Grouped}
use Rattle.detour.proofs.departures.Departures.by_stop.Given as goal

abbrev pub invariant-loop-edge : goal.invariant-loop-edge
invariant-loop-edge g l = Grouped (g.N.Network.meaning l.network) l.edge l.links.first l.links.next
