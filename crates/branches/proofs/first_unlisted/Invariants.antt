use Rattle.std.proofs.Common.{None, take}
use Rattle.journeys.specs.Journeys.{In}
use Rattle.journey_laws.specs.Branching.{Place}
use Rattle.journey_laws.specs.Theorems.{SimpleEntries}
use Rattle.entries.specs.Listing.{all_edges, listed}
use Rattle.branches.specs.Bests.{Progress}
use Rattle.branches.proofs.first_unlisted.Given as goal

abbrev pub invariant-loop-i : goal.invariant-loop-i
invariant-loop-i g l =
    SimpleEntries (g.N.Network.meaning l.network) l.question (listed l.entries) →
    Progress (g.N.Network.meaning l.network) l.question (listed l.entries) (Place (λ y. In y (all_edges (take l.i l.list)))) None l.best
