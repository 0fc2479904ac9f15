use Rattle.std.proofs.Common.{take}
use Rattle.journey_laws.specs.Theorems.{SimpleEntries}
use Rattle.entries.specs.Listing.{all_edges, listed}
use Rattle.branches.specs.Following.{At}
use Rattle.branches.specs.Bests.{Unsurpassed, Progress, Surpasses, Beginning}
use Rattle.branches.proofs.Branching.branch_along.Given as goal

abbrev pub invariant-loop-k : goal.invariant-loop-k
invariant-loop-k g l = record {
  here : At (g.N.Network.meaning l.self.network.now) l.self.question.now (take l.k l.edges) l.position;
  far :
      Surpasses (g.N.Network.meaning l.self.network.now) l.self.question.now (listed l.self.entries.now) (all_edges l.earlier) l.initial.best →
      SimpleEntries (g.N.Network.meaning l.self.network.now) l.self.question.now (listed l.self.entries.now) →
      Unsurpassed (g.N.Network.meaning l.self.network.now) l.self.question.now (listed l.self.entries.now) l.initial.best →
      Progress (g.N.Network.meaning l.self.network.now) l.self.question.now (listed l.self.entries.now) (Beginning l.edges l.k) l.initial.best l.best;
}
