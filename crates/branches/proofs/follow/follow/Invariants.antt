use Rattle.std.proofs.Common.{take}
use Rattle.branches.specs.Following.{At}
use Rattle.branches.proofs.follow.follow.Given as goal

abbrev pub invariant-loop-edge : goal.invariant-loop-edge
invariant-loop-edge g l = At (g.N.Network.meaning l.network) l.question (take l.edge-index l.edges) l.position
