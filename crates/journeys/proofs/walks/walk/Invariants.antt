use Rattle.std.proofs.Common.{take, None}
use Rattle.journeys.specs.Walking.{Along}
use Rattle.journeys.proofs.walks.walk.Given as goal

abbrev pub invariant-loop-step : goal.invariant-loop-step
invariant-loop-step g l = Along (g.N.Network.meaning l.network) None l.start (take l.step-counter l.edges) l.here l.instant
