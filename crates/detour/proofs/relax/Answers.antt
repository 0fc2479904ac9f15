use Rattle.std.proofs.Common.{arith}
use Rattle.detour.proofs.Chains.{tried}
use Rattle.detour.proofs.Trying.{not_taken, lowered}
use Rattle.detour.proofs.relax.Goals as goal

pub loop-edge-preserved-in-Some-hop : goal.loop-edge-preserved-in-Some-hop
loop-edge-preserved-in-Some-hop g c =
    let inv = c.loop-edge.invariant in
    tried c.args.departures.now.grouped inv.0 inv.1 c.in-Some.ensures.steps inv.2 (λ r. lowered c.loop-edge.arrivals r c.min.ensures c.in-Some-hop.ensures (omega arith))

pub loop-edge-preserved : goal.loop-edge-preserved
loop-edge-preserved g c =
    let inv = c.loop-edge.invariant in
    tried c.args.departures.now.grouped inv.0 inv.1 c.in-Some.ensures.steps inv.2 (λ r. not_taken c.loop-edge.arrivals r c.in_default.ensures)
