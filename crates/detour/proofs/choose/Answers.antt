use Rattle.std.proofs.Common.{ℕ, ap, sym, subst}
use Rattle.stops.specs.Sets.{Holds}
use Rattle.journeys.specs.Journeys.{In}
use Rattle.journey_laws.specs.Ways.{Chosen}
use Rattle.detour.specs.Departing.{or_count}
use Rattle.detour.proofs.Chains.{further, standing, still}
use Rattle.detour.proofs.Passing.{NoneBelow, none_more, chosen, some_edge}
use Rattle.detour.proofs.choose.Goals as goal

pub returns-in-Some-attempt : goal.returns-in-Some-attempt
returns-in-Some-attempt g c =
    let m = g.N.Network.meaning c.args.departures.now.network.now in
    let S = Holds c.args.around.now.shut.now in
    let B : ℕ → Type 0 = λ e. In e c.args.around.now.barred.now in
    let q = c.args.fit.course in
    let inv = c.loop-edge.invariant in
    let none = subst (NoneBelow m S B q.stop q.instant q.destination q.latest) (standing c.args.departures.now.grouped inv.0 inv.1 c.in-Some.ensures.steps) inv.2 in
    let took = c.in-Some-attempt.ensures in
    let choice = c.in-Some-attempt.choice in
    subst (λ e. Chosen m S B q.stop q.instant q.destination q.latest e choice.to choice.arrival) (sym took.0)
    (chosen m S B q.stop q.instant q.destination q.latest c.requires.here none took.1 took.2)

pub loop-edge-preserved : goal.loop-edge-preserved
loop-edge-preserved g c =
    let m = g.N.Network.meaning c.args.departures.now.network.now in
    let S = Holds c.args.around.now.shut.now in
    let B : ℕ → Type 0 = λ e. In e c.args.around.now.barred.now in
    let q = c.args.fit.course in
    let d = c.args.departures.now.grouped in
    let inv = c.loop-edge.invariant in
    let steps = c.in-Some.ensures.steps in
    let on = further d inv.0 inv.1 steps in
    let none = subst (NoneBelow m S B q.stop q.instant q.destination q.latest) (standing d inv.0 inv.1 steps) inv.2 in
    (still d inv.0 inv.1 steps, on.leaves, none_more m S B q.stop q.instant q.destination q.latest none c.in_default.ensures on)

pub unreachable-requires : goal.unreachable-requires
unreachable-requires g c =
    let m = g.N.Network.meaning c.args.departures.now.network.now in
    let S = Holds c.args.around.now.shut.now in
    let B : ℕ → Type 0 = λ e. In e c.args.around.now.barred.now in
    let q = c.args.fit.course in
    let (a, es, j) = c.requires.some in
    let none = subst (NoneBelow m S B q.stop q.instant q.destination q.latest) (ap (or_count m) (sym c.in-None.ensures.steps.here)) c.loop-edge.invariant.2 in
    some_edge m S B q.stop q.instant q.destination q.latest (g.met.N.Network.lawful c.args.departures.now.network.now) c.requires.apart none a es j
