use Rattle.std.proofs.Common.{ℕ, List, take, Some, subst}
use Rattle.stops.specs.Sets.{Holds}
use Rattle.journeys.specs.Journeys.{In}
use Rattle.journeys.specs.Rank.{FirstInRank}
use Rattle.journey_laws.specs.Ways.{Onward}
use Rattle.journey_laws.specs.Arrivals.{Found}
use Rattle.journey_laws.proofs.Choosing.{first_of_all}
use Rattle.journey_laws.proofs.Bridge.{detour_onward, first_detour}
use Rattle.detour.proofs.find.Goals as goal

pub returns-in_err-arrival-clause-none : goal.returns-in_err-arrival-clause-none
returns-in_err-arrival-clause-none g c =
    let S = Holds c.args.shut.now in
    let B : ℕ → Type 0 = λ e. In e c.args.barred.now in
    let q = c.args.fit.course in
    let none = subst (λ n. (a : ℕ) (es : List ℕ) → Onward (g.N.Network.meaning n) S B q.stop q.instant q.destination q.latest a es → ⊥) c.by_stop-departures.ensures c.in_err-arrival.ensures in
    rw c.from_residual.ensures (λ a es j. none a es ((detour_onward (g.N.Network.meaning c.args.network.now) S B q.stop q.instant q.destination q.latest a es).0 j))

pub returns-clause-answer : goal.returns-clause-answer
returns-clause-answer g c =
    let S = Holds c.args.shut.now in
    let B : ℕ → Type 0 = λ e. In e c.args.barred.now in
    let m = g.N.Network.meaning c.args.network.now in
    let q = c.args.fit.course in
    let a = c.in_ok-arrival.arrival in
    let es = take c.trace-count.result c.trace-count.new.edges in
    let same = c.by_stop-departures.ensures in
    let found = subst (λ n. Found (g.N.Network.meaning n) S B q.stop q.instant q.destination q.latest 0 (Some a)) same c.in_ok-arrival.ensures in
    let traced = subst (λ n. FirstInRank (Onward (g.N.Network.meaning n) S B q.stop q.instant q.destination a) a es) same c.trace-count.ensures.answer in
    record {
      few = c.trace-count.ensures.few;
      first = (first_detour m S B q.stop q.instant q.destination q.latest a es).1 (first_of_all m S B q.stop q.instant q.destination q.latest a found es traced);
    }
