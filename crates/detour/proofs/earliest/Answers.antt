use Rattle.std.proofs.Common.{◌<◌, replicate, Some, sym, ◌∙◌, subst, arith}
use lib.ListN.{get_or-replicate}
use Rattle.stops.specs.Sets.{member, Holds}
use Rattle.journeys.specs.Journeys.{In}
use Rattle.journey_laws.specs.Ways.{Also}
use Rattle.journey_laws.specs.Arrivals.{Nearest, Settles, Found}
use Rattle.journey_laws.proofs.Settling.{far, front_start, front_more, found_enough, found_nearest, found_none, left_falls}
use Rattle.detour.proofs.Trying.{at}
use Rattle.detour.proofs.earliest.Given as given
use Rattle.detour.proofs.earliest.Goals as goal
use Rattle.detour.proofs.earliest.Goals.{else-loop-arrivals-test, then-loop-arrivals-test+in_ok-near+then-near-destination}

pub loop-arrivals-init : goal.loop-arrivals-init
loop-arrivals-init g c = (
  c.relax.array_long,
  c.empty-settled.ensures c.args.fit.course.destination,
  front_start _ (g.met.N.Network.lawful c.args.departures.now.network.now) (Also c.args.fit.course.stop (Holds c.args.around.now.shut.now)) (λ e. In e c.args.around.now.barred.now) c.args.fit.course.stop c.args.fit.course.instant
      (at (replicate 256 far)) (at c.relax.new.arrivals) (member c.empty-settled.result)
      (λ y hy. get_or-replicate 256 y far 0 hy) c.empty-settled.ensures c.relax.ensures,
)

settles : (g : given.Over) (c : goal.After-relax-in-loop-arrivals g) → Settles (member c.loop-arrivals.settled) (member c.insert.new.self) c.in_ok-near.near
settles g c = record { here = c.insert.ensures.after; rest = c.insert.ensures.rest }

pub loop-arrivals-smaller : goal.loop-arrivals-smaller
loop-arrivals-smaller g c = left_falls _ _ _ (settles g c) c.in_ok-near.ensures.0 256 (omega arith)

pub loop-arrivals-preserved : goal.loop-arrivals-preserved
loop-arrivals-preserved g c =
    let near : c.in_ok-near.near < 256 = omega arith in
    let day : c.args.fit.course.latest < far = omega arith in (
      c.relax-in-loop-arrivals.array_long,
      c.insert.ensures.rest c.args.fit.course.destination (λ e. c.if-near-destination.false (sym e)) ∙ c.loop-arrivals.invariant.1,
      front_more _ (g.met.N.Network.lawful c.args.departures.now.network.now) (Also c.args.fit.course.stop (Holds c.args.around.now.shut.now)) (λ e. In e c.args.around.now.barred.now) c.args.fit.course.stop c.args.fit.course.instant
          (at c.loop-arrivals.arrivals) (at c.relax-in-loop-arrivals.new.arrivals) (member c.loop-arrivals.settled) (member c.insert.new.self)
          c.in_ok-near.near c.args.fit.course.latest near c.loop-arrivals.invariant.2 c.in_ok-near.ensures day c.relax-in-loop-arrivals.ensures (settles g c),
    )

pub returns : goal.returns
returns g c =
    let law = g.met.N.Network.lawful c.args.departures.now.network.now in
    let day : c.args.fit.course.latest < far = omega arith in
    elim c.loop-arrivals-test.branch [
      | else-loop-arrivals-test w ↦
          found_enough _ law (Holds c.args.around.now.shut.now) (λ e. In e c.args.around.now.barred.now) c.args.fit.course.stop c.args.fit.course.instant c.args.fit.course.destination c.args.fit.course.latest c.args.enough c.requires.apart
          (at c.loop-arrivals.arrivals) (member c.loop-arrivals.settled) c.loop-arrivals.invariant.2 (omega arith) day c.requires.in_order w.loop-arrivals-test.false
      | then-loop-arrivals-test+in_ok-near+then-near-destination w ↦
          found_nearest _ law (Holds c.args.around.now.shut.now) (λ e. In e c.args.around.now.barred.now) c.args.fit.course.stop c.args.fit.course.instant c.args.fit.course.destination c.args.fit.course.latest c.args.enough c.requires.apart
          (at c.loop-arrivals.arrivals) (member c.loop-arrivals.settled) c.loop-arrivals.invariant.2 (omega arith) day
          (subst (λ u. Nearest (at c.loop-arrivals.arrivals) (member c.loop-arrivals.settled) c.args.fit.course.latest (Some u)) w.if-near-destination.true w.in_ok-near.ensures)
    ]

pub returns-in_err-near : goal.returns-in_err-near
returns-in_err-near g c =
    subst (Found _ (Holds c.args.around.now.shut.now) (λ e. In e c.args.around.now.barred.now) c.args.fit.course.stop c.args.fit.course.instant c.args.fit.course.destination c.args.fit.course.latest c.args.enough) (sym c.from_residual.ensures)
    (found_none _ (g.met.N.Network.lawful c.args.departures.now.network.now) (Holds c.args.around.now.shut.now) (λ e. In e c.args.around.now.barred.now) c.args.fit.course.stop c.args.fit.course.instant c.args.fit.course.destination c.args.fit.course.latest c.args.enough c.requires.apart
    (at c.loop-arrivals.arrivals) (member c.loop-arrivals.settled) c.loop-arrivals.invariant.2 (omega arith) c.loop-arrivals.invariant.1 c.in_err-near.ensures)
