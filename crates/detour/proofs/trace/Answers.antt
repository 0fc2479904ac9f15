use Rattle.std.proofs.Common.{◌<◌, length, arith, length-set}
use Rattle.stops.specs.Sets.{member}
use Rattle.journey_laws.specs.Arrivals.{Settles}
use Rattle.detour.proofs.Tracing.{trace_start, trace_end, goes_on, trace_less, fits, trace_more}
use Rattle.detour.proofs.trace.Goals as goal

pub loop-stop-init : goal.loop-stop-init
loop-stop-init g c = (
  omega arith,
  omega arith,
  trace_start _ c.args.fit.course.stop c.args.fit.course.instant c.args.fit.course.destination c.args.fit.course.latest c.args.edges.now c.args.barred.now c.args.shut.now
      (omega arith) c.requires.stop_free c.requires.destination_free c.requires.earliest,
)

pub choose-choice-requires-clause-some : goal.choose-choice-requires-clause-some
choose-choice-requires-clause-some g c =
    let s : Settles (member c.loop-stop.shut) (member c.insert.new.self) c.loop-stop.stop = record { here = c.insert.ensures.after; rest = c.insert.ensures.rest } in
    goes_on c.insert.new.self c.loop-stop.invariant.2 s c.loop-stop-test.true (omega arith)

pub bounds-edges-count : goal.bounds-edges-count
bounds-edges-count g c =
    let s : Settles (member c.loop-stop.shut) (member c.insert.new.self) c.loop-stop.stop = record { here = c.insert.ensures.after; rest = c.insert.ensures.rest } in
    fits c.insert.new.self c.loop-stop.invariant.2 s c.loop-stop-test.true (omega arith)

pub loop-stop-smaller : goal.loop-stop-smaller
loop-stop-smaller g c =
    let s : Settles (member c.loop-stop.shut) (member c.insert.new.self) c.loop-stop.stop = record { here = c.insert.ensures.after; rest = c.insert.ensures.rest } in
    trace_less c.insert.new.self c.loop-stop.invariant.2 s c.loop-stop-test.true (omega arith)

pub loop-stop-preserved : goal.loop-stop-preserved
loop-stop-preserved g c =
    let s : Settles (member c.loop-stop.shut) (member c.insert.new.self) c.loop-stop.stop = record { here = c.insert.ensures.after; rest = c.insert.ensures.rest } in
    let room = fits c.insert.new.self c.loop-stop.invariant.2 s c.loop-stop-test.true (omega arith) in
    let within : c.loop-stop.count < length c.loop-stop.edges = omega (arith, room, c.loop-stop.invariant.0) in (
      simp length-set c.loop-stop.invariant.0,
      omega (arith, room),
      trace_more c.insert.new.self c.loop-stop.invariant.2 s c.loop-stop-test.true (omega arith) (g.met.N.Network.lawful c.args.departures.now.network.now) within _ _ _ c.choose-choice.ensures,
    )

pub returns-clause-answer : goal.returns-clause-answer
returns-clause-answer g c = trace_end c.loop-stop.invariant.2 c.loop-stop-test.false
