use Rattle.std.proofs.Common.{ℕ, ◌+◌, ◌<◌, length}
use Rattle.refusals.proofs.Places.{Clear}
use Rattle.refusals.specs.declared.Refusal.TheVariants.{OfTable}
use Rattle.timetable.specs.DayTables.{connection, footpath, Breaks, ConnectionStopsFit}
use Rattle.timetable.proofs.checks.check_records.Given as goal

abbrev pub invariant-loop-k : goal.invariant-loop-k
invariant-loop-k l = Clear OfTable (Breaks l.connections l.footpaths) l.k × ((i : ℕ) → i < l.k → ((connection l.connections i).from < 256) × ((connection l.connections i).to < 256))

abbrev pub invariant-loop-j : goal.invariant-loop-j
invariant-loop-j l = Clear OfTable (Breaks l.connections l.footpaths) (length l.connections + l.j) × ConnectionStopsFit l.connections × ((i : ℕ) → i < l.j → ((footpath l.footpaths i).from < 256) × ((footpath l.footpaths i).to < 256))
