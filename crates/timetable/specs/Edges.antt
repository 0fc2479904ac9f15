-- The stops of an edge, and when somebody who sets out on it arrives.
use Rattle.std.specs.Prelude.{ℕ, Option}
use Rattle.timetable.specs.declared.edge.Edge.{Edge}
use Rattle.timetable.specs.declared.edge.Edge.TheVariants.{Ride, Walk}
use Rattle.timetable.specs.DayTables.{ride, on_foot}

abbrev pub ends_of : Edge → ℕ × ℕ
ends_of (Ride c) = (c.from, c.to)
ends_of (Walk f) = (f.from, f.to)

abbrev pub arrival_of : Edge → ℕ → Option ℕ
arrival_of (Ride c) = ride c
arrival_of (Walk f) = on_foot f
