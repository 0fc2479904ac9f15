use Rattle.std.proofs.Common.{ℕ, ◌<◌}
use Rattle.refusals.proofs.Places.{Clear}
use Rattle.refusals.specs.declared.Refusal.TheVariants.{OfBook}
use Rattle.timetable.specs.HeadwayBooks.{line, Breaks, LineFits}
use Rattle.timetable.proofs.book.check_lines.Given as goal

abbrev pub invariant-loop-k : goal.invariant-loop-k
invariant-loop-k l = Clear OfBook (Breaks l.lines) l.k × ((i : ℕ) → i < l.k → LineFits (line l.lines i))
