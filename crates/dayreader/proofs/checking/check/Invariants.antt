use Rattle.std.proofs.Common.{◌≡◌, ◌-◌, length}
use Rattle.dayformat.proofs.Progress.{Checked}
use Rattle.dayreader.proofs.checking.check.Given as goal

abbrev pub invariant-loop-kind : goal.invariant-loop-kind
invariant-loop-kind l = (l.reader.file.now ≡ l.file) × Checked l.file l.room l.n l.reader.at l.reader.latest

abbrev pub decreases-loop-kind : goal.decreases-loop-kind
decreases-loop-kind l = length l.file - l.reader.at
