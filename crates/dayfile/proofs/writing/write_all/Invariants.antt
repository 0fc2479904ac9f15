use Rattle.std.proofs.Common.{◌+◌, ◌≤◌, length, take, drop}
use Rattle.std.specs.List.{flat_map}
use Rattle.dayfile.specs.Wrote.{Wrote}
use Rattle.dayfile.proofs.writing.write_all.Given as goal

abbrev pub invariant-loop-record : goal.invariant-loop-record
invariant-loop-record g l =
    Wrote l.initial.buffer l.from (flat_map g.T.Stored.code (take l.record-index l.list)) l.at l.buffer
    × (l.at + length (flat_map g.T.Stored.code (drop l.record-index l.list)) ≤ length l.buffer)
