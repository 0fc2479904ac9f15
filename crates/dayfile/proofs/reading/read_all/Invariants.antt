use Rattle.std.proofs.Common.{◌≡◌, ◌+◌, ◌*◌, take, drop}
use Rattle.std.specs.List.{flat_map}
use Rattle.dayformat.specs.Layout.{size}
use Rattle.dayfile.proofs.reading.read_all.Given as goal

abbrev pub invariant-loop-record : goal.invariant-loop-record
invariant-loop-record g l =
    (l.at ≡ l.from + size g.T.Stored.kind * l.record-index)
    × (flat_map g.T.Stored.code (take l.record-index l.front) ≡ take (size g.T.Stored.kind * l.record-index) (drop l.from l.file))
