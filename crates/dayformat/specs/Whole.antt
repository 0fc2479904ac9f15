-- Whole records in the order of a file, as many of each kind as are counted.
use Rattle.std.specs.Prelude.{◌≡◌, ℕ, ◌+◌, ◌<◌, ◌≤◌, List, ◌++◌, length, replicate, Some, None, Option, ◌≢◌}
use Rattle.timetable.specs.declared.records.Connection.{Connection}
use Rattle.timetable.specs.declared.records.Footpath.{Footpath}
use Rattle.timetable.specs.declared.records.Line.{Line}
use Rattle.dayformat.specs.declared.Kind.{Kind}
use Rattle.dayformat.specs.declared.Kind.TheVariants as kind
use Rattle.dayformat.specs.declared.Lengths.{Lengths}
use Rattle.dayformat.specs.Code.{encode}
use Rattle.dayformat.specs.Layout.{Mark}
use Rattle.dayformat.specs.Faults.{Stand}

-- how long three lists are
abbrev pub lengths : List Connection → List Footpath → List Line → Lengths
lengths cs fs ls = record { connections = length cs; footpaths = length fs; lines = length ls }

-- there is room for so many of each kind
pub record Fits (n room : Lengths) : Type 0 where
  pub connections : n.connections ≤ room.connections
  pub footpaths : n.footpaths ≤ room.footpaths
  pub lines : n.lines ≤ room.lines

-- the file encodes no lists that there is room for
abbrev pub Unread : List ℕ → Lengths → Type 0
Unread file room = (xs : List Connection) (ys : List Footpath) (zs : List Line) → Fits (lengths xs ys zs) room → file ≢ encode xs ys zs

-- the kinds of so many records, in the order of a file
abbrev pub arranged : Lengths → List Kind
arranged n = replicate n.connections kind.Connection ++ (replicate n.footpaths kind.Footpath ++ replicate n.lines kind.Line)

-- one record more of the kind k, where its list has room
abbrev pub Added : Lengths → Lengths → Kind → Option Lengths → Type 0
Added room n kind.Connection None = room.connections ≤ n.connections
Added room n kind.Connection (Some m) = (n.connections < room.connections) × (m ≡ record { connections = n.connections + 1; footpaths = n.footpaths; lines = n.lines })
Added room n kind.Footpath None = room.footpaths ≤ n.footpaths
Added room n kind.Footpath (Some m) = (n.footpaths < room.footpaths) × (m ≡ record { connections = n.connections; footpaths = n.footpaths + 1; lines = n.lines })
Added room n kind.Line None = room.lines ≤ n.lines
Added room n kind.Line (Some m) = (n.lines < room.lines) × (m ≡ record { connections = n.connections; footpaths = n.footpaths; lines = n.lines + 1 })
Added room n kind.End r = r ≡ Some n

-- so many records in order, and the end mark behind them, are the whole file
pub record Whole (file : List ℕ) (n : Lengths) : Type 0 where
  pub place : ℕ
  pub stand : Stand file 0 (arranged n) place
  pub end : Mark file place kind.End
  pub last : place + 2 ≡ length file
