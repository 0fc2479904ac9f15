-- The records of a day file, in three lists.
use Rattle.std.specs.Prelude.{◌≡◌, ℕ, List, take}
use Rattle.timetable.specs.declared.records.Connection.{Connection}
use Rattle.timetable.specs.declared.records.Footpath.{Footpath}
use Rattle.timetable.specs.declared.records.Line.{Line}
use Rattle.dayformat.specs.declared.Lengths.{Lengths}
use Rattle.dayformat.specs.Code.{encode}
use Rattle.dayformat.specs.Whole.{lengths}
use Rattle.dayfile.specs.declared.lists.Lists.{Lists}
use Rattle.dayfile.specs.declared.lists.Room.{Room}

pub record Records : Type 0 where
  pub connections : List Connection
  pub footpaths : List Footpath
  pub lines : List Line

-- what stands in the lists
abbrev pub listed : Lists → Records
listed l = record { connections = l.connections.now; footpaths = l.footpaths.now; lines = l.lines.now }

abbrev pub held : Room → Records
held r = record { connections = r.connections.now; footpaths = r.footpaths.now; lines = r.lines.now }

-- how many there are of each kind
abbrev pub counts : Records → Lengths
counts r = lengths r.connections r.footpaths r.lines

-- the first so many of each kind
abbrev pub front : Lengths → Records → Records
front n r = record { connections = take n.connections r.connections; footpaths = take n.footpaths r.footpaths; lines = take n.lines r.lines }

-- their file
abbrev pub encoding : Records → List ℕ
encoding r = encode r.connections r.footpaths r.lines

-- the room is in the same three lists
pub record SameLists (was is : Room) : Type 0 where
  pub connections : is.connections.ghost_name ≡ was.connections.ghost_name
  pub footpaths : is.footpaths.ghost_name ≡ was.footpaths.ghost_name
  pub lines : is.lines.ghost_name ≡ was.lines.ghost_name
