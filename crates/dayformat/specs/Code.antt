-- Records and files as bytes.
use Rattle.std.specs.Prelude.{ℕ, zero, suc, ◌/◌, ◌%◌, ◌^◌, List, [], ◌∷◌, ◌++◌}
use Rattle.std.specs.List.{flat_map}
use Rattle.timetable.specs.declared.records.Connection.{Connection}
use Rattle.timetable.specs.declared.records.Footpath.{Footpath}
use Rattle.timetable.specs.declared.records.Line.{Line}
use Rattle.dayformat.specs.declared.Kind.{Kind}
use Rattle.dayformat.specs.declared.Kind.TheVariants as kind
use Rattle.dayformat.specs.Layout.{layout}

-- a number in so many bytes, the high byte first
abbrev pub bytes : ℕ → ℕ → List ℕ
bytes zero n = []
bytes (suc zero) n = n ∷ []
bytes (suc (suc w)) n = (n / 256 ^ suc w) ∷ bytes (suc w) (n % 256 ^ suc w)

-- numbers one after another, each in as many bytes as its field has
abbrev pub written : List ℕ → List ℕ → List ℕ
written [] values = []
written (w ∷ ws) [] = []
written (w ∷ ws) (v ∷ values) = bytes w v ++ written ws values

-- a record: the mark of its kind, and its fields
abbrev pub coded : Kind → List ℕ → List ℕ
coded k values = (layout k).mark ++ written (layout k).fields values

-- the bytes of each record
abbrev pub connection_bytes : Connection → List ℕ
connection_bytes c = coded kind.Connection (c.from ∷ c.to ∷ c.departure ∷ c.arrival ∷ c.trip ∷ [])

abbrev pub footpath_bytes : Footpath → List ℕ
footpath_bytes f = coded kind.Footpath (f.from ∷ f.to ∷ f.duration ∷ [])

abbrev pub line_bytes : Line → List ℕ
line_bytes l = coded kind.Line (l.from ∷ l.to ∷ l.first ∷ l.last ∷ l.interval ∷ l.ride ∷ [])

-- a file: the connections, the footpaths, the lines, and the end mark
abbrev pub encode : List Connection → List Footpath → List Line → List ℕ
encode cs fs ls = flat_map connection_bytes cs ++ (flat_map footpath_bytes fs ++ (flat_map line_bytes ls ++ coded kind.End []))
