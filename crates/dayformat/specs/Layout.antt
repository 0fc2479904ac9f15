-- The kinds of record in a day file: their order, their marks and their fields. Every contract reads a kind by `layout`.
use Rattle.std.specs.Prelude.{◌≡◌, ℕ, ◌+◌, List, [], ◌∷◌, length, take, drop, codes, sum, Ok, Err, Result, ◌≢◌}
use Rattle.dayformat.specs.declared.Kind.{Kind}
use Rattle.dayformat.specs.declared.Kind.TheVariants as kind
use Rattle.dayformat.specs.declared.NoMark.{NoMark}

-- the place of a kind in the order of a file, its mark, and how many bytes each of its fields has
pub record Layout : Type 0 where
  pub turn : ℕ
  pub mark : List ℕ
  pub fields : List ℕ

abbrev pub layout : Kind → Layout
-- departure stop, arrival stop, departure, arrival, trip
layout kind.Connection = record { turn = 0; mark = codes "CN"; fields = 1 ∷ 1 ∷ 4 ∷ 4 ∷ 2 ∷ [] }
-- two stops, duration
layout kind.Footpath = record { turn = 1; mark = codes "FP"; fields = 1 ∷ 1 ∷ 4 ∷ [] }
-- two stops, first departure, last departure, interval, ride
layout kind.Line = record { turn = 2; mark = codes "HW"; fields = 1 ∷ 1 ∷ 4 ∷ 4 ∷ 4 ∷ 4 ∷ [] }
-- the end of the file
layout kind.End = record { turn = 3; mark = codes "EN"; fields = [] }

-- how many bytes a record of the kind has, with its mark
abbrev pub size : Kind → ℕ
size k = length (layout k).mark + sum (layout k).fields

-- how far a reader goes on behind a record: at the end mark it stays
abbrev pub step : Kind → ℕ
step kind.Connection = size kind.Connection
step kind.Footpath = size kind.Footpath
step kind.Line = size kind.Line
step kind.End = 0

-- the mark of the kind stands at the place p
abbrev pub Mark : List ℕ → ℕ → Kind → Type 0
Mark file p k = take 2 (drop p file) ≡ (layout k).mark

-- the kind whose mark two bytes are, or that they are the mark of none
abbrev pub Marks : List ℕ → Result Kind NoMark → Type 0
Marks two (Ok k) = (layout k).mark ≡ two
Marks two (Err e) = (e.0 ≡ two) × ((k : Kind) → (layout k).mark ≢ two)
