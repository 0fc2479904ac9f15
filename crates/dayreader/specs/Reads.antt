-- What the reader hands out, and where it stands then.
use Rattle.std.specs.Prelude.{◌≡◌, ℕ, ◌+◌, List, take, drop, Ok, Err, Result}
use Rattle.refusals.specs.declared.Refusal.{Refusal}
use Rattle.dayformat.specs.declared.Kind.{Kind}
use Rattle.dayformat.specs.declared.Kind.TheVariants as kind
use Rattle.dayformat.specs.Layout.{size, step}
use Rattle.dayformat.specs.declared.Lengths.{Lengths}
use Rattle.dayformat.specs.Faults.{Next}
use Rattle.dayformat.specs.Whole.{Fits, Whole, Unread}
use Rattle.dayreader.specs.declared.record.Record.{Record}
use Rattle.dayreader.specs.declared.record.Record.TheVariants.{Connection, Footpath, Line, End}
use Rattle.dayreader.specs.declared.record.Reader.{Reader}

-- the kind of a record
abbrev pub kind_of : Record → Kind
kind_of (Connection b) = kind.Connection
kind_of (Footpath b) = kind.Footpath
kind_of (Line b) = kind.Line
kind_of (End b) = kind.End

-- the bytes of a record
abbrev pub part : Record → List ℕ
part (Connection b) = b.now
part (Footpath b) = b.now
part (Line b) = b.now
part (End b) = b.now

-- a reader at the front of a file, where every kind may follow
pub record Front (bytes : List ℕ) (r : Reader) : Type 0 where
  pub file : r.file.now ≡ bytes
  pub place : r.at ≡ 0
  pub latest : r.latest ≡ kind.Connection

-- the record at the reader's place, as the file's own bytes with the mark; the reader then stands behind it
pub record Handed (was : Reader) (r : Record) (is : Reader) : Type 0 where
  pub next : Next was.file.now was.at was.latest (kind_of r)
  pub bytes : part r ≡ take (size (kind_of r)) (drop was.at was.file.now)
  pub file : is.file.now ≡ was.file.now
  pub place : is.at ≡ was.at + step (kind_of r)
  pub latest : is.latest ≡ kind_of r

-- what the reader answers, and how it stands then: a refusal leaves it as it was
abbrev pub Reads : Reader → Result Record Refusal → Reader → Type 0
Reads was (Ok r) is = Handed was r is
Reads was (Err e) is = is ≡ was

-- what checking a file finds: so many records in order are the whole file, or it encodes no lists that there is room for
abbrev pub Found : List ℕ → Lengths → Result Lengths Refusal → Type 0
Found file room (Ok n) = Whole file n × Fits n room
Found file room (Err e) = Unread file room
