-- The two round trips: a file read and written again, and records written and read again.
use Rattle.std.specs.Prelude.{◌≡◌, ℕ, ◌<◌, ◌≤◌, ◌⊎◌, List, ◌∷◌, length, Ok, Err, Result}
use Rattle.refusals.specs.declared.Refusal.{Refusal}
use Rattle.refusals.specs.declared.FileRefusal.{FileRefusal}
use Rattle.dayformat.specs.declared.Lengths.{Lengths}
use Rattle.dayformat.specs.Faults.{order, Fault}
use Rattle.dayformat.specs.Whole.{Fits}
use Rattle.dayfile.specs.Records.{Records, counts, front, encoding}
use Rattle.dayfile.specs.Calls.{Front, Taken, Short, Written}

-- the order of the reasons: that of pack, which names no place, and those of unpack
abbrev pub both_orders : List ℕ
both_orders = 6 ∷ order

-- a reason to turn down a round trip is one of pack's or one of unpack's
abbrev pub Blocked : List ℕ → Lengths → List ℕ → FileRefusal → Type 0
Blocked file room buffer f = Short file buffer f ⊎ Fault file room f

-- A file read and written again is the same bytes; a refusal changes nothing.
abbrev pub Rewritten : (file buffer buffer' : List ℕ) (was is : Records) → Result ℕ Refusal → Type 0
Rewritten file buffer buffer' was is (Ok n) = Written file buffer buffer' n × ((m : Lengths) × Taken file was is m)
Rewritten file buffer buffer' was is (Err e) = (buffer' ≡ buffer) × (is ≡ was)

-- Records written and read again are the same records, at the fronts of lists whose rests stay.
pub record Returned (r was is : Records) (n : Lengths) : Type 0 where
  pub count : n ≡ counts r
  pub records : front (counts r) is ≡ r
  pub connections : Front was.connections is.connections (length r.connections)
  pub footpaths : Front was.footpaths is.footpaths (length r.footpaths)
  pub lines : Front was.lines is.lines (length r.lines)

-- Lists that records were to be read into again, after a refusal: they are as they were, and had no room, or the buffer was too short.
pub record Kept (r : Records) (buffer : List ℕ) (was is : Records) : Type 0 where
  pub cause : Fits (counts r) (counts was) → length buffer < length (encoding r)
  pub same : is ≡ was

-- what reading the records again answers, and what the lists hold then
abbrev pub Reread : (buffer : List ℕ) (r was is : Records) → Result Lengths Refusal → Type 0
Reread buffer r was is (Ok n) = Returned r was is n
Reread buffer r was is (Err e) = Kept r buffer was is

-- the buffer holds the file wherever it is long enough for it, and else what it held
pub record Holds (file was is : List ℕ) : Type 0 where
  pub long : length file ≤ length was → (n : ℕ) × Written file was is n
  pub short : length was < length file → is ≡ was
