-- What unpack and pack answer, and what they leave.
use Rattle.std.specs.Prelude.{◌≡◌, ℕ, ◌<◌, ◌≤◌, List, ◌++◌, length, drop, Ok, Err, Result}
use Rattle.refusals.specs.declared.Refusal.{Refusal}
use Rattle.refusals.specs.declared.FileRefusal.{FileRefusal}
use Rattle.refusals.specs.declared.FileRefusal.TheVariants.{EndsEarly, UnknownMark, KindOutOfOrder, ListFull, BytesAfterEnd, BufferTooShort}
use Rattle.dayformat.specs.declared.Lengths.{Lengths}
use Rattle.dayformat.specs.Whole.{Unread}
use Rattle.dayfile.specs.Records.{Records, counts, front, encoding}

-- n places at the front of a list were written, and the rest stays
pub record Front {X : Type 0} (was is : List X) (n : ℕ) : Type 0 where
  pub fits : n ≤ length was
  pub long : length is ≡ length was
  pub rest : drop n is ≡ drop n was

-- the file encodes these records, and no others
pub record Read (file : List ℕ) (r : Records) : Type 0 where
  pub encoded : file ≡ encoding r
  pub only : (s : Records) → file ≡ encoding s → s ≡ r

-- A file that is taken over: the fronts of the three lists are the records that it encodes, and the rests stay.
pub record Taken (file : List ℕ) (was is : Records) (n : Lengths) : Type 0 where
  pub read : Read file (front n is)
  pub connections : Front was.connections is.connections n.connections
  pub footpaths : Front was.footpaths is.footpaths n.footpaths
  pub lines : Front was.lines is.lines n.lines

-- A file that is turned down: it encodes no lists that there is room for, and the three lists are as they were.
pub record Declined (file : List ℕ) (was is : Records) : Type 0 where
  pub unread : Unread file (counts was)
  pub same : is ≡ was

-- what unpack answers, and what the three lists hold then
abbrev pub Unpacked : List ℕ → (was is : Records) → Result Lengths Refusal → Type 0
Unpacked file was is (Ok n) = Taken file was is n
Unpacked file was is (Err e) = Declined file was is

-- when pack refuses: the buffer is too short for the file
abbrev pub Short : List ℕ → List ℕ → FileRefusal → Type 0
Short file buffer (EndsEarly p) = ⊥
Short file buffer (UnknownMark p) = ⊥
Short file buffer (KindOutOfOrder p) = ⊥
Short file buffer (ListFull p) = ⊥
Short file buffer (BytesAfterEnd p) = ⊥
Short file buffer BufferTooShort = length buffer < length file

-- the file stands at the buffer's front, n is how many bytes it has, and the rest stays
pub record Written (file was is : List ℕ) (n : ℕ) : Type 0 where
  pub count : n ≡ length file
  pub fits : n ≤ length was
  pub front : is ≡ file ++ drop n was

-- what pack answers, and what the buffer holds then: a refusal leaves it as it was
abbrev pub Packed : (file was is : List ℕ) → Result ℕ Refusal → Type 0
Packed file was is (Ok n) = Written file was is n
Packed file was is (Err e) = is ≡ was
