-- What a refusal tells: its number, its layer, and its place where one is named. Every contract reads a refusal by this definition.
use Rattle.std.specs.Prelude.{ℕ, Some, None, Option}
use Rattle.refusals.specs.declared.Layer.{Layer}
use Rattle.refusals.specs.declared.Layer.TheVariants.{File, Table, Notice, Question, Search}
use Rattle.refusals.specs.declared.Refusal.{Refusal}
use Rattle.refusals.specs.declared.Refusal.TheVariants.{OfFile, OfTable, OfBook, OfWindow, OfNotice, OfQuestion, OfSearch, OfDetour}
use Rattle.refusals.specs.declared.FileRefusal.TheVariants.{EndsEarly, UnknownMark, KindOutOfOrder, ListFull, BytesAfterEnd, BufferTooShort}
use Rattle.refusals.specs.declared.TableRefusal.TheVariants.{TooManyRecords, ConnectionStops, ConnectionTimes, ConnectionOrder, ConnectionTrip, FootpathStops, FootpathDuration, FootpathRepeated}
use Rattle.refusals.specs.declared.BookRefusal.TheVariants.{TooManyLines, LineStops, LineInterval, LineHours}
use Rattle.refusals.specs.declared.WindowRefusal.TheVariants.{TooManyWindows, WindowEdge, WindowSpan}
use Rattle.refusals.specs.declared.NoticeRefusal.TheVariants.{TooManyNotices, NoticeEdge, NoticeRepeated, NoticeTooLong}
use Rattle.refusals.specs.declared.QuestionRefusal.TheVariants.{OriginIsDestination, LatestPastDay, StartAfterLatest}
use Rattle.refusals.specs.declared.SearchRefusal.TheVariants.{TooManyEntries, NoMore, NotGiven, NotSimple, AlreadyListed, SheetTooShort}
use Rattle.refusals.specs.declared.DetourRefusal.TheVariants.{StopsUnfit, InstantsUnfit, NoDetour}

pub record Told : Type 0 where
  pub number : ℕ
  pub layer : Layer
  pub place : Option ℕ

abbrev pub plain : ℕ → Layer → Told
plain n l = record { number = n; layer = l; place = None }

abbrev pub placed : ℕ → Layer → ℕ → Told
placed n l p = record { number = n; layer = l; place = Some p }

abbrev pub told : Refusal → Told
-- the file ends before its end mark, or inside a record
told (OfFile (EndsEarly p)) = placed 1 File p
-- two bytes that are no mark
told (OfFile (UnknownMark p)) = placed 2 File p
-- the kind belongs earlier
told (OfFile (KindOutOfOrder p)) = placed 3 File p
-- the list of that kind is full
told (OfFile (ListFull p)) = placed 4 File p
-- bytes follow the end mark
told (OfFile (BytesAfterEnd p)) = placed 5 File p
-- the buffer is too short for the file
told (OfFile BufferTooShort) = plain 6 File
-- more than 3,072 connections or 1,024 footpaths
told (OfTable TooManyRecords) = plain 10 Table
-- the connection has equal stops
told (OfTable (ConnectionStops k)) = placed 11 Table k
-- it departs no earlier than it arrives, or arrives past the day
told (OfTable (ConnectionTimes k)) = placed 12 Table k
-- it departs before the connection ahead of it
told (OfTable (ConnectionOrder k)) = placed 13 Table k
-- the nearest earlier connection of its trip does not reach its departure stop in time
told (OfTable (ConnectionTrip k)) = placed 14 Table k
-- the footpath has equal stops
told (OfTable (FootpathStops k)) = placed 15 Table k
-- it takes more than 86,400 seconds
told (OfTable (FootpathDuration k)) = placed 16 Table k
-- an earlier footpath has the same two stops in the same order
told (OfTable (FootpathRepeated k)) = placed 17 Table k
-- more than 1,024 lines
told (OfBook TooManyLines) = plain 20 Table
-- the line has equal stops
told (OfBook (LineStops k)) = placed 21 Table k
-- its interval or its ride is 0
told (OfBook (LineInterval k)) = placed 22 Table k
-- its first departure is after its last, or its last ride ends past the day
told (OfBook (LineHours k)) = placed 23 Table k
-- sixteen windows are held
told (OfWindow TooManyWindows) = plain 30 Notice
-- there is no such edge
told (OfWindow WindowEdge) = plain 31 Notice
-- from is not before until, or until is past the day
told (OfWindow WindowSpan) = plain 32 Notice
-- thirty-two notices are held
told (OfNotice TooManyNotices) = plain 33 Notice
-- there is no such edge
told (OfNotice NoticeEdge) = plain 34 Notice
-- the edge has a notice
told (OfNotice NoticeRepeated) = plain 35 Notice
-- more than 86,400 seconds
told (OfNotice NoticeTooLong) = plain 36 Notice
-- the origin is the destination
told (OfQuestion OriginIsDestination) = plain 40 Question
-- the latest arrival is past the day
told (OfQuestion LatestPastDay) = plain 41 Question
-- the start is after the latest arrival
told (OfQuestion StartAfterLatest) = plain 42 Question
-- the search holds sixteen entries
told (OfSearch TooManyEntries) = plain 50 Search
-- no journey is left to give
told (OfSearch NoMore) = plain 51 Search
-- fewer journeys were given, or the number is 0
told (OfSearch NotGiven) = plain 52 Search
-- the edges are no simple journey of the question
told (OfSearch NotSimple) = plain 53 Search
-- the journey is an entry already
told (OfSearch AlreadyListed) = plain 54 Search
-- the buffer is too short for the sheet
told (OfSearch SheetTooShort) = plain 60 Search
-- the stop is the destination, or one of them is shut
told (OfDetour StopsUnfit) = plain 71 Search
-- the instant is after the latest arrival, or that is past the day
told (OfDetour InstantsUnfit) = plain 72 Search
-- no such journey exists
told (OfDetour NoDetour) = plain 73 Search
