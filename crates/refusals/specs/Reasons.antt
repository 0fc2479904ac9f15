-- Why each refusal is made, in words.
use Rattle.std.specs.Prelude.{ℕ, List, [], ◌++◌, Some, None, Option, codes}
use Rattle.std.specs.Fmt.{decimal}
use Rattle.refusals.specs.Told.{told}
use Rattle.refusals.specs.declared.Refusal.{Refusal}
use Rattle.refusals.specs.declared.Refusal.TheVariants.{OfFile, OfTable, OfBook, OfWindow, OfNotice, OfQuestion, OfSearch, OfDetour}
use Rattle.refusals.specs.declared.FileRefusal.{FileRefusal}
use Rattle.refusals.specs.declared.FileRefusal.TheVariants.{EndsEarly, UnknownMark, KindOutOfOrder, ListFull, BytesAfterEnd, BufferTooShort}
use Rattle.refusals.specs.declared.TableRefusal.{TableRefusal}
use Rattle.refusals.specs.declared.TableRefusal.TheVariants.{TooManyRecords, ConnectionStops, ConnectionTimes, ConnectionOrder, ConnectionTrip, FootpathStops, FootpathDuration, FootpathRepeated}
use Rattle.refusals.specs.declared.BookRefusal.{BookRefusal}
use Rattle.refusals.specs.declared.BookRefusal.TheVariants.{TooManyLines, LineStops, LineInterval, LineHours}
use Rattle.refusals.specs.declared.WindowRefusal.{WindowRefusal}
use Rattle.refusals.specs.declared.WindowRefusal.TheVariants.{TooManyWindows, WindowEdge, WindowSpan}
use Rattle.refusals.specs.declared.NoticeRefusal.{NoticeRefusal}
use Rattle.refusals.specs.declared.NoticeRefusal.TheVariants.{TooManyNotices, NoticeEdge, NoticeRepeated, NoticeTooLong}
use Rattle.refusals.specs.declared.QuestionRefusal.{QuestionRefusal}
use Rattle.refusals.specs.declared.QuestionRefusal.TheVariants.{OriginIsDestination, LatestPastDay, StartAfterLatest}
use Rattle.refusals.specs.declared.SearchRefusal.{SearchRefusal}
use Rattle.refusals.specs.declared.SearchRefusal.TheVariants.{TooManyEntries, NoMore, NotGiven, NotSimple, AlreadyListed, SheetTooShort}
use Rattle.refusals.specs.declared.DetourRefusal.{DetourRefusal}
use Rattle.refusals.specs.declared.DetourRefusal.TheVariants.{StopsUnfit, InstantsUnfit, NoDetour}

abbrev pub file_reason : FileRefusal → List ℕ
file_reason (EndsEarly p) = codes "the file ends before its end mark or inside a record"
file_reason (UnknownMark p) = codes "two bytes that are no mark"
file_reason (KindOutOfOrder p) = codes "the kind of record belongs earlier"
file_reason (ListFull p) = codes "too many records of this kind"
file_reason (BytesAfterEnd p) = codes "bytes follow the end mark"
file_reason BufferTooShort = codes "the buffer is too short"

abbrev pub table_reason : TableRefusal → List ℕ
table_reason TooManyRecords = codes "more than 3072 connections or 1024 footpaths"
table_reason (ConnectionStops p) = codes "the connection has equal stops"
table_reason (ConnectionTimes p) = codes "the connection departs no earlier than it arrives, or arrives past the day"
table_reason (ConnectionOrder p) = codes "the connection departs before the one ahead of it"
table_reason (ConnectionTrip p) = codes "the trip's connection before does not reach this departure stop in time"
table_reason (FootpathStops p) = codes "the footpath has equal stops"
table_reason (FootpathDuration p) = codes "the footpath takes more than 86400 seconds"
table_reason (FootpathRepeated p) = codes "an earlier footpath has the same stops"

abbrev pub book_reason : BookRefusal → List ℕ
book_reason TooManyLines = codes "more than 1024 lines"
book_reason (LineStops p) = codes "the line has equal stops"
book_reason (LineInterval p) = codes "the line's interval or ride is 0"
book_reason (LineHours p) = codes "the line's first departure is after its last, or its last ride ends past the day"

abbrev pub window_reason : WindowRefusal → List ℕ
window_reason TooManyWindows = codes "sixteen windows are held"
window_reason WindowEdge = codes "there is no such edge"
window_reason WindowSpan = codes "the window's from is not before its until, or that is past the day"

abbrev pub notice_reason : NoticeRefusal → List ℕ
notice_reason TooManyNotices = codes "thirty-two notices are held"
notice_reason NoticeEdge = codes "there is no such edge"
notice_reason NoticeRepeated = codes "the edge has a notice"
notice_reason NoticeTooLong = codes "the notice is above 86400 seconds"

abbrev pub question_reason : QuestionRefusal → List ℕ
question_reason OriginIsDestination = codes "the origin is the destination"
question_reason LatestPastDay = codes "the latest arrival is past the day"
question_reason StartAfterLatest = codes "the start is after the latest arrival"

abbrev pub search_reason : SearchRefusal → List ℕ
search_reason TooManyEntries = codes "the search holds sixteen entries"
search_reason NoMore = codes "no journey is left"
search_reason NotGiven = codes "fewer journeys were given"
search_reason NotSimple = codes "no simple journey of the question"
search_reason AlreadyListed = codes "the journey is an entry already"
search_reason SheetTooShort = codes "the buffer is too short"

abbrev pub detour_reason : DetourRefusal → List ℕ
detour_reason StopsUnfit = codes "the stop is the destination, or one of them is shut"
detour_reason InstantsUnfit = codes "the instant is after the latest arrival, or that is past the day"
detour_reason NoDetour = codes "no journey exists"

abbrev pub reason : Refusal → List ℕ
reason (OfFile r) = file_reason r
reason (OfTable r) = table_reason r
reason (OfBook r) = book_reason r
reason (OfWindow r) = window_reason r
reason (OfNotice r) = notice_reason r
reason (OfQuestion r) = question_reason r
reason (OfSearch r) = search_reason r
reason (OfDetour r) = detour_reason r

abbrev pub place_shown : Option ℕ → List ℕ
place_shown None = []
place_shown (Some p) = codes " " ++ decimal p

-- a refusal as it is shown: its number, its place where it has one, and the reason
abbrev pub shown : Refusal → List ℕ
shown r = codes "refused " ++ decimal (told r).number ++ place_shown (told r).place ++ codes ": " ++ reason r
