-- The lookups of a line that departs at 28,800 and every 600 seconds up to 29,700, and rides 300 seconds.
use Rattle.std.specs.Prelude.{◌≡◌, ℕ, List, [], ◌∷◌, Some, None, Option}
use Rattle.timetable.specs.HeadwayBooks.{headway_book}
use Rattle.timetable.specs.declared.records.Line.{Line}

abbrev pub example_line : Line
example_line = record { from = 0; to = 1; first = 28800; last = 29700; interval = 600; ride = 300 }

-- an instant asked, and the arrival
abbrev pub Case : Type 0
Case = ℕ × Option ℕ

abbrev pub cases : List Case
cases =
    (28800, Some 29100)
    ∷ (28801, Some 29700)
    ∷ (29400, Some 29700)
    ∷ (29401, None)
    ∷ []

abbrev pub Answers : Case → Type 0
Answers c = (headway_book (example_line ∷ [])).lookup 0 c.0 ≡ c.1

abbrev pub All : List Case → Type 0
All [] = Unit {0}
All (c ∷ cs) = Answers c × All cs

abbrev pub HeadwaysStand : Type 0
HeadwaysStand = All cases
