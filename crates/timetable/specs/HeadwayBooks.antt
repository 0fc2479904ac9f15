-- What a headway book means, and the rules that filling one checks.
use Rattle.std.specs.Prelude.{◌≡◌, ℕ, ◌+◌, ◌-◌, ◌*◌, ◌<◌, ◌≤◌, cond, ◌⊎◌, List, [], ◌∷◌, length, Some, None, Option, nat_le, nat_lt, slice_index_or}
use Rattle.std.specs.Int.{div_ceil}
use Rattle.networks.specs.Networks.{Meaning, day_end}
use Rattle.refusals.specs.declared.BookRefusal.{BookRefusal}
use Rattle.refusals.specs.declared.BookRefusal.TheVariants.{TooManyLines, LineStops, LineInterval, LineHours}
use Rattle.timetable.specs.declared.records.Line.{Line}

-- the line at a place of the list; nothing asks for one past the end
abbrev pub line : List Line → ℕ → Line
line ls k = slice_index_or ls k (record { from = 0; to = 0; first = 0; last = 0; interval = 0; ride = 0 })

-- a departure is the first plus a whole multiple of the interval, at most the last
abbrev pub Departs : Line → ℕ → Type 0
Departs l d = (n : ℕ) × (d ≡ l.first + n * l.interval) × (d ≤ l.last)

-- the departure to take at instant t: one at or after t, and no departure at or after t is earlier; none if each is before t
abbrev pub EarliestFrom : Line → ℕ → Option ℕ → Type 0
EarliestFrom l t None = (d : ℕ) → Departs l d → d < t
EarliestFrom l t (Some d) = Departs l d × (t ≤ d) × ((c : ℕ) → Departs l c → t ≤ c → d ≤ c)

-- the least of the first plus whole multiples of the interval that is not before t
abbrev pub next_multiple : Line → ℕ → ℕ
next_multiple l t = l.first + div_ceil (t - l.first) l.interval * l.interval

-- the departure to take, computed
abbrev pub earliest_from : Line → ℕ → Option ℕ
earliest_from l t = cond (nat_le (next_multiple l t) l.last) (Some (next_multiple l t)) None

-- the departure taken, plus the ride
abbrev pub then_ride : Line → Option ℕ → Option ℕ
then_ride l None = None
then_ride l (Some d) = Some (d + l.ride)

abbrev pub by_line : Line → ℕ → Option ℕ
by_line l t = then_ride l (earliest_from l t)

-- line i is edge i
abbrev pub at_line : {R : Type 0} → (Line → Option R) → List Line → ℕ → Option R
at_line f ls e = cond (nat_lt e (length ls)) (f (line ls e)) None

abbrev pub headway_book : List Line → Meaning
headway_book ls = record {
  count = length ls;
  ends = at_line (λ l. Some (l.from, l.to)) ls;
  lookup = λ e t. at_line (λ l. by_line l t) ls e;
}

-- the lines break the rule for which a book is refused; a place is an edge number
abbrev pub Breaks : List Line → BookRefusal → Type 0
Breaks ls TooManyLines = 1024 < length ls
Breaks ls (LineStops k) = (k < length ls) × ((line ls k).from ≡ (line ls k).to)
Breaks ls (LineInterval k) = (k < length ls) × (((line ls k).interval ≡ 0) ⊎ ((line ls k).ride ≡ 0))
Breaks ls (LineHours k) = (k < length ls) × (((line ls k).last < (line ls k).first) ⊎ (day_end < (line ls k).last + (line ls k).ride))

-- the order in which the rules are written
abbrev pub book_order : List ℕ
book_order = 20 ∷ 21 ∷ 22 ∷ 23 ∷ []

-- what a line that keeps the rules has: stops, a step from departure to departure, and rides that end within the day
abbrev pub LineFits : Line → Type 0
LineFits l = (l.from < 256) × (l.to < 256) × (0 < l.interval) × (l.last + l.ride ≤ day_end)
