-- What a day table means, and the rules that filling one checks.
use Rattle.std.specs.Prelude.{◌≡◌, ℕ, ◌+◌, ◌-◌, ◌<◌, ◌≤◌, cond, ◌≢◌, ◌⊎◌, List, [], ◌∷◌, length, Some, None, Option, nat_le, nat_lt, slice_index_or}
use Rattle.networks.specs.Networks.{Meaning, day_end}
use Rattle.refusals.specs.declared.TableRefusal.{TableRefusal}
use Rattle.refusals.specs.declared.TableRefusal.TheVariants.{TooManyRecords, ConnectionStops, ConnectionTimes, ConnectionOrder, ConnectionTrip, FootpathStops, FootpathDuration, FootpathRepeated}
use Rattle.timetable.specs.declared.records.Connection.{Connection}
use Rattle.timetable.specs.declared.records.Footpath.{Footpath}

-- the connection, or the footpath, at a place of its list; nothing asks for one past the end
abbrev pub connection : List Connection → ℕ → Connection
connection cs k = slice_index_or cs k (record { from = 0; to = 0; departure = 0; arrival = 0; trip = 0 })

abbrev pub footpath : List Footpath → ℕ → Footpath
footpath fs j = slice_index_or fs j (record { from = 0; to = 0; duration = 0 })

-- a connection takes whoever is there by its departure, and is there at its arrival
abbrev pub ride : Connection → ℕ → Option ℕ
ride c t = cond (nat_le t c.departure) (Some c.arrival) None

-- a footpath can be begun at any instant, and ends within the day
abbrev pub on_foot : Footpath → ℕ → Option ℕ
on_foot f t = cond (nat_le (t + f.duration) day_end) (Some (t + f.duration)) None

-- edge numbers go through the connections in table order, and then through the footpaths
abbrev pub at_edge : {R : Type 0} → (Connection → Option R) → (Footpath → Option R) → List Connection → List Footpath → ℕ → Option R
at_edge f g cs fs e = cond (nat_lt e (length cs)) (f (connection cs e)) (cond (nat_lt (e - length cs) (length fs)) (g (footpath fs (e - length cs))) None)

abbrev pub day_table : List Connection → List Footpath → Meaning
day_table cs fs = record {
  count = length cs + length fs;
  ends = at_edge (λ c. Some (c.from, c.to)) (λ f. Some (f.from, f.to)) cs fs;
  lookup = λ e t. at_edge (λ c. ride c t) (λ f. on_foot f t) cs fs e;
}

-- it departs no earlier than it arrives, or arrives past the day
abbrev pub TimesUnfit : Connection → Type 0
TimesUnfit c = (c.arrival ≤ c.departure) ⊎ (day_end < c.arrival)

-- it departs before the connection ahead of it
abbrev pub DepartsEarlier : List Connection → ℕ → Type 0
DepartsEarlier cs k = (0 < k) × ((connection cs k).departure < (connection cs (k - 1)).departure)

-- connection j is the nearest before k that is of the same trip
pub record NearestOfTrip (cs : List Connection) (k j : ℕ) : Type 0 where
  pub earlier : j < k
  pub same_trip : (connection cs j).trip ≡ (connection cs k).trip
  pub nearest : (i : ℕ) → j < i → i < k → (connection cs i).trip ≢ (connection cs k).trip

-- the first connection reaches the stop that the second leaves, strictly before it departs
abbrev pub Connects : Connection → Connection → Type 0
Connects b c = (b.to ≡ c.from) × (b.arrival < c.departure)

-- an earlier connection of the trip exists, and the nearest such does not connect
abbrev pub TripBroken : List Connection → ℕ → Type 0
TripBroken cs k = (j : ℕ) × NearestOfTrip cs k j × (Connects (connection cs j) (connection cs k) → ⊥)

-- an earlier footpath has the same two stops in the same order
abbrev pub Repeated : List Footpath → ℕ → Type 0
Repeated fs j = (i : ℕ) × (i < j) × ((footpath fs i).from ≡ (footpath fs j).from) × ((footpath fs i).to ≡ (footpath fs j).to)

-- edge number k is that of footpath j
abbrev pub IsFootpath : List Connection → List Footpath → ℕ → ℕ → Type 0
IsFootpath cs fs k j = (k ≡ length cs + j) × (j < length fs)

-- the two lists break the rule for which a table is refused; a place is an edge number
abbrev pub Breaks : List Connection → List Footpath → TableRefusal → Type 0
Breaks cs fs TooManyRecords = (3072 < length cs) ⊎ (1024 < length fs)
Breaks cs fs (ConnectionStops k) = (k < length cs) × ((connection cs k).from ≡ (connection cs k).to)
Breaks cs fs (ConnectionTimes k) = (k < length cs) × TimesUnfit (connection cs k)
Breaks cs fs (ConnectionOrder k) = (k < length cs) × DepartsEarlier cs k
Breaks cs fs (ConnectionTrip k) = (k < length cs) × TripBroken cs k
Breaks cs fs (FootpathStops k) = (j : ℕ) × IsFootpath cs fs k j × ((footpath fs j).from ≡ (footpath fs j).to)
Breaks cs fs (FootpathDuration k) = (j : ℕ) × IsFootpath cs fs k j × (86400 < (footpath fs j).duration)
Breaks cs fs (FootpathRepeated k) = (j : ℕ) × IsFootpath cs fs k j × Repeated fs j

-- the order in which the rules are written
abbrev pub table_order : List ℕ
table_order = 10 ∷ 11 ∷ 12 ∷ 13 ∷ 14 ∷ 15 ∷ 16 ∷ 17 ∷ []

-- the stops of the records are stops
abbrev pub ConnectionStopsFit : List Connection → Type 0
ConnectionStopsFit cs = (k : ℕ) → k < length cs → ((connection cs k).from < 256) × ((connection cs k).to < 256)

abbrev pub FootpathStopsFit : List Footpath → Type 0
FootpathStopsFit fs = (j : ℕ) → j < length fs → ((footpath fs j).from < 256) × ((footpath fs j).to < 256)
