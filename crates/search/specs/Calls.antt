-- What the calls of an open search answer, and what they leave.
use Rattle.std.specs.Prelude.{◌≡◌, ℕ, ◌-◌, ◌≤◌, List, [], ◌∷◌, ◌++◌, take, drop, Ok, Err, Result, slice_index_or}
use Rattle.refusals.specs.declared.Refusal.{Refusal}
use Rattle.entries.specs.declared.entry.Entries.{Entries}
use Rattle.entries.specs.declared.entry.Journey.{Journey}
use Rattle.entries.specs.Listing.{listed, given_of}

-- the journey that an answer tells: its arrival, and as many edges as it says at the buffer's front
abbrev pub told_journey : List ℕ → ℕ × ℕ → Journey
told_journey buffer p = record { arrival = p.0; edges = record { items = take p.1 buffer } }

-- the entries after next: the journey that it gives comes last; a refusal leaves them as they were
abbrev pub NextEnters : Entries → List ℕ → Result (ℕ × ℕ) Refusal → Entries → Type 0
NextEnters old buffer (Ok p) new = (listed new ≡ listed old ++ (take p.1 buffer ∷ [])) × (given_of new ≡ given_of old ++ (told_journey buffer p ∷ []))
NextEnters old buffer (Err r) new = new ≡ old

-- the entries after a strike of es, which is then listed, and not given; a refusal leaves them as they were
abbrev pub StrikeEnters : Entries → List ℕ → Result (Unit {0}) Refusal → Entries → Type 0
StrikeEnters old es (Ok r) new = (listed new ≡ listed old ++ (es ∷ [])) × (given_of new ≡ given_of old)
StrikeEnters old es (Err r) new = new ≡ old

-- what lies behind the edges in the buffer stays as it was; a refusal leaves it whole
abbrev pub Rest : List ℕ → List ℕ → Result (ℕ × ℕ) Refusal → Type 0
Rest old new (Ok p) = (p.1 ≤ 255) × (drop p.1 new ≡ drop p.1 old)
Rest old new (Err r) = new ≡ old

-- the i-th journey given, from 1
abbrev pub Ith : List Journey → ℕ → Journey → Type 0
Ith given i j = (d : Journey) → slice_index_or given (i - 1) d ≡ j
