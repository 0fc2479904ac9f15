-- What the entries of a search hold: journeys given and journeys struck.
use Rattle.std.specs.Prelude.{ℕ, ◌==◌, Bool, true, false, cond, List, [], ◌∷◌, map, filter, Some, None, Option}
use Rattle.entries.specs.declared.entry.Journey.{Journey}
use Rattle.entries.specs.declared.entry.Standing.{Standing}
use Rattle.entries.specs.declared.entry.Standing.TheVariants.{Given, Struck}
use Rattle.entries.specs.declared.entry.Entry.{Entry}
use Rattle.entries.specs.declared.entry.Entries.{Entries}

-- the edges of an entry
abbrev pub edges_of : Entry → List ℕ
edges_of e = e.journey.edges.items

abbrev pub all_edges : List Entry → List (List ℕ)
all_edges es = map edges_of es

abbrev pub stands_given : Standing → Bool
stands_given Given = true
stands_given Struck = false

-- whether the journey of an entry was given
abbrev pub is_given : Entry → Bool
is_given e = stands_given e.standing

-- the journeys that were given or struck, in order
abbrev pub listed : Entries → List (List ℕ)
listed es = all_edges es.list.items

-- the journeys that were given, in order
abbrev pub given_of : Entries → List Journey
given_of es = map (λ e. e.journey) (filter is_given es.list.items)

-- the edge by which y goes on after p, if it begins with p and goes on
abbrev pub next_after : List ℕ → List ℕ → Option ℕ
next_after [] [] = None
next_after [] (y ∷ ys) = Some y
next_after (x ∷ xs) [] = None
next_after (x ∷ xs) (y ∷ ys) = cond (y == x) (next_after xs ys) None
