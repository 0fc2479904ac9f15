-- The edges that leave each stop, in ascending order.
use Rattle.std.specs.Prelude.{◌≡◌, ℕ, ◌+◌, ◌<◌, ◌≤◌, List, Some, None, Option, ◌≢◌, option_map, unwrap_or, slice_index_or}
use Rattle.std.specs.Option.{ForSome}
use Rattle.networks.specs.Networks.{Meaning}

-- the stop that edge e leaves
abbrev pub start_of : Meaning → ℕ → Option ℕ
start_of m e = option_map (λ p. p.0) (m.ends e)

-- the edge, or the count where there is none
abbrev pub or_count : Meaning → Option ℕ → ℕ
or_count m o = unwrap_or o m.count

-- o is the least edge from i on that leaves stop s, if there is one
pub record LeastFrom (m : Meaning) (s i : ℕ) (o : Option ℕ) : Type 0 where
  pub low : i ≤ or_count m o
  pub most : or_count m o ≤ m.count
  pub gap : (f : ℕ) → i ≤ f → f < or_count m o → start_of m f ≢ Some s
  pub leaves : ForSome o (λ e. (e < m.count) × (start_of m e ≡ Some s))

-- the edge at a place of a list of them
abbrev pub link : List (Option ℕ) → ℕ → Option ℕ
link es k = slice_index_or es k None

-- of the edges from k on, first has the least that leaves each stop, and next, after each edge, the least further one that leaves the same stop
pub record Grouped (m : Meaning) (k : ℕ) (first next : List (Option ℕ)) : Type 0 where
  pub firsts : (s : ℕ) → s < 256 → LeastFrom m s k (link first s)
  pub nexts : (s e : ℕ) → k ≤ e → start_of m e ≡ Some s → LeastFrom m s (e + 1) (link next e)

-- an edge is followed by a greater one
abbrev pub Ascending : List (Option ℕ) → Type 0
Ascending next = (e : ℕ) → ForSome (link next e) (λ f. (e < f) × (f < 16384))
