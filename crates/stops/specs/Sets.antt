-- Which stops a set holds.
use Rattle.std.specs.Prelude.{◌≡◌, ℕ, Bool, true}
use Rattle.stops.specs.Words.{bit}
use Rattle.stops.specs.declared.StopSet.{StopSet}

-- whether a set holds stop s
abbrev pub member : StopSet → ℕ → Bool
member set s = bit set.words s

-- a set holds stop s
abbrev pub Holds : StopSet → ℕ → Type 0
Holds set s = member set s ≡ true
