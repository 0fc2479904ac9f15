-- The rank of journeys.
use Rattle.std.specs.Prelude.{◌≡◌, ℕ, ◌<◌, ◌⊎◌, List, [], ◌∷◌}

-- at the first difference the first list has the smaller number
abbrev pub Smaller : List ℕ → List ℕ → Type 0
Smaller [] ys = ⊥
Smaller (x ∷ xs) [] = ⊥
Smaller (x ∷ xs) (y ∷ ys) = (x < y) ⊎ ((x ≡ y) × Smaller xs ys)

-- the edges xs with the arrival a rank before ys with the arrival b: they arrive earlier, or at the same instant with the smaller edge number at the first difference
abbrev pub Before : ℕ → List ℕ → ℕ → List ℕ → Type 0
Before a xs b ys = (a < b) ⊎ ((a ≡ b) × Smaller xs ys)

-- of some journeys with their arrivals, es with the arrival a is the first in rank
pub record FirstInRank (Among : ℕ → List ℕ → Type 0) (a : ℕ) (es : List ℕ) : Type 0 where
  pub member : Among a es
  pub none_before : (b : ℕ) (fs : List ℕ) → Among b fs → Before b fs a es → ⊥
