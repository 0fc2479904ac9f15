-- Edges that are taken one after another.
use Rattle.std.specs.Prelude.{◌≡◌, ℕ, ◌<◌, List, [], ◌∷◌, length, take, Some, None, Ok, Err, Option, Result, slice_index}
use Rattle.networks.specs.Networks.{Meaning}
use Rattle.journeys.specs.declared.walks.Step.{Step}
use Rattle.journeys.specs.declared.walks.Obstacle.{Obstacle}
use Rattle.journeys.specs.declared.walks.Obstacle.TheVariants.{NoSuchEdge, LeavesElsewhere, NoDeparture}
use Rattle.journeys.specs.declared.walks.Blocked.{Blocked}

-- edge e, taken at stop u at instant t, reaches stop v at instant s
pub record Takes (m : Meaning) (u t e v s : ℕ) : Type 0 where
  pub leads : m.ends e ≡ Some (u, v)
  pub arrives : m.lookup e t ≡ Some s

-- a walk that stands here, or has not begun, may leave from stop u
abbrev pub Stands : Option ℕ → ℕ → Type 0
Stands None u = Unit {0}
Stands (Some v) u = v ≡ u

-- what taking edge e from here at instant t comes to
abbrev pub Taken : Meaning → Option ℕ → ℕ → ℕ → Result Step Obstacle → Type 0
Taken m here t e (Ok s) = Stands here s.from × Takes m s.from t e s.to s.arrival
Taken m here t e (Err NoSuchEdge) = m.ends e ≡ None
Taken m here t e (Err LeavesElsewhere) = (u : ℕ) × (v : ℕ) × (m.ends e ≡ Some (u, v)) × (Stands here u → ⊥)
Taken m here t e (Err NoDeparture) = (u : ℕ) × (v : ℕ) × (m.ends e ≡ Some (u, v)) × Stands here u × (m.lookup e t ≡ None)

-- the edges lead from here at instant t to there at instant s, each taken where and when the one before arrived
abbrev pub Along : Meaning → Option ℕ → ℕ → List ℕ → Option ℕ → ℕ → Type 0
Along m here t [] there s = (here ≡ there) × (t ≡ s)
Along m here t (e ∷ es) there s = (u : ℕ) × (v : ℕ) × (i : ℕ) × Stands here u × Takes m u t e v i × Along m (Some v) i es there s

-- what walking the edges from instant t comes to: their arrival, or the first step that cannot be taken and why
abbrev pub Walked : Meaning → ℕ → List ℕ → Result ℕ Blocked → Type 0
Walked m t es (Ok a) = (there : Option ℕ) × Along m None t es there a
Walked m t es (Err b) = (there : Option ℕ) × (s : ℕ) × (b.step < length es) × Along m None t (take b.step es) there s × Taken m there s (slice_index es b.step) (Err b.obstacle)
