-- What following a list of edges comes to.
use Rattle.std.specs.Prelude.{ℕ, ◌≤◌, ◌↔◌, List, [], ◌∷◌, ◌++◌, length, Some, None, Option}
use Rattle.networks.specs.Networks.{Meaning}
use Rattle.stops.specs.Sets.{Holds}
use Rattle.journeys.specs.declared.question.Question.{Question}
use Rattle.journeys.specs.Journeys.{In, Simple}
use Rattle.journey_laws.specs.Ways.{Nothing, Way}
use Rattle.journey_laws.specs.Branching.{Through}
use Rattle.branches.specs.declared.position.Position.{Position}

-- the edges p lead from the origin to a position, past the stops that it holds behind
pub record At (m : Meaning) (q : Question) (p : List ℕ) (here : Position) : Type 0 where
  pub behind : List ℕ
  pub through : Through m [] q.origin q.start p behind here.stop here.instant
  pub held : (x : ℕ) → Holds here.behind x ↔ In x behind

-- where edge e leads from where the edges p lead, or that nothing goes on by it
abbrev pub Advanced : Meaning → Question → List ℕ → ℕ → Option Position → Type 0
Advanced m q p e None = (d a : ℕ) (r : List ℕ) → ¬ Way m Nothing q.origin q.start d a (p ++ (e ∷ r))
Advanced m q p e (Some there) = At m q (p ++ (e ∷ [])) there

-- where and when the edges lead, or that they lead nowhere
abbrev pub Followed : Meaning → Question → List ℕ → Option Position → Type 0
Followed m q es None = (d a : ℕ) → ¬ Way m Nothing q.origin q.start d a es
Followed m q es (Some there) = At m q es there

-- the arrival of a simple journey of the question, which has at most 255 edges; or that the edges are none
abbrev pub Arrives : Meaning → Question → List ℕ → Option ℕ → Type 0
Arrives m q es None = (a : ℕ) → ¬ Simple m q a es
Arrives m q es (Some a) = (length es ≤ 255) × Simple m q a es
