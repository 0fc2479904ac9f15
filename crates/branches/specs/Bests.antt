-- The best journey so far, and the places of the entries that are worked out.
use Rattle.std.specs.Prelude.{◌≡◌, ℕ, ◌<◌, ◌⊎◌, List, ◌++◌, take, Some, None, Option}
use Rattle.networks.specs.Networks.{Meaning}
use Rattle.journeys.specs.declared.question.Question.{Question}
use Rattle.journeys.specs.Journeys.{In, Unlisted}
use Rattle.journeys.specs.Rank.{Before, FirstInRank}
use Rattle.journey_laws.specs.Branching.{Place}
use Rattle.journey_laws.specs.Theorems.{SimpleEntries, Branches}
use Rattle.entries.specs.declared.entry.Journey.{Journey}

-- which of a journey x and the best is kept: x, where all that ranks before it ranks before the best; or the best, where x does not rank before it
abbrev pub Better : Journey → Option Journey → Journey → Type 0
Better x None new = new ≡ x
Better x (Some y) new =
    ((new ≡ x) × ((b : ℕ) (es : List ℕ) → Before b es x.arrival x.edges.items → Before b es y.arrival y.edges.items))
    ⊎ ((new ≡ y) × ¬ Before x.arrival x.edges.items y.arrival y.edges.items)

-- an unlisted journey x, such that nothing that leaves the entries after p ranks before what x does not rank before; or that nothing that leaves them there arrives by an instant
abbrev pub FirstLeaving : Meaning → Question → List (List ℕ) → List ℕ → ℕ → Option Journey → Type 0
FirstLeaving m q ys p by None = (a : ℕ) (r : List ℕ) → Branches m q ys p a r → by < a
FirstLeaving m q ys p by (Some x) =
    Unlisted m q ys x.arrival x.edges.items
    × ((b : ℕ) (es : List ℕ) → ¬ Before x.arrival x.edges.items b es → (a : ℕ) (r : List ℕ) → Branches m q ys p a r → ¬ Before a (p ++ r) b es)

-- the best, if there is one, is an unlisted journey
abbrev pub Unsurpassed : Meaning → Question → List (List ℕ) → Option Journey → Type 0
Unsurpassed m q ys None = Unit {0}
Unsurpassed m q ys (Some x) = Unlisted m q ys x.arrival x.edges.items

-- no journey that leaves the entries after p ranks before the best
abbrev pub Beats : Meaning → Question → List (List ℕ) → List ℕ → Option Journey → Type 0
Beats m q ys p None = (b : ℕ) (r : List ℕ) → ¬ Branches m q ys p b r
Beats m q ys p (Some x) = (b : ℕ) (r : List ℕ) → Branches m q ys p b r → ¬ Before b (p ++ r) x.arrival x.edges.items

-- from the old best to the new: it beats the places that are done, and what the old one beat
pub record Progress (m : Meaning) (q : Question) (ys : List (List ℕ)) (done : List ℕ → Type 0) (old new : Option Journey) : Type 0 where
  pub unlisted : Unsurpassed m q ys new
  pub beats : (p : List ℕ) → done p → Beats m q ys p new
  pub keeps : (p : List ℕ) → Beats m q ys p old → Beats m q ys p new

-- the same, where all entries are simple journeys and the old best is an unlisted one
abbrev pub Improves : Meaning → Question → List (List ℕ) → (List ℕ → Type 0) → Option Journey → Option Journey → Type 0
Improves m q ys done old new = SimpleEntries m q ys → Unsurpassed m q ys old → Progress m q ys done old new

-- no journey that leaves the entries where one leaves the earlier entries zs ranks before the best
abbrev pub Surpasses : Meaning → Question → List (List ℕ) → List (List ℕ) → Option Journey → Type 0
Surpasses m q ys zs best = (p : List ℕ) → Place (λ z. In z zs) p → Beats m q ys p best

-- p is a beginning of y of fewer than k edges
abbrev pub Beginning : List ℕ → ℕ → List ℕ → Type 0
Beginning y k p = (j : ℕ) × (j < k) × (p ≡ take j y)

-- the first in rank of the unlisted journeys; or that there is none
abbrev pub First : Meaning → Question → List (List ℕ) → Option Journey → Type 0
First m q ys None = (a : ℕ) (es : List ℕ) → ¬ Unlisted m q ys a es
First m q ys (Some x) = FirstInRank (Unlisted m q ys) x.arrival x.edges.items
