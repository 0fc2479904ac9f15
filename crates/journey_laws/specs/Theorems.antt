-- What holds of the journeys of every network, in the words of the subject.
use Rattle.std.specs.Prelude.{◌≡◌, ℕ, ◌<◌, ◌≤◌, ◌⊎◌, List, [], ◌∷◌, ◌++◌, length, take}
use Rattle.networks.specs.Networks.{Meaning, Lawful}
use Rattle.journeys.specs.declared.question.Question.{Question}
use Rattle.journeys.specs.Journeys.{In, Simple, Unlisted}
use Rattle.journeys.specs.Rank.{Before, FirstInRank}
use Rattle.journey_laws.specs.Branching.{NextEdge, Place, Branch}

-- rank is a strict total order on the simple journeys of a question
pub record Ranked (m : Meaning) (q : Question) : Type 0 where
  pub irreflexive : (a : ℕ) (x : List ℕ) → ¬ Before a x a x
  pub transitive : (a b c : ℕ) (x y z : List ℕ) → Before a x b y → Before b y c z → Before a x c z
  pub total : (a b : ℕ) (x y : List ℕ) → Simple m q a x → Simple m q b y → Before a x b y ⊎ ((x ≡ y) ⊎ Before b y a x)

abbrev pub RankIsTotal : Type 0
RankIsTotal = (m : Meaning) (q : Question) → Ranked m q

-- no simple journey begins another one
abbrev pub NoneBeginsAnother : Type 0
NoneBeginsAnother = (m : Meaning) (q : Question) (a b : ℕ) (x : List ℕ) (e : ℕ) (r : List ℕ) → Simple m q a x → ¬ Simple m q b (x ++ (e ∷ r))

-- a journey has one arrival
abbrev pub OneArrival : Type 0
OneArrival = (m : Meaning) (q : Question) (a b : ℕ) (x : List ℕ) → Simple m q a x → Simple m q b x → a ≡ b

-- of the unlisted journeys at most one is the first in rank
abbrev pub OneFirst : Type 0
OneFirst = (m : Meaning) (q : Question) (ys : List (List ℕ)) (a b : ℕ) (x y : List ℕ) →
    FirstInRank (Unlisted m q ys) a x → FirstInRank (Unlisted m q ys) b y → (a ≡ b) × (x ≡ y)

-- over 256 stops a simple journey has at most 255 edges
abbrev pub AtMost255Edges : Type 0
AtMost255Edges = (m : Meaning) → Lawful m → (q : Question) (a : ℕ) (x : List ℕ) → Simple m q a x → length x ≤ 255

-- all entries are simple journeys of the question
abbrev pub SimpleEntries : Meaning → Question → List (List ℕ) → Type 0
SimpleEntries m q ys = (y : List ℕ) → In y ys → (b : ℕ) × Simple m q b y

-- x leaves the entries after p: it goes on by an edge by which no entry that begins with p goes on
pub record Leaves (ys : List (List ℕ)) (x p : List ℕ) : Type 0 where
  pub place : Place (λ y. In y ys) p
  pub edge : ℕ
  pub rest : List ℕ
  pub is : x ≡ p ++ (edge ∷ rest)
  pub apart : ¬ NextEdge (λ y. In y ys) p edge

-- every unlisted journey leaves the entries at exactly one place
abbrev pub LeavesOnce : Type 0
LeavesOnce = (m : Meaning) (q : Question) (ys : List (List ℕ)) → SimpleEntries m q ys → (a : ℕ) (x : List ℕ) → Unlisted m q ys a x →
    (p : List ℕ) × Leaves ys x p × ((p' : List ℕ) → Leaves ys x p' → p' ≡ p)

-- the journeys that leave the entries after p, less p
abbrev pub Branches : Meaning → Question → List (List ℕ) → List ℕ → ℕ → List ℕ → Type 0
Branches m q ys = Branch m (λ y. In y ys) q.origin q.start q.destination q.latest

-- an unlisted journey that none ranks before which leaves the entries at the start or after a beginning of one is the first in rank of all
abbrev pub NextIsLeast : Type 0
NextIsLeast = (m : Meaning) (q : Question) (ys : List (List ℕ)) → SimpleEntries m q ys → (a : ℕ) (x : List ℕ) → Unlisted m q ys a x →
    ((b : ℕ) (r : List ℕ) → Branches m q ys [] b r → ¬ Before b r a x) →
    ((y : List ℕ) → In y ys → (k : ℕ) → k < length y → (b : ℕ) (r : List ℕ) → Branches m q ys (take k y) b r → ¬ Before b (take k y ++ r) a x) →
    FirstInRank (Unlisted m q ys) a x
