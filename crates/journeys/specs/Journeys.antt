-- Simple journeys of a question, and those that a detour chooses from.
use Rattle.std.specs.Prelude.{◌≡◌, ℕ, ◌≤◌, ◌⊎◌, List, [], ◌∷◌}
use Rattle.networks.specs.Networks.{Meaning}
use Rattle.journeys.specs.Walking.{Takes}
use Rattle.journeys.specs.declared.question.Question.{Question}

-- x is one of the list
abbrev pub In : {A : Type 0} → A → List A → Type 0
In x [] = ⊥
In x (y ∷ ys) = (x ≡ y) ⊎ In x ys

-- no two of the list are equal
abbrev pub Differ : List ℕ → Type 0
Differ [] = Unit {0}
Differ (v ∷ vs) = (In v vs → ⊥) × Differ vs

-- the edges, taken from stop u at instant t and then each where and when the one before arrived, reach the stops one by one, the last at instant a
abbrev pub Visits : Meaning → ℕ → ℕ → List ℕ → List ℕ → ℕ → Type 0
Visits m u t [] [] a = t ≡ a
Visits m u t [] (v ∷ vs) a = ⊥
Visits m u t (e ∷ es) [] a = ⊥
Visits m u t (e ∷ es) (v ∷ vs) a = (s : ℕ) × Takes m u t e v s × Visits m v s es vs a

-- the last stop of those visited, or where one began
abbrev pub last : ℕ → List ℕ → ℕ
last u [] = u
last u (v ∷ vs) = last v vs

-- the edges lead from stop u at instant t over the stops to stop d, where they arrive at instant a; u and all the stops differ from one another
pub record Leads (m : Meaning) (u t d a : ℕ) (es stops : List ℕ) : Type 0 where
  pub visits : Visits m u t es stops a
  pub differ : Differ (u ∷ stops)
  pub reaches : last u stops ≡ d

-- the edges es are a simple journey of the question q, and a is its arrival
pub record Simple (m : Meaning) (q : Question) (a : ℕ) (es : List ℕ) : Type 0 where
  pub stops : List ℕ
  pub leads : Leads m q.origin q.start q.destination a es stops
  pub in_time : a ≤ q.latest

-- a simple journey that is not listed
pub record Unlisted (m : Meaning) (q : Question) (listed : List (List ℕ)) (a : ℕ) (es : List ℕ) : Type 0 where
  pub simple : Simple m q a es
  pub not_listed : In es listed → ⊥

-- the first edge, if there is one, is not barred
abbrev pub Unbarred : (ℕ → Type 0) → List ℕ → Type 0
Unbarred Barred [] = Unit {0}
Unbarred Barred (e ∷ es) = Barred e → ⊥

-- the edges es lead from stop u at instant t to stop d, where they arrive at a, the latest at latest; they reach no shut stop, and the first is not barred
pub record Detour (m : Meaning) (Shut Barred : ℕ → Type 0) (u t d latest a : ℕ) (es : List ℕ) : Type 0 where
  pub stops : List ℕ
  pub leads : Leads m u t d a es stops
  pub none_shut : (v : ℕ) → In v stops → Shut v → ⊥
  pub unbarred : Unbarred Barred es
  pub in_time : a ≤ latest
