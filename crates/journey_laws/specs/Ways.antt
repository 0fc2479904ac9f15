-- Journeys as proofs follow them: edge by edge, with the stops that lie behind shut one after another.
use Rattle.std.specs.Prelude.{◌≡◌, ℕ, ◌≤◌, ◌⊎◌, List, [], ◌∷◌}
use Rattle.networks.specs.Networks.{Meaning}
use Rattle.journeys.specs.Walking.{Takes}
use Rattle.journeys.specs.Journeys.{Unbarred}

-- nothing is shut, or barred
abbrev pub Nothing : ℕ → Type 0
Nothing x = ⊥

-- what Shut says, and u as well
abbrev pub Also : ℕ → (ℕ → Type 0) → ℕ → Type 0
Also u Shut x = (x ≡ u) ⊎ Shut x

-- the edges lead from stop u at instant t to stop d at instant a; none reaches a shut stop or one that lies behind
abbrev pub Way : Meaning → (ℕ → Type 0) → ℕ → ℕ → ℕ → ℕ → List ℕ → Type 0
Way m Shut u t d a [] = (u ≡ d) × (t ≡ a)
Way m Shut u t d a (e ∷ es) = (v : ℕ) × (s : ℕ) × Takes m u t e v s × ¬ Also u Shut v × Way m (Also u Shut) v s d a es

-- the same, but a stop may come again
abbrev pub Walk : Meaning → (ℕ → Type 0) → ℕ → ℕ → ℕ → ℕ → List ℕ → Type 0
Walk m Shut u t d a [] = (u ≡ d) × (t ≡ a)
Walk m Shut u t d a (e ∷ es) = (v : ℕ) × (s : ℕ) × Takes m u t e v s × ¬ Shut v × Walk m Shut v s d a es

-- the journeys of a detour, as ways
pub record Onward (m : Meaning) (Shut Barred : ℕ → Type 0) (u t d latest a : ℕ) (es : List ℕ) : Type 0 where
  pub way : Way m Shut u t d a es
  pub unbarred : Unbarred Barred es
  pub in_time : a ≤ latest

-- some journey leads from stop u at instant t to stop d by the latest arrival
abbrev pub Leading : Meaning → (ℕ → Type 0) → ℕ → ℕ → ℕ → ℕ → Type 0
Leading m Shut u t d latest = (a : ℕ) × (es : List ℕ) × Onward m Shut Nothing u t d latest a es

-- edge e, taken from stop u at instant t, can begin a journey that arrives by the latest arrival
pub record Usable (m : Meaning) (Shut Barred : ℕ → Type 0) (u t d latest e : ℕ) : Type 0 where
  pub stop : ℕ
  pub instant : ℕ
  pub takes : Takes m u t e stop instant
  pub unbarred : ¬ Barred e
  pub not_shut : ¬ Also u Shut stop
  pub leading : Leading m (Also u Shut) stop instant d latest

-- e is the least edge that can begin a journey from stop u at instant t to stop d by the latest arrival; it reaches stop v at instant s
pub record Chosen (m : Meaning) (Shut Barred : ℕ → Type 0) (u t d latest e v s : ℕ) : Type 0 where
  pub takes : Takes m u t e v s
  pub unbarred : ¬ Barred e
  pub not_shut : ¬ Also u Shut v
  pub leading : Leading m (Also u Shut) v s d latest
  pub least : (f : ℕ) → Usable m Shut Barred u t d latest f → e ≤ f
