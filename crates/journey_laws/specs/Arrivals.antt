-- How the earliest arrivals at all stops are worked out: stop by stop, the nearest first.
use Rattle.std.specs.Prelude.{◌≡◌, ℕ, ◌<◌, ◌≤◌, Bool, true, false, ◌⊎◌, List, Some, None, Option}
use Rattle.networks.specs.Networks.{Meaning}
use Rattle.journeys.specs.Walking.{Takes}
use Rattle.journey_laws.specs.Ways.{Walk, Onward}

-- edge e, taken from stop u at instant t, reaches stop v at instant s; it is not barred, and v is not shut
pub record Hop (m : Meaning) (Shut Barred : ℕ → Type 0) (u t e v s : ℕ) : Type 0 where
  pub takes : Takes m u t e v s
  pub unbarred : ¬ Barred e
  pub not_shut : ¬ Shut v

-- what an edge comes to, tried from stop u at instant t: the stop and the instant that it reaches, or nothing
abbrev pub Tried : Meaning → (ℕ → Type 0) → (ℕ → Type 0) → ℕ → ℕ → ℕ → Option (ℕ × ℕ) → Type 0
Tried m Shut Barred u t e None = (v s : ℕ) → ¬ Hop m Shut Barred u t e v s
Tried m Shut Barred u t e (Some p) = Hop m Shut Barred u t e p.0 p.1

-- a walk leads from stop u at instant t to stop y at instant a; its first edge is not barred, and none reaches a shut stop
abbrev pub Reached : Meaning → (ℕ → Type 0) → (ℕ → Type 0) → ℕ → ℕ → ℕ → ℕ → Type 0
Reached m Shut Barred u t y a = (e : ℕ) × (v : ℕ) × (s : ℕ) × (es : List ℕ) × Hop m Shut Barred u t e v s × Walk m Shut v s y a es

-- from the arrivals old to new the edges below n that leave stop u at instant t were tried: an arrival fell where an edge reaches the stop earlier
pub record Relaxed (m : Meaning) (Shut Barred : ℕ → Type 0) (u t n : ℕ) (old new : ℕ → ℕ) : Type 0 where
  pub lower : (y : ℕ) → new y ≤ old y
  pub each : (e y a : ℕ) → e < n → Hop m Shut Barred u t e y a → new y ≤ a
  pub from : (y : ℕ) → (new y ≡ old y) ⊎ ((e : ℕ) × Hop m Shut Barred u t e y (new y))

-- the unsettled stop with the least arrival, if that is by the latest
abbrev pub Nearest : (ℕ → ℕ) → (ℕ → Bool) → ℕ → Option ℕ → Type 0
Nearest arrival settled latest None = (y : ℕ) → y < 256 → settled y ≡ false → latest < arrival y
Nearest arrival settled latest (Some u) = (settled u ≡ false) × (arrival u ≤ latest) × ((y : ℕ) → y < 256 → settled y ≡ false → arrival u ≤ arrival y)

-- next is settled with u besides
pub record Settles (settled next : ℕ → Bool) (u : ℕ) : Type 0 where
  pub here : next u ≡ true
  pub rest : (y : ℕ) → ¬ (y ≡ u) → next y ≡ settled y

-- what a pass finds that may end with an arrival that is early enough: nothing where no journey arrives by the latest; else an arrival b
-- by which one arrives, and either none arrives earlier or b is early enough
abbrev pub Found : Meaning → (ℕ → Type 0) → (ℕ → Type 0) → ℕ → ℕ → ℕ → ℕ → ℕ → Option ℕ → Type 0
Found m Shut Barred u t d latest enough None = (a : ℕ) (es : List ℕ) → ¬ Onward m Shut Barred u t d latest a es
Found m Shut Barred u t d latest enough (Some b) =
    ((a : ℕ) × (es : List ℕ) × (a ≤ b) × Onward m Shut Barred u t d latest a es) × (b ≤ latest)
    × ((a : ℕ) (es : List ℕ) → Onward m Shut Barred u t d latest a es → (b ≤ a) ⊎ (b ≤ enough))

-- a is the earliest arrival of a journey
pub record Earliest (m : Meaning) (Shut Barred : ℕ → Type 0) (u t d a : ℕ) : Type 0 where
  pub arrives : (es : List ℕ) × Onward m Shut Barred u t d a a es
  pub least : (b : ℕ) (es : List ℕ) → Onward m Shut Barred u t d a b es → a ≤ b
