-- What a network is: its meaning, one value, and the laws that every kind of network keeps.
use Rattle.std.specs.Prelude.{◌≡◌, ℕ, ◌<◌, ◌≤◌, Some, None, Option}

-- the last instant: two days after the midnight that begins the service day, in seconds
abbrev pub day_end : ℕ
day_end = 172800

-- what a network answers: how many edges it has, the stop that an edge leaves and the stop that it reaches,
-- and when somebody who stands at the first stop at an instant reaches the second; `None` where there is no answer
pub record Meaning : Type 0 where
  pub count : ℕ
  pub ends : ℕ → Option (ℕ × ℕ)
  pub lookup : ℕ → ℕ → Option ℕ

-- there are ends, and both are stops
abbrev pub Stops : Option (ℕ × ℕ) → Type 0
Stops None = ⊥
Stops (Some p) = (p.0 < 256) × (p.1 < 256)

-- an answer, if there is one, is no later than the last instant
abbrev pub InDay : Option ℕ → Type 0
InDay None = Unit {0}
InDay (Some u) = u ≤ day_end

-- an answer, if there is one, is not before t
abbrev pub NotBefore : ℕ → Option ℕ → Type 0
NotBefore t None = Unit {0}
NotBefore t (Some u) = t ≤ u

-- if the second is an answer, so is the first, and it is no later
abbrev pub NoLater : Option ℕ → Option ℕ → Type 0
NoLater a None = Unit {0}
NoLater None (Some v) = ⊥
NoLater (Some u) (Some v) = u ≤ v

pub record Lawful (m : Meaning) : Type 0 where
  -- at most 16,384 edges
  pub few : m.count ≤ 16384
  -- ends are there below the count, and only there
  pub stops : (e : ℕ) → e < m.count → Stops (m.ends e)
  pub no_ends : (e : ℕ) → m.count ≤ e → m.ends e ≡ None
  -- no lookup of an edge that is not there, and none past the last instant
  pub no_edge : (e t : ℕ) → m.count ≤ e → m.lookup e t ≡ None
  pub past_day : (e t : ℕ) → day_end < t → m.lookup e t ≡ None
  pub in_day : (e t : ℕ) → InDay (m.lookup e t)
  -- nobody arrives before the instant asked, and who starts earlier arrives no later
  pub never_early : (e t : ℕ) → NotBefore t (m.lookup e t)
  pub monotone : (e s t : ℕ) → s ≤ t → NoLater (m.lookup e s) (m.lookup e t)
