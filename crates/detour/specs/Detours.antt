-- What a detour answers, and why there is none.
use Rattle.std.specs.Prelude.{◌≡◌, ℕ, ◌<◌, ◌≤◌, ◌⊎◌, List, take}
use Rattle.networks.specs.Networks.{Meaning, day_end}
use Rattle.refusals.specs.declared.DetourRefusal.{DetourRefusal}
use Rattle.refusals.specs.declared.DetourRefusal.TheVariants.{StopsUnfit, InstantsUnfit, NoDetour}
use Rattle.journeys.specs.Journeys.{Detour}
use Rattle.journeys.specs.Rank.{FirstInRank}

-- when each reason against a detour holds: from stop u at instant t to stop d by the latest arrival
abbrev pub Reason : Meaning → (ℕ → Type 0) → (ℕ → Type 0) → ℕ → ℕ → ℕ → ℕ → DetourRefusal → Type 0
Reason m Shut Barred u t d latest StopsUnfit = (u ≡ d) ⊎ (Shut u ⊎ Shut d)
Reason m Shut Barred u t d latest InstantsUnfit = (latest < t) ⊎ (day_end < latest)
Reason m Shut Barred u t d latest NoDetour = (a : ℕ) (es : List ℕ) → ¬ Detour m Shut Barred u t d latest a es

-- the answer has the arrival and the number of edges of the first journey in rank, whose edges stand at the buffer's front
pub record Answers (m : Meaning) (Shut Barred : ℕ → Type 0) (u t d latest : ℕ) (edges : List ℕ) (answer : ℕ × ℕ) : Type 0 where
  pub few : answer.1 ≤ 255
  pub first : FirstInRank (Detour m Shut Barred u t d latest) answer.0 (take answer.1 edges)
