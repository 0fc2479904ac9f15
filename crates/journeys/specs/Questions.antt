-- Why a question cannot be made.
use Rattle.std.specs.Prelude.{◌≡◌, ℕ, ◌<◌}
use Rattle.networks.specs.Networks.{day_end}
use Rattle.refusals.specs.declared.QuestionRefusal.{QuestionRefusal}
use Rattle.refusals.specs.declared.QuestionRefusal.TheVariants.{OriginIsDestination, LatestPastDay, StartAfterLatest}

-- when each reason against a question holds
abbrev pub Reason : ℕ → ℕ → ℕ → ℕ → QuestionRefusal → Type 0
Reason origin destination start latest OriginIsDestination = origin ≡ destination
Reason origin destination start latest LatestPastDay = day_end < latest
Reason origin destination start latest StartAfterLatest = latest < start
