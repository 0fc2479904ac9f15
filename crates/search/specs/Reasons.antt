-- Why a call of an open search is refused.
use Rattle.std.specs.Prelude.{◌≡◌, ℕ, ◌<◌, ◌≤◌, ◌⊎◌, List, length}
use Rattle.networks.specs.Networks.{Meaning}
use Rattle.refusals.specs.declared.SearchRefusal.{SearchRefusal}
use Rattle.refusals.specs.declared.SearchRefusal.TheVariants.{TooManyEntries, NoMore, NotGiven, NotSimple, AlreadyListed, SheetTooShort}
use Rattle.journeys.specs.declared.question.Question.{Question}
use Rattle.journeys.specs.Journeys.{In, Simple, Unlisted}
use Rattle.entries.specs.declared.entry.Journey.{Journey}

-- when each reason against next holds, where these journeys are listed: sixteen are, or none is unlisted
abbrev pub AgainstNext : Meaning → Question → List (List ℕ) → SearchRefusal → Type 0
AgainstNext m q listed TooManyEntries = 16 ≤ length listed
AgainstNext m q listed NoMore = (a : ℕ) (es : List ℕ) → ¬ Unlisted m q listed a es
AgainstNext m q listed NotGiven = ⊥
AgainstNext m q listed NotSimple = ⊥
AgainstNext m q listed AlreadyListed = ⊥
AgainstNext m q listed SheetTooShort = ⊥

-- when the reason against again holds, where these journeys were given: fewer than i were, or i is 0
abbrev pub AgainstAgain : List Journey → ℕ → SearchRefusal → Type 0
AgainstAgain given i TooManyEntries = ⊥
AgainstAgain given i NoMore = ⊥
AgainstAgain given i NotGiven = (length given < i) ⊎ (i ≡ 0)
AgainstAgain given i NotSimple = ⊥
AgainstAgain given i AlreadyListed = ⊥
AgainstAgain given i SheetTooShort = ⊥

-- when each reason against a strike of es holds: it is no simple journey, it is listed, or sixteen are
abbrev pub AgainstStrike : Meaning → Question → List (List ℕ) → List ℕ → SearchRefusal → Type 0
AgainstStrike m q listed es TooManyEntries = 16 ≤ length listed
AgainstStrike m q listed es NoMore = ⊥
AgainstStrike m q listed es NotGiven = ⊥
AgainstStrike m q listed es NotSimple = (a : ℕ) → ¬ Simple m q a es
AgainstStrike m q listed es AlreadyListed = In es listed
AgainstStrike m q listed es SheetTooShort = ⊥
