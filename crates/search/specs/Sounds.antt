-- What a search knows of its entries.
use Rattle.std.specs.Prelude.{ℕ, List}
use Rattle.std.specs.Coded.{Π_prop, →_prop}
use mathlib.Core.HLevel.{⊥_prop}
use Rattle.networks.specs.Networks.{Meaning}
use Rattle.journeys.specs.declared.question.Question.{Question}
use Rattle.journeys.specs.Journeys.{In, Unlisted}
use Rattle.journeys.specs.Rank.{Before}
use Rattle.journey_laws.specs.Theorems.{SimpleEntries}
use Rattle.entries.specs.declared.entry.Entries.{Entries}
use Rattle.entries.specs.declared.entry.Journey.{Journey}
use Rattle.entries.specs.Listing.{listed, given_of}
use Rattle.journey_laws.specs.Known.{Simple-prop}

-- no unlisted journey ranks before one that was given
abbrev pub Ordered : Meaning → Question → List Journey → List (List ℕ) → Type 0
Ordered m q given listed = (j : Journey) → In j given → (a : ℕ) (es : List ℕ) → Unlisted m q listed a es → ¬ Before a es j.arrival j.edges.items

-- every entry is a simple journey of the question, and no unlisted one ranks before one that was given
pub record Sound (m : Meaning) (q : Question) (entries : Entries) : Type 0 where
  pub simple : SimpleEntries m q (listed entries)
  pub ordered : Ordered m q (given_of entries) (listed entries)

-- that holds in one way
pub Sound-prop : (m : Meaning) (q : Question) (entries : Entries) → IsProp (Sound m q entries)
Sound-prop m q entries x y = λ i. record {
  simple = Π_prop (λ y. Π_prop (λ h. Simple-prop m q y)) x.simple y.simple i;
  ordered = Π_prop (λ j. Π_prop (λ h. Π_prop (λ a. Π_prop (λ es. Π_prop (λ l. →_prop ⊥_prop))))) x.ordered y.ordered i;
}
