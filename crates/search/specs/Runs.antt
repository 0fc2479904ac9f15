-- The law over runs: what holds of the calls sent to a search and their answers.
use Rattle.std.specs.Prelude.{◌≡◌, ℕ, ◌<◌, ◌⊎◌, List, [], ◌∷◌, ◌++◌, length, Ok, Err, Result}
use Rattle.networks.specs.Networks.{Meaning}
use Rattle.refusals.specs.Verdicts.{Verdict}
use Rattle.refusals.specs.declared.Refusal.{Refusal}
use Rattle.refusals.specs.declared.Refusal.TheVariants.{OfSearch}
use Rattle.journeys.specs.declared.question.Question.{Question}
use Rattle.journeys.specs.Journeys.{Unlisted}
use Rattle.journeys.specs.Rank.{FirstInRank}
use Rattle.entries.specs.declared.entry.Journey.{Journey}
use Rattle.search.specs.Reasons.{AgainstNext, AgainstAgain, AgainstStrike}
use Rattle.search.specs.Sounds.{Ordered}
use Rattle.search.specs.Calls.{Ith}
use Rattle.search.specs.declared.calls.Call.{Call}
use Rattle.search.specs.declared.calls.Call.TheVariants as call
use Rattle.search.specs.declared.calls.Reply.{Reply}
use Rattle.search.specs.declared.calls.Reply.TheVariants.{Gave, Struck}

-- what a search is asked, and what it says
pub data Ask : Type 0 where
  next : Ask
  again : ℕ → Ask
  strike : List ℕ → Ask

abbrev pub Said : Type 0
Said = Result Reply Refusal

pub record Turn : Type 0 where
  pub ask : Ask
  pub said : Said

abbrev pub asked : Call → Ask
asked call.Next = next
asked (call.Again i) = again i
asked (call.Strike edges) = strike edges.now

-- each call with its answer
abbrev pub turns : List Call → List Said → List Turn
turns [] xs = []
turns (c ∷ cs) [] = []
turns (c ∷ cs) (x ∷ xs) = record { ask = asked c; said = x } ∷ turns cs xs

-- a journey is given once next answers with its edges
abbrev pub gives : Ask → Said → List Journey
gives next (Ok (Gave j)) = j ∷ []
gives next (Ok Struck) = []
gives next (Err r) = []
gives (again i) x = []
gives (strike es) x = []

-- the journeys given by turns, in order
abbrev pub given_by : List Turn → List Journey
given_by [] = []
given_by (t ∷ ts) = gives t.ask t.said ++ given_by ts

-- a strike of es strikes it: it is unlisted, and fewer than sixteen are given or struck
abbrev pub Strikes : Meaning → Question → List (List ℕ) → List ℕ → Type 0
Strikes m q listed es = (length listed < 16) × ((a : ℕ) × Unlisted m q listed a es)

-- the journeys that a turn gives or strikes, where these were given or struck before
abbrev pub Lists : Meaning → Question → List (List ℕ) → Ask → Said → List (List ℕ) → Type 0
Lists m q listed next (Ok (Gave j)) more = more ≡ j.edges.items ∷ []
Lists m q listed next (Ok Struck) more = more ≡ []
Lists m q listed next (Err r) more = more ≡ []
Lists m q listed (again i) x more = more ≡ []
Lists m q listed (strike es) x more = (Strikes m q listed es × (more ≡ es ∷ [])) ⊎ (¬ Strikes m q listed es × (more ≡ []))

-- the answer to a call, where these journeys were given, and these given or struck
abbrev pub Right : Meaning → Question → List Journey → List (List ℕ) → Ask → Said → Type 0
Right m q given listed next (Ok (Gave j)) = FirstInRank (Unlisted m q listed) j.arrival j.edges.items × Verdict {A = Journey} OfSearch (50 ∷ 51 ∷ []) (AgainstNext m q listed) (Ok j)
Right m q given listed next (Ok Struck) = ⊥
Right m q given listed next (Err r) = Verdict {A = Journey} OfSearch (50 ∷ 51 ∷ []) (AgainstNext m q listed) (Err r)
Right m q given listed (again i) (Ok (Gave j)) = Ith given i j × Verdict {A = Journey} OfSearch (52 ∷ []) (AgainstAgain given i) (Ok j)
Right m q given listed (again i) (Ok Struck) = ⊥
Right m q given listed (again i) (Err r) = Verdict {A = Journey} OfSearch (52 ∷ []) (AgainstAgain given i) (Err r)
Right m q given listed (strike es) (Ok (Gave j)) = ⊥
Right m q given listed (strike es) (Ok Struck) = Strikes m q listed es × Verdict {A = Unit {0}} OfSearch (53 ∷ 54 ∷ 50 ∷ []) (AgainstStrike m q listed es) (Ok tt)
Right m q given listed (strike es) (Err r) = Verdict {A = Unit {0}} OfSearch (53 ∷ 54 ∷ 50 ∷ []) (AgainstStrike m q listed es) (Err r)

-- what a turn keeps: its answer is right, it lists more, and no unlisted journey ranks before one that is given
pub record Kept (m : Meaning) (q : Question) (given : List Journey) (listed : List (List ℕ)) (ask : Ask) (said : Said) (more : List (List ℕ)) : Type 0 where
  pub right : Right m q given listed ask said
  pub lists : Lists m q listed ask said more
  pub ordered : Ordered m q (given ++ gives ask said) (listed ++ more)

-- every turn keeps this, one after another
abbrev pub LawAfter : Meaning → Question → List Journey → List (List ℕ) → List Turn → Type 0
LawAfter m q given listed [] = Unit {0}
LawAfter m q given listed (t ∷ ts) =
    (more : List (List ℕ)) × Kept m q given listed t.ask t.said more × LawAfter m q (given ++ gives t.ask t.said) (listed ++ more) ts

-- the law over runs: every turn keeps it, from where nothing is given or struck
abbrev pub Law : Meaning → Question → List Turn → Type 0
Law m q ts = LawAfter m q [] [] ts
