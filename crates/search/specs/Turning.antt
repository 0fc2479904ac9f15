-- What one turn of a run does to the entries of a search.
use Rattle.std.specs.Prelude.{◌≡◌, ℕ, List, ◌++◌}
use Rattle.networks.specs.Networks.{Meaning}
use Rattle.journeys.specs.declared.question.Question.{Question}
use Rattle.entries.specs.declared.entry.Entries.{Entries}
use Rattle.entries.specs.Listing.{listed, given_of}
use Rattle.search.specs.Runs.{Ask, Said, Turn, gives, given_by, Kept, LawAfter}

-- a turn keeps the law, and the entries hold what it gives or strikes behind what they held
pub record Entered (m : Meaning) (q : Question) (old : Entries) (ask : Ask) (said : Said) (new : Entries) : Type 0 where
  pub more : List (List ℕ)
  pub kept : Kept m q (given_of old) (listed old) ask said more
  pub lists : listed new ≡ listed old ++ more
  pub gave : given_of new ≡ given_of old ++ gives ask said

-- what the turns of a run do: they give what is given, and whatever goes on from the new entries goes on from the old ones through these turns
pub record Ran (m : Meaning) (q : Question) (old : Entries) (ts : List Turn) (new : Entries) : Type 0 where
  pub law : (rest : List Turn) → LawAfter m q (given_of new) (listed new) rest → LawAfter m q (given_of old) (listed old) (ts ++ rest)
  pub gave : given_of new ≡ given_of old ++ given_by ts
