-- What a step along the edges that leave a stop gives.
use Rattle.std.specs.Prelude.{◌≡◌, None, Option, ℕ, MatchOption}
use Rattle.detour.specs.Departing.{link}
use Rattle.detour.specs.declared.departures.Leaving.{Leaving}

-- the edge where it stands, and then it stands at the next
pub record Steps (before : Leaving) (given : Option ℕ) (after : Leaving) : Type 0 where
  pub here : given ≡ before.edge
  pub same : after.next.now ≡ before.next.now
  pub moved : MatchOption before.edge (after.edge ≡ None) (λ e. after.edge ≡ link before.next.now e)
