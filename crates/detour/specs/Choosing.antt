-- The choice of the next edge.
use Rattle.std.specs.Prelude.{◌≡◌, ℕ, Some, None, Option}
use Rattle.networks.specs.Networks.{Meaning}
use Rattle.journey_laws.specs.Ways.{Usable, Leading, Also}
use Rattle.journey_laws.specs.Arrivals.{Hop}
use Rattle.detour.specs.declared.Choice.{Choice}

-- what an attempt with edge e from stop u, which is shut, comes to: a step from which a journey leads on, or the edge can begin none
abbrev pub Tries : Meaning → (ℕ → Type 0) → (ℕ → Type 0) → ℕ → ℕ → ℕ → ℕ → ℕ → Option Choice → Type 0
Tries m Shut Barred u t d latest e (Some c) = (c.edge ≡ e) × Hop m (Also u Shut) Barred u t e c.to c.arrival × Leading m Shut c.to c.arrival d latest
Tries m Shut Barred u t d latest e None = ¬ Usable m Shut Barred u t d latest e
