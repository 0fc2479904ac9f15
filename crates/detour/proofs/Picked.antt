-- The nearest of the stops seen so far.
use Rattle.std.proofs.Common.{◌≡◌, ℕ, ◌+◌, ◌≤◌, Bool, false, Some, None, Option}

abbrev pub Picked : (ℕ → ℕ) → (ℕ → Bool) → ℕ → ℕ → Option ℕ → Type 0
Picked arrival settled latest least None = least ≡ latest + 1
Picked arrival settled latest least (Some u) = (settled u ≡ false) × (arrival u ≡ least) × (least ≤ latest)
