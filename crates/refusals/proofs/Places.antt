-- A call that checks place after place: what holds after so many of them.
use Rattle.std.proofs.Common.{ℕ, ◌≤◌}
use Rattle.refusals.specs.declared.Refusal.{Refusal}
use Rattle.refusals.specs.Told.{told}
use Rattle.refusals.specs.Verdicts.{position}

-- no reason holds without a place or at a place before k
abbrev pub Clear : {F : Type 0} → (F → Refusal) → (F → Type 0) → ℕ → Type 0
Clear {F} refusal Holds k = (f : F) → position (told (refusal f)).place ≤ k → Holds f → ⊥
