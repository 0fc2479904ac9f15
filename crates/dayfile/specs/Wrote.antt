-- Bytes written into a buffer.
use Rattle.std.specs.Prelude.{◌≡◌, ℕ, ◌+◌, List, length}
use Rattle.std.proofs.Math.Seq.{paste}

-- the bytes s stand from the place `at` up to the place p, and no other byte changed
pub record Wrote (was : List ℕ) (at : ℕ) (s : List ℕ) (p : ℕ) (is : List ℕ) : Type 0 where
  pub place : p ≡ at + length s
  pub bytes : is ≡ paste was at s (length s)
