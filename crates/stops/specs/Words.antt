-- The bits of a list of words.
use Rattle.std.specs.Prelude.{ℕ, ◌/◌, ◌%◌, Bool, List, ◌==◌, slice_index}
use Rattle.std.specs.Int.{bit_at}

-- bit s % 64 of word s / 64
unfoldable pub bit : List ℕ → ℕ → Bool
bit words s = bit_at (slice_index words (s / 64)) (s % 64) == 1
