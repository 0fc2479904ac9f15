-- Being one of a list, by places.
use Rattle.std.proofs.Common.{◌≡◌, ℕ, zero, suc, ◌<◌, List, [], ◌∷◌, length, get_or, sym, inl, inr, arith}
use Rattle.std.specs.List.{ContainsAt as Has}
use Rattle.journeys.specs.Journeys.{In}

pub in_from_place : (x : ℕ) (xs : List ℕ) (k : ℕ) → k < length xs → get_or xs k 0 ≡ x → In x xs
in_from_place x [] k lt h = absurd (omega arith)
in_from_place x (y ∷ ys) zero lt h = inl (sym h)
in_from_place x (y ∷ ys) (suc k) lt h = inr (in_from_place x ys k (omega arith) h)

pub has_from_in : (x : ℕ) (xs : List ℕ) → In x xs → Has xs x
has_from_in x [] h = absurd h
has_from_in x (y ∷ ys) (inl h) = (0, omega arith, λ d. sym h)
has_from_in x (y ∷ ys) (inr h) = let (k, lt, at) = has_from_in x ys h in (suc k, omega arith, at)
