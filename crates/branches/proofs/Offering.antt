-- What ranks before the lesser of two journeys in the order of arrivals and then of edges.
use Rattle.std.proofs.Common.{◌≡◌, ℕ, ◌<◌, Bool, true, false, ◌⊎◌, List, [], ◌∷◌, cond, refl, ◌∙◌, inl, inr, Some, arith}
use Rattle.std.specs.Ordering.{is_lt, nat_cmp, ordering_then, MatchOrdering}
use Rattle.std.specs.declared.cmp.Ordering.{Ordering}
use Rattle.std.specs.declared.cmp.Ordering.TheVariants.{Less, Equal, Greater}
use Rattle.std.specs.Cmp.{ranked}
use Rattle.std.specs.Cmp.Lexicographic.{slice_cmp}
use Rattle.journeys.specs.Rank.{Smaller}
use Rattle.entries.specs.declared.entry.Journey.{Journey}
use Rattle.branches.specs.Bests.{Better}

-- numbers, and then something else
below_first : (z x y : ℕ) (o : Ordering) (S T : Type 0) → (is_lt o ≡ true → S → T) → is_lt (ordering_then (nat_cmp x y) o) ≡ true → (z < x) ⊎ ((z ≡ x) × S) → (z < y) ⊎ ((z ≡ y) × T)
below_first z x y o S T f = at (nat_cmp x y) (ranked x y (nat_cmp x y) refl)
  where
    at : (r : Ordering) → MatchOrdering r (x < y) (x ≡ y) (y < x) → is_lt (ordering_then r o) ≡ true → (z < x) ⊎ ((z ≡ x) × S) → (z < y) ⊎ ((z ≡ y) × T)
    at Less m h (inl l) = inl (omega arith)
    at Less m h (inr (e, l)) = inl (omega arith)
    at Equal m h (inl l) = inl (omega arith)
    at Equal m h (inr (e, l)) = inr (e ∙ m, f h l)
    at Greater m h k = absurd (cc h)

not_first : (x y : ℕ) (o : Ordering) (S : Type 0) → (is_lt o ≡ false → ¬ S) → is_lt (ordering_then (nat_cmp x y) o) ≡ false → ¬ ((x < y) ⊎ ((x ≡ y) × S))
not_first x y o S f = at (nat_cmp x y) (ranked x y (nat_cmp x y) refl)
  where
    at : (r : Ordering) → MatchOrdering r (x < y) (x ≡ y) (y < x) → is_lt (ordering_then r o) ≡ false → ¬ ((x < y) ⊎ ((x ≡ y) × S))
    at Less m h k = absurd (cc h)
    at Equal m h (inl l) = omega arith
    at Equal m h (inr (e, l)) = f h l
    at Greater m h (inl l) = omega arith
    at Greater m h (inr (e, l)) = omega arith

-- what is smaller than the lesser list is smaller than the other
below_less : (zs xs ys : List ℕ) → is_lt (slice_cmp nat_cmp xs ys) ≡ true → Smaller zs xs → Smaller zs ys
below_less [] xs ys h k = k
below_less (z ∷ zs) [] ys h k = absurd k
below_less (z ∷ zs) (x ∷ xs) [] h k = absurd (cc h)
below_less (z ∷ zs) (x ∷ xs) (y ∷ ys) h k = below_first z x y (slice_cmp nat_cmp xs ys) (Smaller zs xs) (Smaller zs ys) (below_less zs xs ys) h k

not_smaller : (xs ys : List ℕ) → is_lt (slice_cmp nat_cmp xs ys) ≡ false → ¬ Smaller xs ys
not_smaller [] ys h k = k
not_smaller (x ∷ xs) [] h k = k
not_smaller (x ∷ xs) (y ∷ ys) h k = not_first x y (slice_cmp nat_cmp xs ys) (Smaller xs ys) (not_smaller xs ys) h k

-- the lesser of two journeys is kept
module _ (x y : Journey) where
  abbrev before : Bool
  before = is_lt (ordering_then (nat_cmp x.arrival y.arrival) (slice_cmp nat_cmp x.edges.items y.edges.items))

  kept : (b : Bool) → before ≡ b → Better x (Some y) (cond b x y)
  kept true h = inl (refl, λ b es. below_first b x.arrival y.arrival _ _ _ (below_less es x.edges.items y.edges.items) h)
  kept false h = inr (refl, not_first x.arrival y.arrival _ _ (not_smaller x.edges.items y.edges.items) h)

  pub lesser_kept : Better x (Some y) (cond before x y)
  lesser_kept = kept before refl
