-- Rank is a strict order, and total on ways between the same stops.
use Rattle.std.proofs.Common.{◌≡◌, ℕ, ◌<◌, ◌⊎◌, List, [], ◌∷◌, ◌++◌, sym, refl, ◌∙◌, inl, inr, arith}
use native.Mathlib.Decide.{dec_lt}
use Rattle.networks.specs.Networks.{Meaning}
use Rattle.journeys.specs.Rank.{Smaller, Before}
use Rattle.journey_laws.specs.Ways.{Way}
use Rattle.journey_laws.proofs.Ways.{no_longer}

pub smaller_irrefl : (xs : List ℕ) → ¬ Smaller xs xs
smaller_irrefl [] h = h
smaller_irrefl (x ∷ xs) (inl h) = omega arith
smaller_irrefl (x ∷ xs) (inr (p, h)) = smaller_irrefl xs h

pub smaller_trans : (xs ys zs : List ℕ) → Smaller xs ys → Smaller ys zs → Smaller xs zs
smaller_trans [] ys zs h k = h
smaller_trans (x ∷ xs) [] zs h k = absurd h
smaller_trans (x ∷ xs) (y ∷ ys) [] h k = k
smaller_trans (x ∷ xs) (y ∷ ys) (z ∷ zs) (inl h) (inl k) = inl (omega arith)
smaller_trans (x ∷ xs) (y ∷ ys) (z ∷ zs) (inl h) (inr (q, k)) = inl (omega arith)
smaller_trans (x ∷ xs) (y ∷ ys) (z ∷ zs) (inr (p, h)) (inl k) = inl (omega arith)
smaller_trans (x ∷ xs) (y ∷ ys) (z ∷ zs) (inr (p, h)) (inr (q, k)) = inr (p ∙ q, smaller_trans xs ys zs h k)

-- a common beginning does not count
pub smaller_after : (p xs ys : List ℕ) → Smaller (p ++ xs) (p ++ ys) → Smaller xs ys
smaller_after [] xs ys h = h
smaller_after (e ∷ p) xs ys (inl h) = absurd (omega arith)
smaller_after (e ∷ p) xs ys (inr (q, h)) = smaller_after p xs ys h

pub smaller_before : (p xs ys : List ℕ) → Smaller xs ys → Smaller (p ++ xs) (p ++ ys)
smaller_before [] xs ys h = h
smaller_before (e ∷ p) xs ys h = inr (refl, smaller_before p xs ys h)

pub before_under : (p : List ℕ) (a b : ℕ) (xs ys : List ℕ) → Before a xs b ys → Before a (p ++ xs) b (p ++ ys)
before_under p a b xs ys (inl h) = inl h
before_under p a b xs ys (inr (q, h)) = inr (q, smaller_before p xs ys h)

pub before_irrefl : (a : ℕ) (xs : List ℕ) → ¬ Before a xs a xs
before_irrefl a xs (inl h) = omega arith
before_irrefl a xs (inr (p, h)) = smaller_irrefl xs h

pub before_trans : (a b c : ℕ) (xs ys zs : List ℕ) → Before a xs b ys → Before b ys c zs → Before a xs c zs
before_trans a b c xs ys zs (inl h) (inl k) = inl (omega arith)
before_trans a b c xs ys zs (inl h) (inr (q, k)) = inl (omega arith)
before_trans a b c xs ys zs (inr (p, h)) (inl k) = inl (omega arith)
before_trans a b c xs ys zs (inr (p, h)) (inr (q, k)) = inr (p ∙ q, smaller_trans xs ys zs h k)

-- two lists differ at some place, or one begins the other
pub data Compared (xs ys : List ℕ) : Type 0 where
  less : Smaller xs ys → Compared xs ys
  more : Smaller ys xs → Compared xs ys
  same : xs ≡ ys → Compared xs ys
  begins : (f : ℕ) (r : List ℕ) → ys ≡ xs ++ (f ∷ r) → Compared xs ys
  begun : (f : ℕ) (r : List ℕ) → xs ≡ ys ++ (f ∷ r) → Compared xs ys

pub compare_lists : (xs ys : List ℕ) → Compared xs ys
compare_lists [] [] = same refl
compare_lists [] (y ∷ ys) = begins y ys refl
compare_lists (x ∷ xs) [] = begun x xs refl
compare_lists (x ∷ xs) (y ∷ ys) = at_heads (dec_lt x y) (dec_lt y x) (compare_lists xs ys)
  where
    tails : (x ≡ y) → Compared xs ys → Compared (x ∷ xs) (y ∷ ys)
    tails p (less h) = less (inr (p, h))
    tails p (more h) = more (inr (sym p, h))
    tails p (same q) = same (cc)
    tails p (begins f r q) = begins f r (cc)
    tails p (begun f r q) = begun f r (cc)

    at_heads : Dec (x < y) → Dec (y < x) → Compared xs ys → Compared (x ∷ xs) (y ∷ ys)
    at_heads (yes h) k c = less (inl h)
    at_heads (no h) (yes k) c = more (inl k)
    at_heads (no h) (no k) c = tails (omega arith) c

module _ (m : Meaning) (S : ℕ → Type 0) (u t d : ℕ) where
  -- two different ways never tie
  pub rank_total : (a b : ℕ) (xs ys : List ℕ) → Way m S u t d a xs → Way m S u t d b ys → Before a xs b ys ⊎ ((xs ≡ ys) ⊎ Before b ys a xs)
  rank_total a b xs ys v w = at (dec_lt a b) (dec_lt b a) (compare_lists xs ys)
    where
      at : Dec (a < b) → Dec (b < a) → Compared xs ys → Before a xs b ys ⊎ ((xs ≡ ys) ⊎ Before b ys a xs)
      at (yes h) k c = inl (inl h)
      at (no h) (yes k) c = inr (inr (inl k))
      at (no h) (no k) (less l) = inl (inr (omega arith, l))
      at (no h) (no k) (more l) = inr (inr (inr (omega arith, l)))
      at (no h) (no k) (same p) = inr (inl p)
      at (no h) (no k) (begins f r p) = absurd (no_longer m S u t d a b xs f r v (rw p at w))
      at (no h) (no k) (begun f r p) = absurd (no_longer m S u t d b a ys f r w (rw p at v))
