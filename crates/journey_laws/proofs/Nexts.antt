-- The next edges of the entries that begin with p, as a loop gathers them; and where a list of edges goes wrong.
use Rattle.std.proofs.Common.{◌≡◌, ℕ, ◌<◌, List, [], ◌∷◌, ◌++◌, length, get_or, take, sym, refl, ap, ap₂, arith}
use Rattle.networks.specs.Networks.{Meaning}
use Rattle.journeys.specs.Walking.{Takes}
use Rattle.journeys.specs.Journeys.{In}
use Rattle.journey_laws.specs.Ways.{Nothing, Way}
use Rattle.journey_laws.specs.Branching.{Through}
use Rattle.journey_laws.proofs.Places.{one_through}
use Rattle.journey_laws.proofs.Diverging.{split}

-- y goes on after p by e: what the code tests, and what the theorem says
pub goes_on_by : (p y : List ℕ) (e : ℕ) → take (length p) y ≡ p → length p < length y → get_or y (length p) 0 ≡ e → (r : List ℕ) × (p ++ (e ∷ r) ≡ y)
goes_on_by [] [] e h l g = absurd (omega arith)
goes_on_by [] (f ∷ y) e h l g = (y, cc)
goes_on_by (x ∷ p) [] e h l g = absurd (omega arith)
goes_on_by (x ∷ p) (f ∷ y) e h l g =
    let e₁ : take (length p) y ≡ p = cc in
    let e₂ : f ≡ x = cc in
    let (r, k) = goes_on_by p y e e₁ (omega arith) g in
    (r, ap₂ ◌∷◌ (sym e₂) k)

pub tested : (p : List ℕ) (e : ℕ) (r : List ℕ) → (take (length p) (p ++ (e ∷ r)) ≡ p) × (length p < length (p ++ (e ∷ r))) × (get_or (p ++ (e ∷ r)) (length p) 0 ≡ e)
tested [] e r = (refl, omega arith, refl)
tested (x ∷ p) e r = let (a, b, c) = tested p e r in (ap (λ (z : List ℕ). x ∷ z) a, omega arith, c)

-- where the next edge cannot be taken, no way goes on
pub stuck : (m : Meaning) (u t d a : ℕ) (p after : List ℕ) (v i e : ℕ) (r : List ℕ) → Through m [] u t p after v i →
    ((w s : ℕ) → Takes m v i e w s → In w (v ∷ after)) → ¬ Way m Nothing u t d a (p ++ (e ∷ r))
stuck m u t d a p after v i e r al h w = at (split m d [] u t a p (e ∷ r) w)
  where
    at : (after' : List ℕ) × (v' : ℕ) × (i' : ℕ) × Through m [] u t p after' v' i' × Way m (λ x. In x after') v' i' d a (e ∷ r) → ⊥
    at (after', v', i', al', w') =
        let (q₁, q₂, q₃) = one_through m [] after after' u t v v' i i' p al al' in
        let w'' : Way m (λ x. In x after) v i d a (e ∷ r) = rw (q₁, q₂, q₃) at w' in
        w''.3 (h w''.0 w''.1 w''.2)
