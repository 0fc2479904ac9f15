-- Where a journey leaves the entries of a search.
use Rattle.std.specs.Prelude.{◌≡◌, ℕ, ◌⊎◌, List, [], ◌∷◌, ◌++◌}
use Rattle.networks.specs.Networks.{Meaning}
use Rattle.journeys.specs.Walking.{Takes}
use Rattle.journeys.specs.Journeys.{In}
use Rattle.journey_laws.specs.Ways.{Onward}

-- the edges p lead from stop u at instant t, with the stops before behind, to stop v at instant i; behind are then the stops after, the nearest first
abbrev pub Through : Meaning → List ℕ → ℕ → ℕ → List ℕ → List ℕ → ℕ → ℕ → Type 0
Through m before u t [] after v i = (after ≡ before) × (v ≡ u) × (i ≡ t)
Through m before u t (e ∷ p) after v i = (w : ℕ) × (s : ℕ) × Takes m u t e w s × ¬ In w (u ∷ before) × Through m (u ∷ before) w s p after v i

-- some entry begins with p and goes on by edge g
abbrev pub NextEdge : (List ℕ → Type 0) → List ℕ → ℕ → Type 0
NextEdge Entry p g = (y : List ℕ) × Entry (p ++ (g ∷ y))

-- a journey can leave the entries after p: p is empty, or some entry begins with p and goes on
abbrev pub Place : (List ℕ → Type 0) → List ℕ → Type 0
Place Entry p = (p ≡ []) ⊎ ((g : ℕ) × NextEdge Entry p g)

-- the edges r lead on from where the edges p lead, by a first edge by which no entry that begins with p goes on
pub record Branch (m : Meaning) (Entry : List ℕ → Type 0) (u t d latest : ℕ) (p : List ℕ) (a : ℕ) (r : List ℕ) : Type 0 where
  pub place : Place Entry p
  pub behind : List ℕ
  pub stop : ℕ
  pub instant : ℕ
  pub through : Through m [] u t p behind stop instant
  pub onward : Onward m (λ x. In x behind) (NextEdge Entry p) stop instant d latest a r
