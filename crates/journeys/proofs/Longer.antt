-- A walk that goes on by one edge.
use Rattle.std.proofs.Common.{ℕ, List, [], ◌∷◌, ◌++◌, Some, Option, refl}
use Rattle.networks.specs.Networks.{Meaning}
use Rattle.journeys.specs.Walking.{Takes, Stands, Along}

pub longer : (m : Meaning) (here : Option ℕ) (t : ℕ) (es : List ℕ) (there : Option ℕ) (s : ℕ) (u e v i : ℕ) →
    Along m here t es there s → Stands there u → Takes m u s e v i → Along m here t (es ++ (e ∷ [])) (Some v) i
longer m here t [] there s u e v i (p, q) h k = (u, v, i, rw p h, rw q k, (refl, refl))
longer m here t (f ∷ es) there s u e v i (a, b, c, p, q, r) h k = (a, b, c, p, q, longer m (Some b) c es there s u e v i r h k)
