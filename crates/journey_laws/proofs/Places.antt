-- The search for the next journey goes through the places of the entries.
use Rattle.std.proofs.Common.{◌≡◌, ℕ, ◌<◌, ◌≢◌, ◌⊎◌, List, [], ◌∷◌, ◌++◌, length, take, refl, ap, ap₂, inl, inr, arith}
use mathlib.Core.List.{cons≢nil}
use native.Mathlib.Decide.{ℕ_discrete}
use Rattle.networks.specs.Networks.{Meaning}
use Rattle.journeys.specs.Walking.{Takes}
use Rattle.journeys.specs.Journeys.{In}
use Rattle.journeys.specs.Rank.{Before, FirstInRank}
use Rattle.journey_laws.specs.Ways.{Nothing, Way, Onward}
use Rattle.journey_laws.specs.Branching.{Through, NextEdge, Place, Branch}
use Rattle.journey_laws.proofs.Ranks.{before_under, before_trans, rank_total}
use Rattle.journey_laws.proofs.Ways.{one_arrival}
use Rattle.journey_laws.proofs.Taking.{same_stop, same_time}
use Rattle.journey_laws.proofs.Diverging.{Begun, Fresh, covers, first_of_branches}

-- whether some entry of a list begins with p
begins : (p y : List ℕ) → Dec ((r : List ℕ) × (p ++ r ≡ y))
begins [] y = yes (y, refl)
begins (e ∷ p) [] = no (λ (r, h). cons≢nil h)
begins (e ∷ p) (f ∷ y) = both (ℕ_discrete e f) (begins p y)
  where
    both : Dec (e ≡ f) → Dec ((r : List ℕ) × (p ++ r ≡ y)) → Dec ((r : List ℕ) × ((e ∷ p) ++ r ≡ f ∷ y))
    both (yes q) (yes (r, h)) = yes (r, cc)
    both (no n) k = no (λ (r, h). n (cc))
    both (yes q) (no n) = no (λ (r, h). n (r, cc))

pub begun? : (ys : List (List ℕ)) (p : List ℕ) → Dec (Begun (λ y. In y ys) p)
begun? [] p = no (λ (y, h). h)
begun? (y ∷ ys) p = either (begins p y) (begun? ys p)
  where
    either : Dec ((r : List ℕ) × (p ++ r ≡ y)) → Dec (Begun (λ z. In z ys) p) → Dec (Begun (λ z. In z (y ∷ ys)) p)
    either (yes (r, h)) k = yes (r, inl h)
    either (no n) (yes (r, h)) = yes (r, inr h)
    either (no n) (no k) = no (λ (r, h). elim h [ inl q ↦ n (r, q) | inr q ↦ k (r, q) ])

take_front : (p : List ℕ) (g : ℕ) (y : List ℕ) → (take (length p) (p ++ (g ∷ y)) ≡ p) × (length p < length (p ++ (g ∷ y)))
take_front [] g y = (refl, omega arith)
take_front (e ∷ p) g y = let (q, l) = take_front p g y in (ap (λ (z : List ℕ). e ∷ z) q, omega arith)

-- two branches at one place: only the first in rank counts
pub place_done : (m : Meaning) (S B : ℕ → Type 0) (u t d latest : ℕ) (p : List ℕ) (a b c : ℕ) (x r s : List ℕ) →
    FirstInRank (Onward m S B u t d latest) b r → ¬ Before b (p ++ r) a x → Onward m S B u t d latest c s → ¬ Before c (p ++ s) a x
place_done m S B u t d latest p a b c x r s f n j l = at (rank_total m S u t d b c r s f.member.way j.way)
  where
    at : Before b r c s ⊎ ((r ≡ s) ⊎ Before c s b r) → ⊥
    at (inl k) = n (before_trans b c a (p ++ r) (p ++ s) x (before_under p b c r s k) l)
    at (inr (inl q)) = n (rw (← q, ← one_arrival m S u t d b c r f.member.way (rw (← q) at j.way)) at l)
    at (inr (inr k)) = f.none_before c s j k

pub one_through : (m : Meaning) (before after after' : List ℕ) (u t v v' i i' : ℕ) (p : List ℕ) →
    Through m before u t p after v i → Through m before u t p after' v' i' → (after' ≡ after) × (v' ≡ v) × (i' ≡ i)
one_through m before after after' u t v v' i i' [] (x, y, z) (x', y', z') = (cc, cc, cc)
one_through m before after after' u t v v' i i' (e ∷ p) (w, s, st, k, al) (w', s', st', k', al') =
    one_through m (u ∷ before) after after' w s v v' i i' p al (rw (same_stop st st', same_time st st') at al')

pub through_more : (m : Meaning) (before after : List ℕ) (u t v i e w s : ℕ) (p : List ℕ) →
    Through m before u t p after v i → Takes m v i e w s → ¬ In w (v ∷ after) → Through m before u t (p ++ (e ∷ [])) (v ∷ after) w s
through_more m before after u t v i e w s [] (x, y, z) st k =
    (w, s, rw (y, z) at st, rw (x, y) at k, (ap₂ ◌∷◌ y x, refl, refl))
through_more m before after u t v i e w s (f ∷ p) (x, r, st', k', al) st k =
    (x, r, st', k', through_more m (u ∷ before) after x r v i e w s p al st k)

module _ (m : Meaning) (ys : List (List ℕ)) (u t d latest : ℕ) where
  abbrev pub Leaving : List ℕ → ℕ → List ℕ → Type 0
  Leaving = Branch m (λ y. In y ys) u t d latest

  -- no journey that leaves the entries after p ranks before x
  abbrev pub Beaten : ℕ → List ℕ → List ℕ → Type 0
  Beaten a x p = (b : ℕ) (r : List ℕ) → Leaving p b r → ¬ Before b (p ++ r) a x

  -- the detour taken at a place beats all that leaves there
  pub place_beaten : (a : ℕ) (x p after : List ℕ) (v i : ℕ) → Through m [] u t p after v i →
      (b : ℕ) (r : List ℕ) → FirstInRank (Onward m (λ z. In z after) (NextEdge (λ y. In y ys) p) v i d latest) b r → ¬ Before b (p ++ r) a x → Beaten a x p
  place_beaten a x p after v i al b r f n c s j =
      place_done m (λ z. In z after) (NextEdge (λ y. In y ys) p) v i d latest p a b c x r s f n (on (one_through m [] after j.behind u t v j.stop i j.instant p al j.through))
    where
      on : (j.behind ≡ after) × (j.stop ≡ v) × (j.instant ≡ i) → Onward m (λ z. In z after) (NextEdge (λ y. In y ys) p) v i d latest c s
      on (x₁, x₂, x₃) = rw (x₁, x₂, x₃) at j.onward

  module _ (apart : u ≢ d) (ways : (x : List ℕ) → In x ys → (b : ℕ) × Way m Nothing u t d b x) where
    at_places : (P : List ℕ → Type 0) → P [] → ((y : List ℕ) → In y ys → (k : ℕ) → k < length y → P (take k y)) → (p : List ℕ) → Place (λ y. In y ys) p → P p
    at_places P z h p (inl q) = rw q z
    at_places P z h p (inr (g, (y, k))) = let (q, l) = take_front p g y in rw q at (h (p ++ (g ∷ y)) k (length p) l)

    -- the loop over all entries and all their places finds the first in rank of the unlisted
    pub next_found : (a : ℕ) (x : List ℕ) → Fresh m (λ y. In y ys) u t d latest a x → Beaten a x [] →
        ((y : List ℕ) → In y ys → (k : ℕ) → k < length y → Beaten a x (take k y)) → FirstInRank (Fresh m (λ y. In y ys) u t d latest) a x
    next_found a x j z h =
        first_of_branches m (λ y. In y ys) u t d latest apart ways (begun? ys) a x j
        (λ p b r br. at_places (Beaten a x) z h p br.place b r br)

    -- and where it finds none, there is none
    pub none_left : ((b : ℕ) (r : List ℕ) → ¬ Leaving [] b r) →
        ((y : List ℕ) → In y ys → (k : ℕ) → k < length y → (b : ℕ) (r : List ℕ) → ¬ Leaving (take k y) b r) →
        (a : ℕ) (x : List ℕ) → ¬ Fresh m (λ y. In y ys) u t d latest a x
    none_left z h a x j =
        let (p, r, e, br) = covers m (λ y. In y ys) u t d latest apart ways (begun? ys) a x j in
        at_places (λ q. (b : ℕ) (s : List ℕ) → ¬ Leaving q b s) z h p br.place a r br
