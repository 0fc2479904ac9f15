-- A simple journey has fewer edges than there are stops.
use Rattle.std.proofs.Common.{◌≡◌, ℕ, zero, suc, ◌<◌, ◌≤◌, ◌≢◌, List, [], ◌∷◌, length, sym, refl, ap, ◌∙◌, subst, inl, inr, arith}
use native.Mathlib.Decide.{ℕ_discrete}
use Rattle.networks.specs.Networks.{Meaning, Lawful}
use Rattle.journeys.specs.Walking.{Takes}
use Rattle.journeys.specs.Journeys.{In, Differ, Visits}
use Rattle.journey_laws.specs.Ways.{Way}
use Rattle.journey_laws.proofs.Bridge.{visited}
use Rattle.journey_laws.proofs.Taking.{two_stops}

record Removed (n : ℕ) (vs : List ℕ) : Type 0 where
  left : List ℕ
  one_less : length vs ≤ suc (length left)
  differ : Differ left
  old : (x : ℕ) → In x left → In x vs × (x ≢ n)

remove : (n : ℕ) (vs : List ℕ) → Differ vs → Removed n vs
remove n [] di = record { left = []; one_less = omega arith; differ = tt; old = λ x h. absurd h }
remove n (v ∷ vs) (k, di) = at (ℕ_discrete v n) (remove n vs di)
  where
    at : Dec (v ≡ n) → Removed n vs → Removed n (v ∷ vs)
    at (yes p) r = record { left = vs; one_less = omega arith; differ = di; old = λ x h. (inr h, λ q. k (subst (λ (z : ℕ). In z vs) (q ∙ sym p) h)) }
    at (no c) r = record {
      left = v ∷ r.left;
      one_less = let h = r.one_less in omega arith;
      differ = ((λ h. k (r.old v h).0), r.differ);
      old = λ x h. elim h [ inl p ↦ (inl p, λ q. c (sym p ∙ q)) | inr i ↦ (inr (r.old x i).0, (r.old x i).1) ];
    }

pub pigeon : (n : ℕ) (vs : List ℕ) → Differ vs → ((x : ℕ) → In x vs → x < n) → length vs ≤ n
pigeon zero [] di h = omega arith
pigeon zero (v ∷ vs) di h = let k = h v (inl refl) in omega arith
pigeon (suc n) vs di h =
    let r = remove n vs di in
    let k : length r.left ≤ n = pigeon n r.left r.differ (λ x i. below x (h x (r.old x i).0) (r.old x i).1) in
    let l = r.one_less in
    omega arith
  where
    below : (x : ℕ) → x < suc n → x ≢ n → x < n
    below x p q = omega arith

module _ (m : Meaning) (n : ℕ) (below : (u t e v s : ℕ) → Takes m u t e v s → v < n) where
  visits_few : (u t a : ℕ) (es vs : List ℕ) → Visits m u t es vs a → (length es ≡ length vs) × ((x : ℕ) → In x vs → x < n)
  visits_few u t a [] [] tr = (refl, λ x h. absurd h)
  visits_few u t a [] (v ∷ vs) tr = absurd tr
  visits_few u t a (e ∷ es) [] tr = absurd tr
  visits_few u t a (e ∷ es) (v ∷ vs) (s, st, tr) =
      let (l, b) = visits_few v s a es vs tr in
      (ap suc l, λ x h. elim h [ inl p ↦ rw p (below u t e v s st) | inr i ↦ b x i ])

  way_short : (S : ℕ → Type 0) (u t d a : ℕ) (es : List ℕ) → u < n → Way m S u t d a es → length es < n
  way_short S u t d a es le w =
      let r = visited m S u t d a es w in
      let (l, b) = visits_few u t a es r.stops r.leads.visits in
      let k = pigeon n (u ∷ r.stops) r.leads.differ (λ x h. elim h [ inl p ↦ rw p le | inr i ↦ b x i ]) in
      omega (arith, l)

-- over 256 stops a way has at most 255 edges
pub at_most_255 : (m : Meaning) → Lawful m → (S : ℕ → Type 0) (u t d a : ℕ) (es : List ℕ) → u < 256 → Way m S u t d a es → length es ≤ 255
at_most_255 m law S u t d a es le w = let h = way_short m 256 (λ x i e v s k. (two_stops law k).1) S u t d a es le w in omega arith
