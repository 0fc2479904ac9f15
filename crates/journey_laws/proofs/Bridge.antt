-- The ways of the proofs are the journeys of the definitions.
use Rattle.std.proofs.Common.{◌≡◌, ℕ, ◌↔◌, List, [], ◌∷◌, sym, refl, subst, inl, inr}
use Rattle.networks.specs.Networks.{Meaning}
use Rattle.journeys.specs.Journeys.{In, Differ, Visits, last, Leads, Simple, Detour}
use Rattle.journeys.specs.Rank.{FirstInRank}
use Rattle.journeys.specs.declared.question.Question.{Question}
use Rattle.journey_laws.specs.Ways.{Nothing, Also, Way, Onward}
use Rattle.journey_laws.proofs.Greedy.{any_edge, same_first}

-- the stops that a way visits
pub record Visited (m : Meaning) (S : ℕ → Type 0) (u t d a : ℕ) (es : List ℕ) : Type 0 where
  pub stops : List ℕ
  pub leads : Leads m u t d a es stops
  pub none_shut : (v : ℕ) → In v stops → ¬ S v

module _ (m : Meaning) where
  pub visited : (S : ℕ → Type 0) (u t d a : ℕ) (es : List ℕ) → Way m S u t d a es → Visited m S u t d a es
  visited S u t d a [] (p, q) = record { stops = []; leads = record { visits = q; differ = ((λ h. h), tt); reaches = p }; none_shut = λ x h. absurd h }
  visited S u t d a (e ∷ es) (v, s, st, k, w) = on (visited (Also u S) v s d a es w)
    where
      on : Visited m (Also u S) v s d a es → Visited m S u t d a (e ∷ es)
      on r = record {
        stops = v ∷ r.stops;
        leads = record { visits = (s, st, r.leads.visits); differ = (away, r.leads.differ); reaches = r.leads.reaches };
        none_shut = clear;
      }
        where
          away : ¬ In u (v ∷ r.stops)
          away (inl p) = k (inl (sym p))
          away (inr h) = r.none_shut u h (inl refl)

          clear : (x : ℕ) → In x (v ∷ r.stops) → ¬ S x
          clear x (inl p) sx = k (inr (subst S p sx))
          clear x (inr h) sx = r.none_shut x h (inr sx)

  way_over : (S : ℕ → Type 0) (u t d a : ℕ) (es vs : List ℕ) → Visits m u t es vs a → Differ (u ∷ vs) → ((x : ℕ) → In x vs → ¬ S x) → last u vs ≡ d → Way m S u t d a es
  way_over S u t d a [] [] tr di op re = (re, tr)
  way_over S u t d a [] (v ∷ vs) tr di op re = absurd tr
  way_over S u t d a (e ∷ es) [] tr di op re = absurd tr
  way_over S u t d a (e ∷ es) (v ∷ vs) (s, st, tr) (n, di) op re =
      (v, s, st, here, way_over (Also u S) v s d a es vs tr di further re)
    where
      here : ¬ Also u S v
      here (inl p) = n (inl (sym p))
      here (inr h) = op v (inl refl) h

      further : (x : ℕ) → In x vs → ¬ Also u S x
      further x h (inl p) = n (inr (subst (λ (z : ℕ). In z vs) p h))
      further x h (inr k) = op x (inr h) k

  pub way_of : (S : ℕ → Type 0) (u t d a : ℕ) (es vs : List ℕ) → Leads m u t d a es vs → ((v : ℕ) → In v vs → ¬ S v) → Way m S u t d a es
  way_of S u t d a es vs l op = way_over S u t d a es vs l.visits l.differ op l.reaches

  pub detour_onward : (S B : ℕ → Type 0) (u t d latest a : ℕ) (es : List ℕ) → Detour m S B u t d latest a es ↔ Onward m S B u t d latest a es
  detour_onward S B u t d latest a es = (λ j. there j, λ j. back j)
    where
      there : Detour m S B u t d latest a es → Onward m S B u t d latest a es
      there j = record { way = way_of S u t d a es j.stops j.leads j.none_shut; unbarred = j.unbarred; in_time = j.in_time }

      back : Onward m S B u t d latest a es → Detour m S B u t d latest a es
      back j =
          let r = visited S u t d a es j.way in
          record { stops = r.stops; leads = r.leads; none_shut = r.none_shut; unbarred = j.unbarred; in_time = j.in_time }

  pub first_detour : (S B : ℕ → Type 0) (u t d latest a : ℕ) (es : List ℕ) → FirstInRank (Detour m S B u t d latest) a es ↔ FirstInRank (Onward m S B u t d latest) a es
  first_detour S B u t d latest a es = (
    same_first (Detour m S B u t d latest) (Onward m S B u t d latest) (detour_onward S B u t d latest) a es,
    same_first (Onward m S B u t d latest) (Detour m S B u t d latest) (λ b fs. ((detour_onward S B u t d latest b fs).1, (detour_onward S B u t d latest b fs).0)) a es,
  )

  -- a simple journey of a question is a way with nothing shut and nothing barred
  pub simple_onward : (q : Question) (a : ℕ) (es : List ℕ) → Simple m q a es ↔ Onward m Nothing Nothing q.origin q.start q.destination q.latest a es
  simple_onward q a es = (λ j. there j, λ j. back j)
    where
      there : Simple m q a es → Onward m Nothing Nothing q.origin q.start q.destination q.latest a es
      there j = record {
        way = way_of Nothing q.origin q.start q.destination a es j.stops j.leads (λ v h k. k);
        unbarred = any_edge es;
        in_time = j.in_time;
      }

      back : Onward m Nothing Nothing q.origin q.start q.destination q.latest a es → Simple m q a es
      back j =
          let r = visited Nothing q.origin q.start q.destination a es j.way in
          record { stops = r.stops; leads = r.leads; in_time = j.in_time }

  pub way_of_simple : (q : Question) (a : ℕ) (es : List ℕ) → Simple m q a es → Way m Nothing q.origin q.start q.destination a es
  way_of_simple q a es j = ((simple_onward q a es).0 j).way
