-- A journey that is chosen edge by edge is the first in rank.
use Rattle.std.proofs.Common.{◌≡◌, ℕ, ◌≤◌, ◌↔◌, List, [], ◌∷◌, ◌++◌, Some, refl, subst, inl, inr, append_assoc, append-nil, le_refl, arith}
use Rattle.networks.specs.Networks.{Meaning}
use Rattle.journeys.specs.Journeys.{Unbarred}
use Rattle.journeys.specs.Rank.{Before, FirstInRank}
use Rattle.journey_laws.specs.Ways.{Nothing, Also, Way, Onward, Leading, Chosen}
use Rattle.journey_laws.specs.Arrivals.{Found, Earliest}
use Rattle.journey_laws.proofs.Ways.{no_return, fewer_shut}
use Rattle.journey_laws.proofs.Greedy.{greedy, begun_by, same_first}

-- other words for the stops that are shut and the edges that are barred
module _ (m : Meaning) where
  pub fewer_onward : (R S A B : ℕ → Type 0) (u t d latest a : ℕ) (es : List ℕ) → ((x : ℕ) → Also u S x → Also u R x) → ((e : ℕ) → B e → A e) →
      Onward m R A u t d latest a es → Onward m S B u t d latest a es
  fewer_onward R S A B u t d latest a es f g j = record { way = way_of es j.way; unbarred = bar_of es j.unbarred; in_time = j.in_time }
    where
      way_of : (es : List ℕ) → Way m R u t d a es → Way m S u t d a es
      way_of [] w = w
      way_of (e ∷ es) (v, s, st, n, w) = (v, s, st, (λ h. n (f v h)), fewer_shut m (Also u S) (Also u R) v s d a es f w)

      bar_of : (es : List ℕ) → Unbarred A es → Unbarred B es
      bar_of [] h = tt
      bar_of (e ∷ es) h = λ k. h (g e k)

  pub same_onward : (R S A B : ℕ → Type 0) (u t d latest : ℕ) → ((x : ℕ) → Also u R x ↔ Also u S x) → ((e : ℕ) → A e ↔ B e) →
      (a : ℕ) (es : List ℕ) → Onward m R A u t d latest a es ↔ Onward m S B u t d latest a es
  same_onward R S A B u t d latest f g a es =
      (fewer_onward R S A B u t d latest a es (λ x. (f x).1) (λ e. (g e).1), fewer_onward S R B A u t d latest a es (λ x. (f x).0) (λ e. (g e).0))

  -- a journey to where one stands has no edge
  at_once : (S B : ℕ → Type 0) (d t latest a : ℕ) (es : List ℕ) → Onward m S B d t d latest a es → (t ≡ a) × (es ≡ [])
  at_once S B d t latest a [] j = (j.way.1, refl)
  at_once S B d t latest a (e ∷ es) j = let (v, s, st, k, w) = j.way in absurd (no_return m (Also d S) v s d a es (inl refl) (λ p. k (inl p)) w)

  -- who stands at the destination has arrived
  pub here_leads : (S : ℕ → Type 0) (d t latest : ℕ) → t ≤ latest ↔ Leading m S d t d latest
  here_leads S d t latest = ((λ le. (t, [], record { way = (refl, refl); unbarred = tt; in_time = le })), back)
    where
      back : Leading m S d t d latest → t ≤ latest
      back (a, es, j) = let (e, _) = at_once S Nothing d t latest a es j in let h = j.in_time in omega arith

  pub arrived : (S B : ℕ → Type 0) (d t latest : ℕ) → t ≤ latest → FirstInRank (Onward m S B d t d latest) t []
  arrived S B d t latest le = record { member = record { way = (refl, refl); unbarred = tt; in_time = le }; none_before = λ b fs j h. no_other b fs (at_once S B d t latest b fs j) h }
    where
      no_other : (b : ℕ) (fs : List ℕ) → (t ≡ b) × (fs ≡ []) → ¬ Before b fs t []
      no_other b fs (p, q) (inl h) = omega arith
      no_other b fs (p, q) (inr (_, h)) = rw q at h

-- the edges p are chosen; whatever is the first in rank from stop v at instant i on makes the first in rank of the whole, at the least arrival
pub record Choosing (m : Meaning) (whole : ℕ → List ℕ → Type 0) (d least : ℕ) (p : List ℕ) (S B : ℕ → Type 0) (v i : ℕ) : Type 0 where
  pub goes_on : (b : ℕ) × (r : List ℕ) × Onward m S B v i d least b r
  pub no_sooner : (b : ℕ) (r : List ℕ) → Onward m S B v i d least b r → least ≤ b
  pub leads_on : (b : ℕ) (r : List ℕ) → FirstInRank (Onward m S B v i d least) b r → FirstInRank whole least (p ++ r)

module _ (m : Meaning) where
  -- nothing is chosen yet
  pub choose_start : (S B : ℕ → Type 0) (u t d a : ℕ) → Earliest m S B u t d a → Choosing m (Onward m S B u t d a) d a [] S B u t
  choose_start S B u t d a f = record {
    goes_on = (a, f.arrives.0, f.arrives.1);
    no_sooner = f.least;
    leads_on = λ b r g. subst (λ (x : ℕ). FirstInRank (Onward m S B u t d a) x r) (same b r g) g;
  }
    where
      same : (b : ℕ) (r : List ℕ) → FirstInRank (Onward m S B u t d a) b r → b ≡ a
      same b r g = let h = f.least b r g.member in let l = g.member.in_time in omega arith

  -- one edge more
  pub choose_step : (whole : ℕ → List ℕ → Type 0) (d A : ℕ) (p : List ℕ) (S B : ℕ → Type 0) (v i : ℕ) → Choosing m whole d A p S B v i →
      (e w s : ℕ) → Chosen m S B v i d A e w s → Choosing m whole d A (p ++ (e ∷ [])) (Also v S) Nothing w s
  choose_step whole d A p S B v i c e w s k = record {
    goes_on = k.leading;
    no_sooner = λ b r j. c.no_sooner b (e ∷ r) (begun_by m S B v i d A b A e w s r k.unbarred k.takes k.not_shut (le_refl A) j);
    leads_on = λ b r f. rw append_assoc (c.leads_on A (e ∷ r) (greedy m S B v i d A A (le_refl A) c.no_sooner e w s k b r f));
  }

  -- other words for what is shut and barred
  pub choose_same : (whole : ℕ → List ℕ → Type 0) (d A : ℕ) (p : List ℕ) (R S C B : ℕ → Type 0) (v i : ℕ) →
      ((x : ℕ) → Also v R x ↔ Also v S x) → ((e : ℕ) → C e ↔ B e) → Choosing m whole d A p R C v i → Choosing m whole d A p S B v i
  choose_same whole d A p R S C B v i f g c =
      let same = same_onward m R S C B v i d A f g in
      let (b, r, j) = c.goes_on in
      record {
        goes_on = (b, r, (same b r).0 j);
        no_sooner = λ x fs k. c.no_sooner x fs ((same x fs).1 k);
        leads_on = λ x fs k. c.leads_on x fs (same_first (Onward m S B v i d A) (Onward m R C v i d A) (λ a es. ((same a es).1, (same a es).0)) x fs k);
      }

  -- all is chosen
  pub choose_end : (whole : ℕ → List ℕ → Type 0) (d A : ℕ) (p : List ℕ) (S B : ℕ → Type 0) (i : ℕ) → Choosing m whole d A p S B d i → FirstInRank whole A p
  choose_end whole d A p S B i c =
      let (b, r, j) = c.goes_on in
      let h = j.in_time in
      let (e, _) = at_once m S B d i A b r j in
      rw append-nil at (c.leads_on i [] (arrived m S B d i A (omega arith)))

-- what a pass finds that ends with no arrival but the least
module _ (m : Meaning) (S B : ℕ → Type 0) (u t d latest a : ℕ) (f : Found m S B u t d latest 0 (Some a)) where
  least_of_all : (b : ℕ) (es : List ℕ) → Onward m S B u t d latest b es → a ≤ b
  least_of_all b es j = elim (f.2 b es j) [ inl h ↦ h | inr h ↦ omega arith ]

  -- the first of those that arrive by the earliest arrival is the first of all
  pub first_of_all : (es : List ℕ) → FirstInRank (Onward m S B u t d a) a es → FirstInRank (Onward m S B u t d latest) a es
  first_of_all es g = record {
    member = record { way = g.member.way; unbarred = g.member.unbarred; in_time = f.1 };
    none_before = no_better;
  }
    where
      no_better : (b : ℕ) (fs : List ℕ) → Onward m S B u t d latest b fs → ¬ Before b fs a es
      no_better b fs j (inl h) = let k = least_of_all b fs j in omega arith
      no_better b fs j (inr (q, h)) = g.none_before b fs (record { way = j.way; unbarred = j.unbarred; in_time = omega arith }) (inr (q, h))
