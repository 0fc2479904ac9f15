-- Every journey that is no entry leaves the entries at one place.
use Rattle.std.proofs.Common.{◌≡◌, ℕ, ◌≢◌, ◌⊎◌, List, [], ◌∷◌, ◌++◌, sym, refl, ap, ◌∙◌, subst, inl, inr, append-nil}
use mathlib.Core.List.{cons≢nil}
use Rattle.networks.specs.Networks.{Meaning}
use Rattle.journeys.specs.Journeys.{In}
use Rattle.journeys.specs.Rank.{Before, FirstInRank}
use Rattle.journey_laws.specs.Ways.{Nothing, Way, Onward}
use Rattle.journey_laws.specs.Branching.{Through, NextEdge, Place, Branch}
use Rattle.journey_laws.proofs.Ways.{no_longer}
use Rattle.journey_laws.proofs.Greedy.{any_edge}

-- a journey that is no entry
pub record Fresh (m : Meaning) (E : List ℕ → Type 0) (u t d latest a : ℕ) (es : List ℕ) : Type 0 where
  pub journey : Onward m Nothing Nothing u t d latest a es
  pub no_entry : ¬ E es

-- some entry begins with p
abbrev pub Begun : (List ℕ → Type 0) → List ℕ → Type 0
Begun E p = (y : List ℕ) × E (p ++ y)

-- x leaves the entries after p, by f
pub record Parts (E : List ℕ → Type 0) (x p : List ℕ) (f : ℕ) (r : List ℕ) : Type 0 where
  pub is : x ≡ p ++ (f ∷ r)
  pub apart : ¬ NextEdge E p f

-- some entry begins with x, or x leaves the entries after a p of which C holds
abbrev Result : (List ℕ → Type 0) → (List ℕ → Type 0) → List ℕ → Type 0
Result C E x = Begun E x ⊎ ((p : List ℕ) × (f : ℕ) × (r : List ℕ) × Parts E x p f r × C p)

diverge_in : (E : List ℕ → Type 0) → ((p : List ℕ) → Dec (Begun E p)) → (x : List ℕ) → Begun E [] →
    Result (Begun E) E x
diverge_in E dec [] b = inl b
diverge_in E dec (f ∷ x) b = at (dec (f ∷ [])) (λ (b' : Begun E (f ∷ [])). diverge_in (λ y. E (f ∷ y)) (λ p. dec (f ∷ p)) x b')
  where
    on : Result (Begun (λ y. E (f ∷ y))) (λ y. E (f ∷ y)) x → Result (Begun E) E (f ∷ x)
    on (inl h) = inl h
    on (inr (p, g, r, l, h)) = inr (f ∷ p, g, r, record { is = ap (λ (z : List ℕ). f ∷ z) l.is; apart = l.apart }, h)

    at : Dec (Begun E (f ∷ [])) → (Begun E (f ∷ []) → Result (Begun (λ y. E (f ∷ y))) (λ y. E (f ∷ y)) x) → Result (Begun E) E (f ∷ x)
    at (yes h) ih = on (ih h)
    at (no n) ih = inr ([], f, x, record { is = refl; apart = n }, b)

-- p is empty, or some entry begins with it
abbrev pub Touched : (List ℕ → Type 0) → List ℕ → Type 0
Touched E p = (p ≡ []) ⊎ Begun E p

pub diverge : (E : List ℕ → Type 0) → ((p : List ℕ) → Dec (Begun E p)) → (e : ℕ) (x : List ℕ) →
    Result (Touched E) E (e ∷ x)
diverge E dec e x = at (dec [])
  where
    on : Result (Begun E) E (e ∷ x) →
        Result (Touched E) E (e ∷ x)
    on (inl h) = inl h
    on (inr (p, g, r, l, h)) = inr (p, g, r, l, inr h)

    at : Dec (Begun E []) → Result (Touched E) E (e ∷ x)
    at (yes h) = on (diverge_in E dec (e ∷ x) h)
    at (no n) = inr ([], e, x, record { is = refl; apart = λ (y, h). n (e ∷ y, h) }, inl refl)

shift : (E : List ℕ → Type 0) (f : ℕ) (p : List ℕ) → Touched E (f ∷ p) → Begun E (f ∷ p)
shift E f p (inl q) = absurd (cons≢nil q)
shift E f p (inr h) = h

to_next : (E : List ℕ → Type 0) (k f : ℕ) (q : List ℕ) → k ≡ f → Begun E (k ∷ q) → NextEdge E [] f
to_next E k f q e (y, h) = (q ++ y, rw e at h)

pub one_place : (E : List ℕ → Type 0) (p q : List ℕ) (f g : ℕ) (r s : List ℕ) → p ++ (f ∷ r) ≡ q ++ (g ∷ s) →
    Touched E p → ¬ NextEdge E p f → Touched E q → ¬ NextEdge E q g → p ≡ q
one_place E [] [] f g r s e tp np tq nq = refl
one_place E [] (k ∷ q) f g r s e tp np tq nq =
    absurd (np (to_next E k f q (cc) (shift E k q tq)))
one_place E (k ∷ p) [] f g r s e tp np tq nq =
    absurd (nq (to_next E k g p (cc) (shift E k p tp)))
one_place E (k ∷ p) (l ∷ q) f g r s e tp np tq nq =
    let e' : l ≡ k = cc in
    let e'' : p ++ (f ∷ r) ≡ q ++ (g ∷ s) = cc in
    let same : p ≡ q = one_place (λ y. E (k ∷ y)) p q f g r s e'' (inr (shift E k p tp)) np (inr (rw e' at (shift E l q tq))) (rw e' at nq) in
    cc

module _ (m : Meaning) (d : ℕ) where
  pub split : (before : List ℕ) (u t a : ℕ) (p r : List ℕ) → Way m (λ x. In x before) u t d a (p ++ r) →
      (after : List ℕ) × (v : ℕ) × (i : ℕ) × Through m before u t p after v i × Way m (λ x. In x after) v i d a r
  split before u t a [] r w = (before, u, t, (refl, refl, refl), w)
  split before u t a (e ∷ p) r (v, s, st, k, w) =
      let (after, x, i, al, y) = split (u ∷ before) v s a p r w in
      (after, x, i, (v, s, st, k, al), y)

  pub join : (before after : List ℕ) (u t v i a : ℕ) (p r : List ℕ) → Through m before u t p after v i → Way m (λ x. In x after) v i d a r →
      Way m (λ x. In x before) u t d a (p ++ r)
  join before after u t v i a [] r (p, q, s) w = rw (p, q, s) at w
  join before after u t v i a (e ∷ p) r (x, s, st, k, al) w = (x, s, st, k, join (u ∷ before) after x s v i a p r al w)

module _ (m : Meaning) (E : List ℕ → Type 0) (u t d latest : ℕ) (apart : u ≢ d)
    (ways : (x : List ℕ) → E x → (b : ℕ) × Way m Nothing u t d b x) where
  -- every unlisted journey leaves the entries somewhere
  pub covers : ((p : List ℕ) → Dec (Begun E p)) → (a : ℕ) (x : List ℕ) → Fresh m E u t d latest a x →
      (p : List ℕ) × (r : List ℕ) × (x ≡ p ++ r) × Branch m E u t d latest p a r
  covers dec a [] j = absurd (apart j.journey.way.0)
  covers dec a (e ∷ x) j = at (diverge E dec e x)
    where
      no_entry : (y : List ℕ) → E ((e ∷ x) ++ y) → ⊥
      no_entry [] h = j.no_entry (rw append-nil at h)
      no_entry (g ∷ y) h = let (b, w) = ways _ h in no_longer m Nothing u t d a b (e ∷ x) g y j.journey.way w

      place : (p : List ℕ) (f : ℕ) (r : List ℕ) → Way m Nothing u t d a (p ++ (f ∷ r)) → Touched E p → Place E p
      place p f r w (inl q) = inl q
      place p f r w (inr ([], h)) = let (b, w') = ways p (rw append-nil at h) in absurd (no_longer m Nothing u t d b a p f r w' w)
      place p f r w (inr (g ∷ y, h)) = inr (g, (y, h))

      at : Result (Touched E) E (e ∷ x) → (p : List ℕ) × (r : List ℕ) × ((e ∷ x) ≡ p ++ r) × Branch m E u t d latest p a r
      at (inl (y, h)) = absurd (no_entry y h)
      at (inr (p, f, r, l, tp)) =
          let w : Way m Nothing u t d a (p ++ (f ∷ r)) = subst (λ (z : List ℕ). Way m Nothing u t d a z) l.is j.journey.way in
          let (after, v, i, al, y) = split m d [] u t a p (f ∷ r) w in (
            p,
            f ∷ r,
            l.is,
            record {
              place = place p f r w tp;
              behind = after;
              stop = v;
              instant = i;
              through = al;
              onward = record { way = y; unbarred = l.apart; in_time = j.journey.in_time };
            },
          )

  -- a beginning that goes on in an entry is not there yet
  pub not_there : (p after : List ℕ) (v i : ℕ) → Through m [] u t p after v i → Place E p → v ≢ d
  not_there p after v i al (inl q) e = apart (at_start (rw q at al) ∙ e)
    where
      at_start : Through m [] u t [] after v i → u ≡ v
      at_start (_, h, _) = sym h
  not_there p after v i al (inr (g, (y, h))) e =
      let (b, w) = ways _ h in
      let here : Way m Nothing u t d i (p ++ []) = join m d [] after u t v i i p [] al (e, refl) in
      no_longer m Nothing u t d i b p g y (rw append-nil at here) w

  -- and what leaves them is unlisted
  pub sound : (p : List ℕ) (a : ℕ) (r : List ℕ) → Branch m E u t d latest p a r → Fresh m E u t d latest a (p ++ r)
  sound p a [] j = absurd (not_there p j.behind j.stop j.instant j.through j.place j.onward.way.0)
  sound p a (f ∷ r) j = record {
    journey = record {
      way = join m d [] j.behind u t j.stop j.instant a p (f ∷ r) j.through j.onward.way;
      unbarred = any_edge (p ++ (f ∷ r));
      in_time = j.onward.in_time;
    };
    no_entry = λ h. j.onward.unbarred (r, h);
  }

  -- what no branch is before is the first of the unlisted
  pub first_of_branches : ((p : List ℕ) → Dec (Begun E p)) → (a : ℕ) (x : List ℕ) → Fresh m E u t d latest a x →
      ((p : List ℕ) (b : ℕ) (r : List ℕ) → Branch m E u t d latest p b r → ¬ Before b (p ++ r) a x) →
      FirstInRank (Fresh m E u t d latest) a x
  first_of_branches dec a x j best = record {
    member = j;
    none_before = λ b y k l. let (p, r, e, br) = covers dec b y k in best p b r br (rw e at l);
  }
