-- From place to place: what an offer makes of the best journey, along an entry, and from entry to entry.
use Rattle.std.proofs.Common.{◌≡◌, ℕ, ◌+◌, ◌<◌, ◌≤◌, ◌⊎◌, List, [], ◌∷◌, ◌++◌, length, get_or, take, drop, Some, None, Option, sym, refl, ap, ◌∙◌, inl, inr, arith}
use native.Mathlib.Decide.{dec_lt}
use Rattle.std.specs.Option.{option_map_or}
use Rattle.networks.specs.Networks.{Meaning}
use Rattle.journeys.specs.declared.question.Question.{Question}
use Rattle.journeys.specs.Journeys.{In}
use Rattle.journey_laws.specs.Branching.{Place}
use Rattle.journey_laws.specs.Theorems.{SimpleEntries}
use Rattle.journey_laws.proofs.Nexts.{tested}
use Rattle.journey_laws.proofs.Ranks.{before_irrefl}
use Rattle.journey_laws.proofs.Entries.{next_is_least, none_unlisted}
use Rattle.entries.specs.declared.entry.Entry.{Entry}
use Rattle.entries.specs.declared.entry.Journey.{Journey}
use Rattle.entries.specs.Listing.{edges_of, all_edges}
use Rattle.entries.proofs.Listed.{in_more}
use Rattle.branches.specs.Bests.{Better, FirstLeaving, Unsurpassed, Beats, Progress, Beginning, First}
use Rattle.branches.proofs.Advancing.{whole}
use Rattle.branches.proofs.Detours.{before_le}

module _ (m : Meaning) (q : Question) (ys : List (List ℕ)) where
  -- the latest arrival of what can rank before the best
  pub until_le : (best : Option Journey) → Unsurpassed m q ys best → option_map_or (λ j. j.arrival) best q.latest ≤ q.latest
  until_le None f = omega arith
  until_le (Some x) f = let l = f.simple.in_time in omega arith

  pub none_left : (p : List ℕ) (best : Option Journey) → FirstLeaving m q ys p (option_map_or (λ j. j.arrival) best q.latest) None → Unsurpassed m q ys best → Progress m q ys (λ x. x ≡ p) best best
  none_left p best h u = record { unlisted = u; beats = λ x e. rw e (on best h); keeps = λ x k. k }
    where
      on : (o : Option Journey) → FirstLeaving m q ys p (option_map_or (λ j. j.arrival) o q.latest) None → Beats m q ys p o
      on None h = λ a r j. let l = h a r j in let k = j.onward.in_time in omega arith
      on (Some x) h = λ a r j k. let l = h a r j in let n = before_le a x.arrival (p ++ r) x.edges.items k in omega arith

  pub one_left : (p : List ℕ) (by : ℕ) (x : Journey) (best : Option Journey) (new : Journey) → FirstLeaving m q ys p by (Some x) → Better x best new → Unsurpassed m q ys best →
      Progress m q ys (λ z. z ≡ p) best (Some new)
  one_left p by x None new (l, b) e u =
      rw e (record { unlisted = l; beats = λ z h. rw h (b x.arrival x.edges.items (before_irrefl x.arrival x.edges.items)); keeps = λ z h a r j k. h a r j })
  one_left p by x (Some y) new (l, b) (inl (e, k)) u =
      rw e (record { unlisted = l; beats = λ z h. rw h (b x.arrival x.edges.items (before_irrefl x.arrival x.edges.items)); keeps = λ z h a r j i. h a r j (k a (z ++ r) i) })
  one_left p by x (Some y) new (l, b) (inr (e, k)) u = rw e (record { unlisted = u; beats = λ z h. rw h (b y.arrival y.edges.items k); keeps = λ z h. h })

  pub then : (D E F : List ℕ → Type 0) (a b c : Option Journey) → Progress m q ys D a b → Progress m q ys E b c → ((p : List ℕ) → F p → D p ⊎ E p) → Progress m q ys F a c
  then D E F a b c x y f = record {
    unlisted = y.unlisted;
    beats = λ p h. elim (f p h) [ inl k ↦ y.keeps p (x.beats p k) | inr k ↦ y.beats p k ];
    keeps = λ p h. y.keeps p (x.keeps p h);
  }

  -- along an entry
  module _ (y : List ℕ) where
    pub none_yet : (a : Option Journey) → Unsurpassed m q ys a → Progress m q ys (Beginning y 0) a a
    none_yet a f = record { unlisted = f; beats = λ p (j, l, e). absurd (omega arith); keeps = λ p h. h }

    one_further : (k : ℕ) (p : List ℕ) → Beginning y (k + 1) p → Beginning y k p ⊎ (p ≡ take k y)
    one_further k p (j, l, e) = at (dec_lt j k)
      where
        at : Dec (j < k) → Beginning y k p ⊎ (p ≡ take k y)
        at (yes b) = inl (j, b, e)
        at (no b) = let d : j ≡ k = omega arith in inr (e ∙ ap (λ (z : ℕ). take z y) d)

    -- a beginning that is worked out is passed over
    pub passed : (k : ℕ) (a b : Option Journey) → Beats m q ys (take k y) a → Progress m q ys (Beginning y k) a b → Progress m q ys (Beginning y (k + 1)) a b
    passed k a b h x = record { unlisted = x.unlisted; beats = λ p d. elim (one_further k p d) [ inl j ↦ x.beats p j | inr e ↦ rw e (x.keeps (take k y) h) ]; keeps = x.keeps }

    pub branched : (k : ℕ) (a b c : Option Journey) → Progress m q ys (Beginning y k) a b → Progress m q ys (λ p. p ≡ take k y) b c → Progress m q ys (Beginning y (k + 1)) a c
    branched k a b c x z = then (Beginning y k) (λ p. p ≡ take k y) (Beginning y (k + 1)) a b c x z (one_further k)

    pub place_at : (k : ℕ) → In y ys → k < length y → Place (λ z. In z ys) (take k y)
    place_at k h lt = inr (get_or y k 0, (drop (k + 1) y, rw (whole m q y k lt) h))

  -- from entry to entry
  pub next_entry : (es : List Entry) (i : ℕ) (e : Entry) (a b c : Option Journey) → i < length es → e ≡ get_or es i e → Progress m q ys (Place (λ z. In z (all_edges (take i es)))) a b →
      Progress m q ys (Beginning (edges_of e) (length (edges_of e))) b c → Progress m q ys (Place (λ z. In z (all_edges (take (i + 1) es)))) a c
  next_entry es i e a b c lt is x y = then (Place (λ z. In z (all_edges (take i es)))) (Beginning (edges_of e) (length (edges_of e))) (Place (λ z. In z (all_edges (take (i + 1) es)))) a b c x y at
    where
      here : (p : List ℕ) (g : ℕ) (r : List ℕ) → p ++ (g ∷ r) ≡ edges_of e → Beginning (edges_of e) (length (edges_of e)) p
      here p g r k = let (f, l, h) = tested p g r in rw (← k) (length p, l, sym f)

      at : (p : List ℕ) → Place (λ z. In z (all_edges (take (i + 1) es))) p → Place (λ z. In z (all_edges (take i es))) p ⊎ Beginning (edges_of e) (length (edges_of e)) p
      at p (inl k) = inl (inl k)
      at p (inr (g, (r, h))) =
          elim ((in_more es i e lt is (p ++ (g ∷ r))) h) [
            | inl k ↦ inl (inr (g, (r, k)))
            | inr k ↦ inr (here p g r k)
          ]

  -- where all places are done, the best is the first in rank of the unlisted
  pub first_of_all : SimpleEntries m q ys → (best : Option Journey) → Progress m q ys (Place (λ z. In z ys)) None best → First m q ys best
  first_of_all s None g = none_unlisted m q ys s (g.beats [] (inl refl)) (λ y i k l. g.beats (take k y) (place_at y k i l))
  first_of_all s (Some x) g = next_is_least m q ys s x.arrival x.edges.items g.unlisted (g.beats [] (inl refl)) (λ y i k l. g.beats (take k y) (place_at y k i l))
