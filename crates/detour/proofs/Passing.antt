-- The edges that leave a stop, tried one by one until one can begin a journey.
use Rattle.std.proofs.Common.{ℕ, ◌+◌, ◌<◌, ◌≢◌, List, [], ◌∷◌, Option, sym, subst, inl, inr, arith}
use Rattle.std.proofs.lemmas.Bool.{cases_eq, cases_lt}
use Rattle.networks.specs.Networks.{Meaning, Lawful}
use Rattle.journey_laws.specs.Ways.{Nothing, Also, Onward, Leading, Usable, Chosen}
use Rattle.journey_laws.specs.Arrivals.{Hop}
use Rattle.journey_laws.proofs.Taking.{same_stop, same_time, below_count}
use Rattle.journey_laws.proofs.Greedy.{usable}
use Rattle.journey_laws.proofs.Choosing.{fewer_onward}
use Rattle.detour.specs.Departing.{or_count, LeastFrom}
use Rattle.detour.proofs.Chains.{leaves_stop}

module _ (m : Meaning) (S B : ℕ → Type 0) (u t d latest : ℕ) where
  -- no edge below n can begin a journey
  abbrev pub NoneBelow : ℕ → Type 0
  NoneBelow n = (f : ℕ) → f < n → ¬ Usable m S B u t d latest f

  pub none_yet : {o : Option ℕ} → LeastFrom m u 0 o → NoneBelow (or_count m o)
  none_yet l f lt k = l.gap f (omega arith) lt (leaves_stop m f k.takes.leads)

  pub none_more : {e : ℕ} {o : Option ℕ} → NoneBelow e → ¬ Usable m S B u t d latest e → LeastFrom m u (e + 1) o → NoneBelow (or_count m o)
  none_more {e} x none l f lt k = elim (cases_lt f e) [
    | inl less ↦ x f less k
    | inr more ↦ elim (cases_eq f e) [
      | inl i ↦ none (subst (Usable m S B u t d latest) i k)
      | inr ne ↦ l.gap f (omega arith) lt (leaves_stop m f k.takes.leads)
    ]
  ]

  module _ (here : S u) where
    narrower : {v s : ℕ} → Leading m (Also u S) v s d latest → Leading m S v s d latest
    narrower {v} {s} (a, es, j) = (a, es, fewer_onward m (Also u S) S Nothing Nothing v s d latest a es (λ x h. elim h [ inl e ↦ inl e | inr k ↦ inr (inr k) ]) (λ e n. n) j)

    wider : {v s : ℕ} → Leading m S v s d latest → Leading m (Also u S) v s d latest
    wider {v} {s} (a, es, j) = (a, es, fewer_onward m S (Also u S) Nothing Nothing v s d latest a es in_all (λ e n. n) j)
      where
        in_all : (x : ℕ) → Also v (Also u S) x → Also v S x
        in_all x (inl e) = inl e
        in_all x (inr (inl e)) = inr (subst S (sym e) here)
        in_all x (inr (inr k)) = inr k

    -- an edge from whose end no journey leads on can begin none
    pub nowhere : {e v s : ℕ} → Hop m (Also u S) B u t e v s → ¬ Leading m S v s d latest → ¬ Usable m S B u t d latest e
    nowhere h none k = none (narrower (rw (same_stop h.takes k.takes, same_time h.takes k.takes) at k.leading))

    pub chosen : {e v s : ℕ} → NoneBelow e → Hop m (Also u S) B u t e v s → Leading m S v s d latest → Chosen m S B u t d latest e v s
    chosen {e} x h l = record {
      takes = h.takes;
      unbarred = h.unbarred;
      not_shut = h.not_shut;
      leading = wider l;
      least = λ f k. elim (cases_lt f e) [ inl less ↦ absurd (x f less k) | inr more ↦ more ];
    }

  -- some edge can begin a journey where there is one
  pub some_edge : Lawful m → u ≢ d → NoneBelow m.count → (a : ℕ) (es : List ℕ) → ¬ Onward m S B u t d latest a es
  some_edge law apart x a [] j = apart j.way.0
  some_edge law apart x a (e ∷ es) j = let k = usable m S B u t d latest a latest e es j j.in_time in x e (below_count law k.takes) k
