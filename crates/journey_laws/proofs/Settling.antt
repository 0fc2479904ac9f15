-- What a pass over the stops, the nearest first, keeps true, and what it finds.
use Rattle.std.proofs.Common.{◌≡◌, ℕ, zero, suc, ◌+◌, ◌<◌, ◌≤◌, Bool, true, false, cond, ◌≢◌, ◌⊎◌, List, [], ◌∷◌, ◌++◌, Some, None, sym, refl, ap, ◌∙◌, subst, inl, inr, le_trans, arith}
use Rattle.std.proofs.lemmas.Bool.{cases_eq, cases_Bool, both_ways}
use Rattle.networks.specs.Networks.{Meaning, Lawful}
use Rattle.journeys.specs.Walking.{Takes}
use Rattle.journey_laws.specs.Ways.{Nothing, Also, Way, Walk, Onward}
use Rattle.journey_laws.specs.Arrivals.{Hop, Reached, Relaxed, Nearest, Settles, Found}
use Rattle.journey_laws.proofs.Taking.{arrives_after, sooner, below_count, two_stops}
use Rattle.journey_laws.proofs.Greedy.{onward_of_walk}

-- the arrival at a stop that no walk has reached yet
abbrev pub far : ℕ
far = 4294967295

pub record Front (m : Meaning) (S B : ℕ → Type 0) (u t : ℕ) (arrival : ℕ → ℕ) (settled : ℕ → Bool) : Type 0 where
  -- each arrival is that of a walk
  pub reached : (y : ℕ) → y < 256 → arrival y < far → Reached m S B u t y (arrival y)
  -- the edges that leave the start were tried
  pub seeds : (e y a : ℕ) → Hop m S B u t e y a → arrival y ≤ a
  -- the edges that leave a settled stop were tried
  pub steps : (x e y a : ℕ) → x < 256 → settled x ≡ true → Hop m S Nothing x (arrival x) e y a → arrival y ≤ a
  -- no unsettled stop has an earlier arrival than a settled one
  pub order : (x y : ℕ) → x < 256 → y < 256 → settled x ≡ true → settled y ≡ false → arrival x ≤ arrival y

walk_more : (m : Meaning) (S : ℕ → Type 0) (v s x b e y a : ℕ) (es : List ℕ) → Walk m S v s x b es → Takes m x b e y a → ¬ S y → Walk m S v s y a (es ++ (e ∷ []))
walk_more m S v s x b e y a [] (p, q) st k = (y, a, rw (← p, ← q) at st, k, (refl, refl))
walk_more m S v s x b e y a (f ∷ es) (w, r, st', k', z) st k = (w, r, st', k', walk_more m S w r x b e y a es z st k)

module _ (m : Meaning) (law : Lawful m) (S B : ℕ → Type 0) (u t : ℕ) where
  -- the edges that leave the start were tried, and no stop is settled
  pub front_start : (old arrival : ℕ → ℕ) (settled : ℕ → Bool) → ((y : ℕ) → y < 256 → old y ≡ far) → ((y : ℕ) → settled y ≡ false) →
      Relaxed m S B u t m.count old arrival → Front m S B u t arrival settled
  front_start old arrival settled start none r = record {
    reached = λ y hy lt. elim (r.from y) [
      | inl same ↦ absurd (omega (arith, same, start y hy))
      | inr h ↦ (h.0, y, arrival y, [], h.1, (refl, refl))
    ];
    seeds = λ e y a h. r.each e y a (below_count law h.takes) h;
    steps = λ x e y a hx s h. absurd (both_ways _ (none x) s);
    order = λ x y hx hy s f. absurd (both_ways _ (none x) s);
  }

  -- the nearest unsettled stop x is settled, and the edges that leave it are tried
  module _ (arrival new : ℕ → ℕ) (settled next : ℕ → Bool) (x latest : ℕ) (hx : x < 256) (f : Front m S B u t arrival settled) (near : Nearest arrival settled latest (Some x))
      (hl : latest < far) (r : Relaxed m S Nothing x (arrival x) m.count arrival new) (s : Settles settled next x) where
    was : (y : ℕ) → next y ≡ true → (y ≡ x) ⊎ (settled y ≡ true)
    was y h = elim (cases_eq y x) [ inl e ↦ inl e | inr ne ↦ inr (sym (s.rest y ne) ∙ h) ]

    still : (y : ℕ) → next y ≡ false → settled y ≡ false
    still y h = elim (cases_eq y x) [
      | inl e ↦ absurd (both_ways _ h (ap next e ∙ s.here))
      | inr ne ↦ sym (s.rest y ne) ∙ h
    ]

    before : (y : ℕ) → y < 256 → next y ≡ true → arrival y ≤ arrival x
    before y hy h = elim (was y h) [ inl e ↦ omega (arith, ap arrival e) | inr d ↦ f.order y x hy hx d near.0 ]

    late : (y : ℕ) → (new y ≡ arrival y) ⊎ (arrival x ≤ new y)
    late y = elim (r.from y) [ inl e ↦ inl e | inr h ↦ inr (arrives_after law h.1.takes) ]

    stays : (y : ℕ) → y < 256 → next y ≡ true → new y ≡ arrival y
    stays y hy h = elim (late y) [ inl e ↦ e | inr le ↦ omega (arith, le, r.lower y, before y hy h) ]

    longer : (e y a : ℕ) → Hop m S Nothing x (arrival x) e y a → Reached m S B u t x (arrival x) → Reached m S B u t y a
    longer e y a h (e₁, v, i, es, k, w) = (e₁, v, i, es ++ (e ∷ []), k, walk_more m S v i x (arrival x) e y a es w h.takes h.not_shut)

    pub front_more : Front m S B u t new next
    front_more = record {
      reached = λ y hy lt. elim (r.from y) [
        | inl e ↦ subst (Reached m S B u t y) (sym e) (f.reached y hy (omega (arith, e)))
        | inr h ↦ longer h.0 y (new y) h.1 (f.reached x hx (omega (arith, near.1)))
      ];
      seeds = λ e y a h. omega (arith, r.lower y, f.seeds e y a h);
      steps = λ z e y a hz n h.
          let old : Hop m S Nothing z (arrival z) e y a = subst (λ k. Hop m S Nothing z k e y a) (stays z hz n) h in
          elim (was z n) [
            | inl i ↦ r.each e y a (below_count law h.takes) (subst (λ k. Hop m S Nothing k (arrival k) e y a) i old)
            | inr d ↦ omega (arith, r.lower y, f.steps z e y a hz d old)
          ];
      order = λ z y hz hy n k. elim (late y) [
        | inl e ↦ elim (was z n) [
          | inl i ↦ omega (arith, e, stays z hz n, ap arrival i, near.2 y hy (still y k))
          | inr d ↦ omega (arith, e, stays z hz n, f.order z y hz hy d (still y k))
        ]
        | inr le ↦ omega (arith, le, stays z hz n, before z hz n)
      ];
    }

  walk_late : (v s d a : ℕ) (es : List ℕ) → Walk m S v s d a es → s ≤ a
  walk_late v s d a [] (p, q) = omega arith
  walk_late v s d a (e ∷ es) (x, r, st, k, w) = le_trans (arrives_after law st) (walk_late x r d a es w)

  -- no walk arrives earlier than the arrival known, or it arrives no earlier than all unsettled stops are reached
  module _ (arrival : ℕ → ℕ) (settled : ℕ → Bool) (f : Front m S B u t arrival settled) (floor : ℕ) (above : (y : ℕ) → y < 256 → settled y ≡ false → floor ≤ arrival y) where
    walk_least : (v s d a : ℕ) (es : List ℕ) → arrival v ≤ s → Walk m S v s d a es → (arrival d ≤ a) ⊎ (floor ≤ a)
    walk_least v s d a [] le (p, q) = inl (omega (arith, ap arrival p))
    walk_least v s d a (e ∷ es) le (x, r, st, k, w) = elim (cases_Bool (settled v)) [
      | inl h ↦
          let (b, st', lb) = sooner law (arrival v) le st in
          let c : arrival x ≤ b = f.steps v e x b hv h (record { takes = st'; unbarred = λ n. n; not_shut = k }) in
          walk_least x r d a es (omega arith) w
      | inr h ↦ inr (omega (arith, above v hv h, le, arrives_after law st, walk_late x r d a es w))
    ]
      where
        hv : v < 256
        hv = (two_stops law st).0

    pub reached_least : (d a : ℕ) → Reached m S B u t d a → (arrival d ≤ a) ⊎ (floor ≤ a)
    reached_least d a (e, v, s, es, h, w) = walk_least v s d a es (f.seeds e v s h) w

way_walk : (m : Meaning) (R S : ℕ → Type 0) (u t d a : ℕ) (es : List ℕ) → ((x : ℕ) → R x → S x) → Way m S u t d a es → Walk m R u t d a es
way_walk m R S u t d a [] f w = w
way_walk m R S u t d a (e ∷ es) f (v, s, st, k, w) = (v, s, st, (λ h. k (inr (f v h))), way_walk m R (Also u S) v s d a es (λ x h. inr (f x h)) w)

module _ (m : Meaning) (law : Lawful m) (S B : ℕ → Type 0) (u t d latest enough : ℕ) (apart : u ≢ d) (arrival : ℕ → ℕ) (settled : ℕ → Bool)
    (f : Front m (Also u S) B u t arrival settled) where
  reached_by : (a : ℕ) (es : List ℕ) → Onward m S B u t d latest a es → Reached m (Also u S) B u t d a
  reached_by a [] j = absurd (apart j.way.0)
  reached_by a (e ∷ es) j =
      let (v, s, st, k, w) = j.way in
      (e, v, s, es, record { takes = st; unbarred = j.unbarred; not_shut = k }, way_walk m (Also u S) (Also u S) v s d a es (λ x h. h) w)

  arrives : (a : ℕ) → a ≤ latest → Reached m (Also u S) B u t d a → (b : ℕ) × (es : List ℕ) × (b ≤ a) × Onward m S B u t d latest b es
  arrives a le (e, v, s, es, h, w) =
      let (b, fs, lb, j) = onward_of_walk m S B u t d latest law a e v s es h.unbarred h.takes h.not_shut w le in
      (b, e ∷ fs, lb, j)

  pub found_enough : d < 256 → latest < far → enough ≤ latest → arrival d ≤ enough → Found m S B u t d latest enough (Some (arrival d))
  found_enough hd hl he le = (arrives (arrival d) (omega arith) (f.reached d hd (omega arith)), omega arith, λ a es j. inr le)

  pub found_nearest : d < 256 → latest < far → Nearest arrival settled latest (Some d) → Found m S B u t d latest enough (Some (arrival d))
  found_nearest hd hl near = (arrives (arrival d) near.1 (f.reached d hd (omega (arith, near.1))), near.1, least)
    where
      least : (a : ℕ) (es : List ℕ) → Onward m S B u t d latest a es → (arrival d ≤ a) ⊎ (arrival d ≤ enough)
      least a es j = elim (reached_least m law (Also u S) B u t arrival settled f (arrival d) near.2 d a (reached_by a es j)) [ inl h ↦ inl h | inr h ↦ inl h ]

  pub found_none : d < 256 → settled d ≡ false → Nearest arrival settled latest None → Found m S B u t d latest enough None
  found_none hd free none a es j = elim (reached_least m law (Also u S) B u t arrival settled f (suc latest) none d a (reached_by a es j)) [
    | inl h ↦ let l = j.in_time in let k = none d hd free in omega arith
    | inr h ↦ let l = j.in_time in omega arith
  ]

-- how many of the stops below n are unsettled
abbrev one_if : Bool → ℕ
one_if b = cond b 0 1

unfoldable pub left : (ℕ → Bool) → ℕ → ℕ
left settled zero = 0
left settled (suc n) = one_if (settled n) + left settled n

module _ (settled next : ℕ → Bool) (u : ℕ) (s : Settles settled next u) where
  left_past : (n : ℕ) → n ≤ u → left next n ≡ left settled n
  unfolding left
  left_past zero h = refl
  left_past (suc n) h = let ne : n ≢ u = λ e. omega arith in omega (arith, ap one_if (s.rest n ne), left_past n (omega arith))

  pub left_falls : settled u ≡ false → (n : ℕ) → u < n → left next n < left settled n
  unfolding left
  left_falls free zero h = absurd (omega arith)
  left_falls free (suc n) h = elim (cases_eq n u) [
    | inl e ↦ omega (arith, ap (λ k. one_if (next k)) e, ap one_if s.here, ap (λ k. one_if (settled k)) e, ap one_if free, left_past n (omega arith))
    | inr ne ↦ omega (arith, ap one_if (s.rest n ne), left_falls free n (omega arith))
  ]

pub left_some : (settled : ℕ → Bool) (u : ℕ) → settled u ≡ false → (n : ℕ) → u < n → 0 < left settled n
unfolding left
left_some settled u free zero h = absurd (omega arith)
left_some settled u free (suc n) h = elim (cases_eq n u) [
  | inl e ↦ omega (arith, ap (λ k. one_if (settled k)) e, ap one_if free)
  | inr ne ↦ omega (arith, left_some settled u free n (omega arith))
]

pub left_most : (settled : ℕ → Bool) (n : ℕ) → left settled n ≤ n
unfolding left
left_most settled zero = omega arith
left_most settled (suc n) = omega (arith, one (settled n), left_most settled n)
  where
    one : (b : Bool) → one_if b ≤ 1
    one true = omega arith
    one false = omega arith
