-- Ways, walks, and how a walk is made a way.
use Rattle.std.proofs.Common.{◌≡◌, ℕ, ◌≤◌, ◌≢◌, ◌⊎◌, List, [], ◌∷◌, ◌++◌, sym, refl, ◌∙◌, subst, inl, inr, le_trans, le_refl, arith}
use native.Mathlib.Decide.{ℕ_discrete}
use Rattle.journey_laws.proofs.Taking.{same_stop, same_time, arrives_after, sooner}
use Rattle.networks.specs.Networks.{Meaning, Lawful}
use Rattle.journey_laws.specs.Ways.{Also, Way, Walk}

-- fewer stops shut
abbrev Fewer : (ℕ → Type 0) → (ℕ → Type 0) → Type 0
Fewer R S = (x : ℕ) → R x → S x

also_fewer : {R S : ℕ → Type 0} (u : ℕ) → Fewer R S → Fewer (Also u R) (Also u S)
also_fewer u f x (inl p) = inl p
also_fewer u f x (inr p) = inr (f x p)

module _ (m : Meaning) where
  pub fewer_shut : (R S : ℕ → Type 0) (u t d a : ℕ) (es : List ℕ) → Fewer R S → Way m S u t d a es → Way m R u t d a es
  fewer_shut R S u t d a [] f w = w
  fewer_shut R S u t d a (e ∷ es) f (v, s, st, n, w) =
      (v, s, st, (λ h. n (also_fewer u f v h)), fewer_shut (Also u R) (Also u S) v s d a es (also_fewer u f) w)

  -- a way to a shut stop has no edge
  pub no_return : (S : ℕ → Type 0) (u t d a : ℕ) (es : List ℕ) → S d → u ≢ d → Way m S u t d a es → ⊥
  no_return S u t d a [] h n w = n w.0
  no_return S u t d a (e ∷ es) h n (v, s, st, k, w) =
      no_return (Also u S) v s d a es (inr h) (λ p. k (inr (subst S (sym p) h))) w

  -- no way begins another
  pub no_longer : (S : ℕ → Type 0) (u t d a b : ℕ) (es : List ℕ) (f : ℕ) (fs : List ℕ) → Way m S u t d a es → Way m S u t d b (es ++ (f ∷ fs)) → ⊥
  no_longer S u t d a b [] f fs (p, q) (v, s, st, k, w) =
      no_return (Also u S) v s d b fs (inl (sym p)) (λ r. k (inl (r ∙ sym p))) w
  no_longer S u t d a b (e ∷ es) f fs (v, s, st, k, w) (v', s', st', k', w') =
      no_longer (Also u S) v s d a b es f fs w
      (rw (same_stop st st', same_time st st') at w')

  -- the same edges arrive at one instant
  pub one_arrival : (S : ℕ → Type 0) (u t d a b : ℕ) (es : List ℕ) → Way m S u t d a es → Way m S u t d b es → a ≡ b
  one_arrival S u t d a b [] (p, q) (p', q') = cc
  one_arrival S u t d a b (e ∷ es) (v, s, st, k, w) (v', s', st', k', w') =
      one_arrival (Also u S) v s d a b es w (rw (same_stop st st', same_time st st') at w')

module _ (m : Meaning) (law : Lawful m) where
  -- who starts earlier is there no later
  pub earlier : (S : ℕ → Type 0) (u t t' d a : ℕ) (es : List ℕ) → t' ≤ t → Way m S u t d a es → (b : ℕ) × (b ≤ a) × Way m S u t' d b es
  earlier S u t t' d a [] h (p, q) = (t', omega arith, (p, refl))
  earlier S u t t' d a (e ∷ es) h (v, s, st, k, w) =
      let (s', st', le) = sooner law t' h st in
      let (b, lb, w') = earlier (Also u S) v s s' d a es le w in
      (b, lb, (v, s', st', k, w'))

  -- a way either keeps clear of u, or has an end that begins there
  abbrev Clear : (ℕ → Type 0) → ℕ → ℕ → ℕ → ℕ → ℕ → List ℕ → Type 0
  Clear S u v t d a es = ((v ≢ u) × Way m (Also u S) v t d a es) ⊎ ((fs : List ℕ) × (s : ℕ) × (t ≤ s) × Way m S u s d a fs)

  swap : (S : ℕ → Type 0) (u v : ℕ) → Fewer (Also v (Also u S)) (Also u (Also v S))
  swap S u v x (inl p) = inr (inl p)
  swap S u v x (inr (inl p)) = inl p
  swap S u v x (inr (inr p)) = inr (inr p)

  cut : (S : ℕ → Type 0) (u v t d a : ℕ) (es : List ℕ) → Dec (v ≡ u) → Way m S v t d a es → Clear S u v t d a es
  cut S u v t d a es (yes p) w = inr (es, t, le_refl t, rw p at w)
  cut S u v t d a [] (no n) w = inl (n, w)
  cut S u v t d a (e ∷ es) (no n) (x, s, st, k, w) = join (cut (Also v S) u x s d a es (ℕ_discrete x u) w)
    where
      join : Clear (Also v S) u x s d a es → Clear S u v t d a (e ∷ es)
      join (inl (ne, w')) = inl (n, (x, s, st, clear, fewer_shut m _ _ x s d a es (swap S u v) w'))
        where
          clear : ¬ Also v (Also u S) x
          clear (inl p) = k (inl p)
          clear (inr (inl p)) = ne p
          clear (inr (inr p)) = k (inr p)
      join (inr (fs, s', le, w')) =
          inr (fs, s', le_trans (arrives_after law st) le, fewer_shut m S (Also v S) u s' d a fs (λ y h. inr h) w')

  -- a walk can be made a way that is there no later
  pub shorten : (S : ℕ → Type 0) (u t d a : ℕ) (es : List ℕ) → Walk m S u t d a es → (fs : List ℕ) × (b : ℕ) × (b ≤ a) × Way m S u t d b fs
  shorten S u t d a [] w = ([], a, le_refl a, w)
  shorten S u t d a (e ∷ es) (v, s, st, k, w) = go (shorten S v s d a es w)
    where
      go : (fs : List ℕ) × (b : ℕ) × (b ≤ a) × Way m S v s d b fs → (fs : List ℕ) × (b : ℕ) × (b ≤ a) × Way m S u t d b fs
      go (fs, b, le, y) = pick (cut S u v s d b fs (ℕ_discrete v u) y)
        where
          pick : Clear S u v s d b fs → (fs : List ℕ) × (b : ℕ) × (b ≤ a) × Way m S u t d b fs
          pick (inl (ne, z)) = (e ∷ fs, b, le, (v, s, st, (λ h. elim h [ inl p ↦ ne p | inr p ↦ k p ]), z))
          pick (inr (gs, r, sr, z)) =
              let (c, lc, y') = earlier S u r t d b gs (le_trans (arrives_after law st) sr) z in
              (gs, c, le_trans lc le, y')
