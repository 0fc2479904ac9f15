-- Whole records one after another: the marks of a file tell which they are, and where.
use Rattle.std.proofs.Common.{◌≡◌, ℕ, zero, suc, ◌+◌, ◌*◌, ◌<◌, ◌≤◌, cond, eqb, List, [], ◌∷◌, ◌++◌, length, get_or, replicate, sym, refl, ap, ◌∙◌, subst, mul-zero, mul-suc, arith}
use Rattle.std.proofs.lemmas.List.{append-nil}
use Rattle.dayformat.specs.declared.Kind.{Kind}
use Rattle.dayformat.specs.declared.Kind.TheVariants as kind
use Rattle.dayformat.specs.Layout.{layout, size, Mark}
use Rattle.dayformat.specs.Faults.{Stand}

-- the kind whose mark begins with a byte
abbrev marked_by : ℕ → Kind
marked_by b = cond (eqb b 67) kind.Connection (cond (eqb b 70) kind.Footpath (cond (eqb b 72) kind.Line kind.End))

back : (k : Kind) → marked_by (get_or (layout k).mark 0 0) ≡ k
back kind.Connection = refl
back kind.Footpath = refl
back kind.Line = refl
back kind.End = refl

-- two kinds with one mark are one kind
pub same_kind : (j k : Kind) → (layout j).mark ≡ (layout k).mark → j ≡ k
same_kind j k e = sym (back j) ∙ ap (λ (l : List ℕ). marked_by (get_or l 0 0)) e ∙ back k

pub size_least : (k : Kind) → 2 ≤ size k
size_least kind.Connection = omega arith
size_least kind.Footpath = omega arith
size_least kind.Line = omega arith
size_least kind.End = omega arith

module _ (file : List ℕ) where
  pub stand_on : (ks : List Kind) (p q : ℕ) → Stand file p ks q → p ≤ q
  stand_on [] p q s = omega arith
  stand_on (k ∷ ks) p q s = omega (arith, stand_on ks (p + size k) q s.2)

  pub stand_within : (ks : List Kind) (p q : ℕ) → Stand file p ks q → q ≤ length file
  stand_within [] p q s = s.1
  stand_within (k ∷ ks) p q s = stand_within ks (p + size k) q s.2

  pub stand_push : (ks : List Kind) (k : Kind) (p q : ℕ) → Stand file p ks q → (layout k).turn < 3 → Mark file q k → q + size k ≤ length file → Stand file p (ks ++ k ∷ []) (q + size k)
  stand_push [] k p q s t m h = subst (λ (z : ℕ). Stand file z (k ∷ []) (q + size k)) (sym s.0) (t, m, (refl, h))
  stand_push (j ∷ js) k p q s t m h = (s.0, s.1, stand_push js k (p + size j) q s.2 t m h)

  -- records up to r are the beginning of those up to q
  pub stand_split : (ks js : List Kind) (p q r : ℕ) → Stand file p ks q → Stand file p js r → r ≤ q → (rest : List Kind) × (ks ≡ js ++ rest) × Stand file r rest q
  stand_split ks [] p q r s t h = (ks, refl, subst (λ (z : ℕ). Stand file z ks q) t.0 s)
  stand_split [] (j ∷ js) p q r s t h = absurd (omega (arith, s.0, size_least j, stand_on js (p + size j) r t.2))
  stand_split (k ∷ ks) (j ∷ js) p q r s t h =
      let e : k ≡ j = same_kind k j (sym s.1 ∙ t.1) in
      let d = stand_split ks js (p + size k) q r s.2 (subst (λ (z : Kind). Stand file (p + size z) js r) (sym e) t.2) h in
      (d.0, (λ i. e i ∷ d.1 i), d.2)

  -- records up to one place are the same
  pub stand_same : (ks js : List Kind) (q : ℕ) → Stand file 0 ks q → Stand file 0 js q → js ≡ ks
  stand_same ks js q s t = done (stand_split ks js 0 q q s t (omega arith))
    where
      ended : (rest : List Kind) → Stand file q rest q → rest ≡ []
      ended [] u = refl
      ended (k ∷ rest) u = absurd (omega (arith, size_least k, stand_on rest (q + size k) q u.2))

      done : ((rest : List Kind) × (ks ≡ js ++ rest) × Stand file q rest q) → js ≡ ks
      done d = sym (d.1 ∙ ap (λ (l : List Kind). js ++ l) (ended d.0 d.2) ∙ append-nil js)

  -- behind a mark at p the next place is behind its record
  pub stand_next : (ks js : List Kind) (k : Kind) (p q : ℕ) → Stand file 0 ks p → Mark file p k → Stand file 0 js q → p < q → ((layout k).turn < 3) × (p + size k ≤ q)
  stand_next ks js k p q s m t h = after (stand_split js ks 0 q p t s (omega arith))
    where
      go : (rest : List Kind) → Stand file p rest q → ((layout k).turn < 3) × (p + size k ≤ q)
      go [] u = absurd (omega (arith, u.0))
      go (j ∷ rest) u = subst (λ (z : Kind). ((layout z).turn < 3) × (p + size z ≤ q)) (same_kind j k (sym u.1 ∙ m)) (u.0, stand_on rest (p + size j) q u.2)

      after : ((rest : List Kind) × (js ≡ ks ++ rest) × Stand file p rest q) → ((layout k).turn < 3) × (p + size k ≤ q)
      after d = go d.0 d.2

  -- m records of one kind, and what follows them
  pub stand_run : (k : Kind) (js : List Kind) (m p q : ℕ) → Stand file p (replicate m k ++ js) q → Stand file p (replicate m k) (p + size k * m) × Stand file (p + size k * m) js q
  stand_run k js zero p q s =
      let e : p ≡ p + size k * 0 = omega (arith, mul-zero (size k)) in
      ((e, omega (arith, stand_on js p q s, stand_within js p q s)), subst (λ (z : ℕ). Stand file z js q) e s)
  stand_run k js (suc m) p q s =
      let e : p + size k + size k * m ≡ p + size k * suc m = omega (arith, mul-suc (size k) m) in
      let r = stand_run k js m (p + size k) q s.2 in
      ((s.0, s.1, subst (λ (z : ℕ). Stand file (p + size k) (replicate m k) z) e r.0), subst (λ (z : ℕ). Stand file z js q) e r.1)

  pub mark_in_run : (k : Kind) (m p q i : ℕ) → Stand file p (replicate m k) q → i < m → Mark file (p + size k * i) k
  mark_in_run k zero p q i s h = absurd (omega arith)
  mark_in_run k (suc m) p q zero s h = subst (λ (z : ℕ). Mark file z k) (omega (arith, mul-zero (size k))) s.1
  mark_in_run k (suc m) p q (suc i) s h = subst (λ (z : ℕ). Mark file z k) (omega (arith, mul-suc (size k) i)) (mark_in_run k m (p + size k) q i s.2 (omega arith))
