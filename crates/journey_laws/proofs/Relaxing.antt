-- One edge more is tried.
use Rattle.std.proofs.Common.{◌≡◌, ℕ, ◌+◌, ◌<◌, ◌≤◌, ◌≢◌, sym, ap, ◌∙◌, subst, inl, inr, arith}
use Rattle.std.proofs.lemmas.Bool.{cases_eq}
use Rattle.networks.specs.Networks.{Meaning}
use Rattle.journey_laws.specs.Arrivals.{Hop, Relaxed}
use Rattle.journey_laws.proofs.Taking.{same_stop, same_time}

module _ {m : Meaning} {S B : ℕ → Type 0} {u t : ℕ} where
  -- the edge cannot be taken, or reaches its stop no earlier
  pub keeps : {n : ℕ} {old new : ℕ → ℕ} → Relaxed m S B u t n old new → ((y a : ℕ) → Hop m S B u t n y a → new y ≤ a) → Relaxed m S B u t (n + 1) old new
  keeps {n} r late = record {
    lower = r.lower;
    each = λ e y a lt h. elim (cases_eq e n) [
      | inl i ↦ late y a (subst (λ k. Hop m S B u t k y a) i h)
      | inr ne ↦ r.each e y a (omega arith) h
    ];
    from = r.from;
  }

  -- the edge reaches its stop earlier
  pub writes : {n y a : ℕ} {old new next : ℕ → ℕ} → Relaxed m S B u t n old new → Hop m S B u t n y a → a < new y →
      next y ≡ a → ((z : ℕ) → z ≢ y → next z ≡ new z) → Relaxed m S B u t (n + 1) old next
  writes {n} {y} {a} {old} {new} {next} r h lt here there = record {
    lower = λ z. omega (arith, down z, r.lower z);
    each = λ e z b le k. elim (cases_eq e n) [
      | inl i ↦ let k' = subst (λ j. Hop m S B u t j z b) i k in omega (arith, here, same_time h.takes k'.takes, ap next (same_stop h.takes k'.takes))
      | inr ne ↦ omega (arith, down z, r.each e z b (omega arith) k)
    ];
    from = λ z. elim (cases_eq z y) [
      | inl i ↦ inr (n, subst (λ j. Hop m S B u t n z j) (sym (ap next i ∙ here)) (subst (λ j. Hop m S B u t n j a) (sym i) h))
      | inr ne ↦ elim (r.from z) [ inl e ↦ inl (there z ne ∙ e) | inr w ↦ inr (w.0, subst (λ j. Hop m S B u t w.0 z j) (sym (there z ne)) w.1) ]
    ];
  }
    where
      down : (z : ℕ) → next z ≤ new z
      down z = elim (cases_eq z y) [ inl i ↦ omega (arith, here, ap next i, ap new i) | inr ne ↦ omega (arith, there z ne) ]
