-- One edge more is tried, where the arrivals stand in a list.
use Rattle.std.proofs.Common.{◌≡◌, ℕ, ◌+◌, ◌<◌, ◌≤◌, min, List, length, get_or, set, sym, ap, subst, inl, inr, arith, get_or-set_other, get_or-set_same}
use Rattle.std.proofs.lemmas.List.{set-get_or}
use Rattle.std.proofs.lemmas.Bool.{cases_lt}
use Rattle.networks.specs.Networks.{Meaning}
use Rattle.journey_laws.specs.Arrivals.{Hop, Relaxed}
use Rattle.journey_laws.proofs.Taking.{same_stop, same_time}
use Rattle.journey_laws.proofs.Relaxing.{keeps, writes}

abbrev pub at : List ℕ → ℕ → ℕ
at xs y = get_or xs y 0

module _ {m : Meaning} {S B : ℕ → Type 0} {u t n : ℕ} {old : ℕ → ℕ} (new : List ℕ) (r : Relaxed m S B u t n old (at new)) where
  pub not_taken : ((y a : ℕ) → ¬ Hop m S B u t n y a) → Relaxed m S B u t (n + 1) old (at new)
  not_taken none = keeps r (λ y a h. absurd (none y a h))

  pub no_earlier : {y a : ℕ} → Hop m S B u t n y a → get_or new y 0 ≤ a → Relaxed m S B u t (n + 1) old (at new)
  no_earlier h le = keeps r (λ z b k. omega (arith, same_time h.takes k.takes, ap (at new) (same_stop h.takes k.takes)))

  pub earlier : {y a : ℕ} → Hop m S B u t n y a → a < get_or new y 0 → y < length new → Relaxed m S B u t (n + 1) old (at (set new y a))
  earlier {y} {a} h lt within = writes r h lt (get_or-set_same new y a 0 within) (λ z ne. get_or-set_other new y z a 0 ne)

  -- the stop's arrival falls to the edge's, where that is earlier
  pub lowered : {y a v : ℕ} → v ≡ min (get_or new y 0) a → Hop m S B u t n y a → y < length new → Relaxed m S B u t (n + 1) old (at (set new y v))
  lowered {y} {a} {v} e h within = elim (cases_lt a (get_or new y 0)) [
    | inl lt ↦ let z : a ≡ v = omega (arith, e) in subst (λ w. Relaxed m S B u t (n + 1) old (at (set new y w))) z (earlier h lt within)
    | inr ge ↦
        let z : get_or new y 0 ≡ v = omega (arith, e) in
        subst (λ w. Relaxed m S B u t (n + 1) old (at (set new y w))) z (subst (λ xs. Relaxed m S B u t (n + 1) old (at xs)) (sym (set-get_or new y 0)) (no_earlier h ge))
  ]
