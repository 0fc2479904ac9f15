-- Gate hours: the instant that a wait comes to is the least at which the edge is not shut, and a network behind windows keeps the laws.
use Rattle.std.specs.Prelude.{◌≡◌, ℕ, zero, suc, ◌+◌, ◌<◌, ◌≤◌, Bool, true, false, cond, ◌&&◌, List, [], ◌∷◌, length, get_or, Some, None, Decides, ◌==◌, nat_le, nat_lt, slice_index_or, refl}
use Rattle.std.proofs.Common.{ap, subst, ◌∙◌, inl, inr, arith}
use Rattle.std.proofs.lemmas.List.{get_or_default}
use Rattle.std.proofs.lemmas.List.Sums.{sum_by-cons}
use Rattle.std.proofs.lemmas.Bool.{cases_Bool, cases_lt, both_ways}
use Rattle.std.proofs.lemmas.Bool.Decides.{nat_tests, Decides-and, Decides-by_or, Decides-eqb, Decides-ltb}
use Rattle.std.proofs.lemmas.List.Folds.{list_any_none}
use Rattle.std.specs.List.{All}
use Rattle.networks.specs.Networks.{Meaning, Lawful, day_end}
use Rattle.networks.proofs.Laws.{sooner}
use Rattle.layers.specs.Gates.{Covers, Shut, LeastOpen, covers, shut, first_failing, least_open, gated, ending_after, Wait}
use Rattle.layers.specs.declared.windows.Window.{Window}

decides_leb : (a b : ℕ) → Decides (nat_le a b) (a ≤ b)
decides_leb a b = (λ e. grind (arith, nat_tests), λ h. grind (arith, nat_tests))

decides_covers : (e t : ℕ) (w : Window) → Decides (covers e t w) (Covers e t w)
decides_covers e t w =
    let d = Decides-and (w.edge == e) (nat_le w.from t && nat_lt t w.until) (Decides-eqb w.edge e) (Decides-and (nat_le w.from t) (nat_lt t w.until) (decides_leb w.from t) (Decides-ltb t w.until)) in
    (λ y. let p = d.0 y in (p.0, p.1.0, p.1.1), λ h. d.1 (h.0, (h.1, h.2)))

pub decides_shut : (e t : ℕ) (ws : List Window) → Decides (shut ws e t) (Shut ws e t)
decides_shut e t = Decides-by_or (covers e t) (Covers e t) (λ ws. shut ws e t) (decides_covers e t) refl (λ _ _. refl)

-- u is the first instant from t on that fails the test
abbrev First : (ℕ → Bool) → ℕ → ℕ → Type 0
First p t u = (t ≤ u) × (p u ≡ false) × ((s : ℕ) → t ≤ s → s < u → p s ≡ true)

first_unique : (p : ℕ → Bool) (t u v : ℕ) → First p t u → First p t v → u ≡ v
first_unique p t u v a b =
    elim (cases_lt u v) [
      | inl lt ↦ absurd (both_ways (p u) a.1 (b.2 u a.0 lt))
      | inr ge ↦ elim (cases_lt v u) [ inl lt ↦ absurd (both_ways (p v) b.1 (a.2 v b.0 lt)) | inr le ↦ omega arith ]
    ]

first_later : (p : ℕ → Bool) (s t u v : ℕ) → s ≤ t → First p s u → First p t v → u ≤ v
first_later p s t u v h a b =
    elim (cases_lt v u) [
      | inl lt ↦ absurd (both_ways (p v) b.1 (a.2 v (let k = b.0 in omega arith) lt))
      | inr ge ↦ ge
    ]

first_earlier : (p : ℕ → Bool) (t u v : ℕ) → t ≤ u → ((s : ℕ) → t ≤ s → s < u → p s ≡ true) → First p u v → First p t v
first_earlier p t u v l h a =
    let b = a.0 in
    (omega arith, a.1, λ s c d. elim (cases_lt s u) [ inl lt ↦ h s c lt | inr ge ↦ a.2 s ge d ])

-- a test that fails from some instant on has a first failure
failing_first : (p : ℕ → Bool) (k t : ℕ) → ((s : ℕ) → t + k ≤ s → p s ≡ false) → First p t (first_failing p k t)
unfolding first_failing
failing_first p zero t h = (omega arith, h t (omega arith), λ s a b. absurd (omega arith))
failing_first p (suc k) t h =
    elim (cases_Bool (p t)) [
      | inl y ↦
          let r = failing_first p k (t + 1) (λ s a. h s (omega arith)) in
          let a = r.0 in
          rw y (omega arith, r.1, λ s b c. elim (cases_lt t s) [ inl lt ↦ r.2 s (omega arith) c | inr ge ↦ let e : s ≡ t = omega arith in ap p e ∙ y ])
      | inr n ↦ rw n (omega arith, n, λ s a b. absurd (omega arith))
    ]

-- a window ends within the day
abbrev pub Ends : Window → Type 0
Ends w = w.until ≤ day_end

-- at the end of the day no window shuts
past : (ws : List Window) (e s : ℕ) → All Ends ws → day_end ≤ s → shut ws e s ≡ false
past ws e s h l = list_any_none (covers e s) ws (λ k d m. let j = h k d m in grind (arith, nat_tests))

open_first : (ws : List Window) (e t : ℕ) → All Ends ws → First (shut ws e) t (least_open ws e t)
open_first ws e t h = failing_first (shut ws e) day_end t (λ s l. past ws e s h (omega arith))

pub least_open_is : (ws : List Window) (e t : ℕ) → All Ends ws → LeastOpen ws e t (least_open ws e t)
least_open_is ws e t h =
    let f = open_first ws e t h in
    record {
      not_before = f.0;
      not_shut = λ s. both_ways (shut ws e (least_open ws e t)) f.1 ((decides_shut e (least_open ws e t) ws).1 s);
      least = λ s a b. elim (cases_lt s (least_open ws e t)) [ inl lt ↦ absurd (b ((decides_shut e s ws).0 (f.2 s a lt))) | inr ge ↦ ge ];
    }

-- with no window every instant is open
gated_none : (m : Meaning) → gated [] m ≡ m
unfolding first_failing
gated_none m = refl

pub gated_unchanged : (ws : List Window) (m : Meaning) → ws ≡ [] → gated ws m ≡ m
gated_unchanged ws m e = ap (λ (vs : List Window). gated vs m) e ∙ gated_none m

-- fewer windows end after the end of a window than before it
fewer_or_same : (ws : List Window) (t u : ℕ) → t ≤ u → ending_after u ws ≤ ending_after t ws
fewer_or_same [] t u h = omega arith
fewer_or_same (w ∷ ws) t u h =
    let k = fewer_or_same ws t u h in
    let a = sum_by-cons (λ x. cond (nat_lt t x.until) 1 0) w ws in
    let b = sum_by-cons (λ x. cond (nat_lt u x.until) 1 0) w ws in
    grind (arith, nat_tests)

fewer : (ws : List Window) (t : ℕ) (k : ℕ) (d : Window) → k < length ws → t < (get_or ws k d).until → ending_after (get_or ws k d).until ws < ending_after t ws
fewer [] t k d h l = absurd (omega arith)
fewer (w ∷ ws) t zero d h l =
    let f = fewer_or_same ws t w.until (omega arith) in
    let a = sum_by-cons (λ x. cond (nat_lt t x.until) 1 0) w ws in
    let b = sum_by-cons (λ x. cond (nat_lt w.until x.until) 1 0) w ws in
    grind (arith, nat_tests)
fewer (w ∷ ws) t (suc k) d h l =
    let f = fewer ws t k d (omega arith) l in
    let u = (get_or ws k d).until in
    let a = sum_by-cons (λ x. cond (nat_lt t x.until) 1 0) w ws in
    let b = sum_by-cons (λ x. cond (nat_lt (get_or ws k d).until x.until) 1 0) w ws in
    grind (arith, nat_tests)

-- a wait ends at an instant at which no window shuts, and else goes on at the end of one that does
pub wait_over : (ws : List Window) (e t : ℕ) → All Ends ws → shut ws e t ≡ false → Wait ws e t None
wait_over ws e t h n =
    first_unique (shut ws e) t (least_open ws e t) t (open_first ws e t h) (omega arith, n, λ s a b. absurd (omega arith))

pub wait_goes_on : (ws : List Window) (e t k : ℕ) (d : Window) → All Ends ws → k < length ws → covers e t (slice_index_or ws k d) ≡ true → Wait ws e t (Some (get_or ws k d).until)
wait_goes_on ws e t k d h l y =
    let w = get_or ws k d in
    let c : Covers e t (slice_index_or ws k d) = (decides_covers e t w).0 y in
    let before = c.2 in
    let shut-until : (s : ℕ) → t ≤ s → s < (get_or ws k d).until → shut ws e s ≡ true =
    λ s a b. (decides_shut e s ws).1 (k, l, λ d'. subst (Covers e s) (get_or_default ws k d d' l) (c.0, omega arith, b)) in (
      fewer ws t k d l before,
      first_unique (shut ws e) t (least_open ws e w.until) (least_open ws e t)
          (first_earlier (shut ws e) t w.until (least_open ws e w.until) (omega arith) shut-until (open_first ws e w.until h))
          (open_first ws e t h),
    )

pub gated_lawful : (ws : List Window) (m : Meaning) → All Ends ws → Lawful m → Lawful (gated ws m)
gated_lawful ws m h l = record {
  few = l.few;
  stops = l.stops;
  no_ends = l.no_ends;
  no_edge = λ e t k. l.no_edge e (least_open ws e t) k;
  past_day = λ e t k. let a = (open_first ws e t h).0 in l.past_day e (least_open ws e t) (omega arith);
  in_day = λ e t. l.in_day e (least_open ws e t);
  never_early = λ e t. sooner t (least_open ws e t) (m.lookup e (least_open ws e t)) (open_first ws e t h).0 (l.never_early e (least_open ws e t));
  monotone = λ e s t k. l.monotone e (least_open ws e s) (least_open ws e t) (first_later (shut ws e) s t (least_open ws e s) (least_open ws e t) k (open_first ws e s h) (open_first ws e t h));
}
