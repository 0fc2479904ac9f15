-- The departure that is computed is the earliest, and a book of lines that fit keeps the laws of a network.
use Rattle.std.specs.Prelude.{◌≡◌, ℕ, ◌+◌, ◌-◌, ◌*◌, ◌<◌, ◌≤◌, List, length, Some, None, Option, nat_le, refl}
use Rattle.std.proofs.Common.{sym, subst, inl, inr, lt_of_mul-lt-mul_right, mul-le-mul_right, add-mul, one-mul, arith}
use Rattle.std.specs.Int.{div_ceil}
use Rattle.std.proofs.lemmas.Grind.{div_ceil_times}
use Rattle.std.proofs.lemmas.Bool.Decides.{nat_tests}
use Rattle.std.proofs.lemmas.Bool.{cases_Bool, cases_lt, leb-true, leb-false, cond-true, cond-false}
use Rattle.networks.specs.Networks.{Lawful, Stops, InDay, NotBefore, NoLater, day_end}
use Rattle.timetable.specs.declared.records.Line.{Line}
use Rattle.timetable.specs.HeadwayBooks.{line, Departs, EarliestFrom, next_multiple, earliest_from, by_line, at_line, headway_book, LineFits}

-- a quotient rounded up is no more than any number whose multiple is enough
least : (w n k : ℕ) → 0 < n → w ≤ k * n → div_ceil w n ≤ k
least w n k h l =
    let e : div_ceil w n * n < (k + 1) * n = omega (arith, (div_ceil_times w n h).1, add-mul k 1 n, one-mul n) in
    let m : div_ceil w n < k + 1 = lt_of_mul-lt-mul_right n e in
    omega arith

not_before : (l : Line) (t : ℕ) → 0 < l.interval → t ≤ next_multiple l t
not_before l t h = omega (arith, (div_ceil_times (t - l.first) l.interval h).0)

no_later : (l : Line) (t n : ℕ) → 0 < l.interval → t ≤ l.first + n * l.interval → next_multiple l t ≤ l.first + n * l.interval
no_later l t n h i = let u = least (t - l.first) l.interval n h (omega arith) in omega (arith, mul-le-mul_right l.interval u)

rising : (l : Line) (s t : ℕ) → 0 < l.interval → s ≤ t → next_multiple l s ≤ next_multiple l t
rising l s t h i = no_later l s (div_ceil (t - l.first) l.interval) h (omega (arith, not_before l t h))

pub is_earliest : (l : Line) (t : ℕ) → 0 < l.interval → EarliestFrom l t (earliest_from l t)
is_earliest l t h =
    let d = next_multiple l t in
    elim (cases_Bool (nat_le d l.last)) [
      | inl y ↦
          subst (EarliestFrom l t) (sym (cond-true (nat_le d l.last) (Some d) None y))
          ((div_ceil (t - l.first) l.interval, refl, leb-true d l.last y), not_before l t h, from_here)
      | inr n ↦
          subst (EarliestFrom l t) (sym (cond-false (nat_le d l.last) (Some d) None n))
          (λ c p. elim (cases_lt c t) [ inl lt ↦ lt | inr ge ↦ absurd (omega (arith, from_here c p ge, leb-false d l.last n, p.2)) ])
    ]
  where
    from_here : (c : ℕ) → Departs l c → t ≤ c → next_multiple l t ≤ c
    from_here c p i = omega (arith, no_later l t p.0 h (omega (arith, p.1)), p.1)

by_line_mono : (l : Line) (s t : ℕ) → LineFits l → s ≤ t → NoLater (by_line l s) (by_line l t)
by_line_mono l s t f i = let m = rising l s t f.2 i in grind (arith, nat_tests)

by_line_early : (l : Line) (t : ℕ) → LineFits l → NotBefore t (by_line l t)
by_line_early l t f = let m = not_before l t f.2 in grind (arith, nat_tests)

by_line_day : (l : Line) (t : ℕ) → LineFits l → InDay (by_line l t)
by_line_day l t f = let m = f.3 in grind (arith, nat_tests)

by_line_past : (l : Line) (t : ℕ) → LineFits l → day_end < t → by_line l t ≡ None
by_line_past l t f h = let m = not_before l t f.2 in let k = f.3 in grind (arith, nat_tests)

module _ (ls : List Line) where
  -- what holds of every line and of no edge holds of every edge number
  each_line : {R : Type 0} (f : Line → Option R) (P : Option R → Type 0) (e : ℕ) → (e < length ls → P (f (line ls e))) → (length ls ≤ e → P None) → P (at_line f ls e)
  each_line f P e a b =
      elim (cases_lt e (length ls)) [
        | inl l ↦ let z : at_line f ls e ≡ f (line ls e) = grind (arith, nat_tests) in subst P (sym z) (a l)
        | inr h ↦ let z : at_line f ls e ≡ None = grind (arith, nat_tests) in subst P (sym z) (b h)
      ]

  pub book_lawful : length ls ≤ 1024 → ((k : ℕ) → k < length ls → LineFits (line ls k)) → Lawful (headway_book ls)
  book_lawful few fits = record {
    few = omega arith;
    stops = λ e h. each_line (λ l. Some (l.from, l.to)) Stops e (λ k. ((fits e k).0, (fits e k).1)) (λ k. absurd (omega arith));
    no_ends = λ e h. each_line (λ l. Some (l.from, l.to)) (λ o. o ≡ None) e (λ k. absurd (omega arith)) (λ k. refl);
    no_edge = λ e t h. each_line (λ l. by_line l t) (λ o. o ≡ None) e (λ k. absurd (omega arith)) (λ k. refl);
    past_day = λ e t h. each_line (λ l. by_line l t) (λ o. o ≡ None) e (λ k. by_line_past (line ls e) t (fits e k) h) (λ k. refl);
    in_day = λ e t. each_line (λ l. by_line l t) InDay e (λ k. by_line_day (line ls e) t (fits e k)) (λ k. tt);
    never_early = λ e t. each_line (λ l. by_line l t) (NotBefore t) e (λ k. by_line_early (line ls e) t (fits e k)) (λ k. tt);
    monotone = λ e s t h. elim (cases_lt e (length ls)) [
      | inl k ↦ let m = by_line_mono (line ls e) s t (fits e k) h in grind (arith, nat_tests)
      | inr k ↦ grind (arith, nat_tests)
    ];
  }
