-- What the writing of the edges keeps true.
use Rattle.std.proofs.Common.{◌≡◌, ℕ, ◌+◌, ◌<◌, ◌≤◌, false, ◌≢◌, ◌↔◌, List, [], ◌∷◌, ◌++◌, length, take, drop, set, sym, refl, ap, ◌∙◌, subst, inl, inr, arith}
use Rattle.std.proofs.lemmas.List.{take_more_set, drop-set-lt, drop-drop}
use Rattle.std.proofs.lemmas.Bool.{cases_eq, cases_Bool}
use Rattle.networks.specs.Networks.{Meaning, Lawful}
use Rattle.stops.specs.declared.StopSet.{StopSet}
use Rattle.stops.specs.Sets.{member, Holds}
use Rattle.journeys.specs.Journeys.{In}
use Rattle.journeys.specs.Rank.{FirstInRank}
use Rattle.journey_laws.specs.Ways.{Nothing, Also, Onward, Chosen}
use Rattle.journey_laws.specs.Arrivals.{Settles, Earliest}
use Rattle.journey_laws.proofs.Taking.{two_stops}
use Rattle.journey_laws.proofs.Choosing.{Choosing, choose_start, choose_step, choose_same, choose_end}
use Rattle.journey_laws.proofs.Settling.{left, left_falls, left_some, left_most}

-- k edges are written, and the rest of the journey is to be chosen from stop v at instant i
pub record Tracing (m : Meaning) (whole : ℕ → List ℕ → Type 0) (d least : ℕ) (old edges : List ℕ) (k v i : ℕ) (shut : StopSet) (barred : List ℕ) : Type 0 where
  pub choosing : Choosing m whole d least (take k edges) (Holds shut) (λ e. In e barred) v i
  pub rest : drop k edges ≡ drop k old
  pub room : k + left (member shut) 256 ≤ 256
  pub goal : member shut d ≡ false
  pub not_shut : member shut v ≡ false
  pub stop : v < 256

pub trace_start : (m : Meaning) (u t d a : ℕ) (edges barred : List ℕ) (shut : StopSet) → u < 256 → member shut u ≡ false → member shut d ≡ false →
    Earliest m (Holds shut) (λ e. In e barred) u t d a → Tracing m (Onward m (Holds shut) (λ e. In e barred) u t d a) d a edges edges 0 u t shut barred
trace_start m u t d a edges barred shut hu fu fd f = record {
  choosing = choose_start m (Holds shut) (λ e. In e barred) u t d a f;
  rest = refl;
  room = let h = left_most (member shut) 256 in omega arith;
  goal = fd;
  not_shut = fu;
  stop = hu;
}

pub trace_end : {m : Meaning} {whole : ℕ → List ℕ → Type 0} {d a : ℕ} {old edges : List ℕ} {k v i : ℕ} {shut : StopSet} {barred : List ℕ} →
    Tracing m whole d a old edges k v i shut barred → v ≡ d → FirstInRank whole a (take k edges)
trace_end {m} {whole} {d} {a} {old} {edges} {k} {v} {i} {shut} {barred} x e =
    choose_end m whole d a (take k edges) (Holds shut) (λ e. In e barred) i (subst (λ u. Choosing m whole d a (take k edges) (Holds shut) (λ e. In e barred) u i) e x.choosing)

-- one stop more is shut, and one edge more written
module _ {m : Meaning} {whole : ℕ → List ℕ → Type 0} {d a : ℕ} {old edges : List ℕ} {k v i : ℕ} {shut : StopSet} {barred : List ℕ}
    (more : StopSet) (x : Tracing m whole d a old edges k v i shut barred) (s : Settles (member shut) (member more) v) (apart : v ≢ d) (hd : d < 256) where
  same_shut : (y : ℕ) → Also v (Holds shut) y ↔ Also v (Holds more) y
  same_shut y = (there, back)
    where
      there : Also v (Holds shut) y → Also v (Holds more) y
      there (inl e) = inl e
      there (inr h) = elim (cases_eq y v) [ inl e ↦ inl e | inr ne ↦ inr (s.rest y ne ∙ h) ]

      back : Also v (Holds more) y → Also v (Holds shut) y
      back (inl e) = inl e
      back (inr h) = elim (cases_eq y v) [ inl e ↦ inl e | inr ne ↦ inr (sym (s.rest y ne) ∙ h) ]

  here : Choosing m whole d a (take k edges) (Holds more) (λ e. In e barred) v i
  here = choose_same m whole d a (take k edges) (Holds shut) (Holds more) (λ e. In e barred) (λ e. In e barred) v i same_shut (λ e. ((λ h. h), (λ h. h))) x.choosing

  pub goes_on : (b : ℕ) × (r : List ℕ) × Onward m (Holds more) (λ e. In e barred) v i d a b r
  goes_on = here.goes_on

  falls : left (member more) 256 < left (member shut) 256
  falls = left_falls (member shut) (member more) v s x.not_shut 256 x.stop

  pub trace_less : left (member more) 256 < left (member shut) 256
  trace_less = falls

  still : member more d ≡ false
  still = s.rest d (λ e. apart (sym e)) ∙ x.goal

  pub fits : k < 255
  fits = let h = falls in let l = left_some (member more) d still 256 hd in let r = x.room in omega arith

  absorbed : (w y : ℕ) → Also w (Also v (Holds more)) y ↔ Also w (Holds more) y
  absorbed w y = (there, back)
    where
      there : Also w (Also v (Holds more)) y → Also w (Holds more) y
      there (inl e) = inl e
      there (inr (inl e)) = inr (ap (member more) e ∙ s.here)
      there (inr (inr h)) = inr h

      back : Also w (Holds more) y → Also w (Also v (Holds more)) y
      back (inl e) = inl e
      back (inr h) = inr (inr h)

  pub trace_more : Lawful m → k < length edges → (e w j : ℕ) → Chosen m (Holds more) (λ e. In e barred) v i d a e w j →
      Tracing m whole d a old (set edges k e) (k + 1) w j more []
  trace_more law hk e w j c = record {
    choosing = subst (λ (p : List ℕ). Choosing m whole d a p (Holds more) Nothing w j) (sym (take_more_set edges k e hk))
        (choose_same m whole d a (take k edges ++ (e ∷ [])) (Also v (Holds more)) (Holds more) Nothing Nothing w j (absorbed w) (λ e. ((λ h. h), (λ h. h)))
        (choose_step m whole d a (take k edges) (Holds more) (λ e. In e barred) v i here e w j c));
    rest = drop-set-lt (k + 1) edges k e (omega arith) ∙ sym (drop-drop 1 k edges) ∙ ap (drop 1) x.rest ∙ drop-drop 1 k old;
    room = let h = falls in let r = x.room in omega arith;
    goal = still;
    not_shut = elim (cases_Bool (member more w)) [ inl t ↦ absurd (c.not_shut (inr t)) | inr f ↦ f ];
    stop = (two_stops law c.takes).1;
  }
