-- A journey is known in one way: its stops and its arrival follow from its edges.
use Rattle.std.specs.Prelude.{◌≡◌, ℕ, ◌≤◌, List, [], ◌∷◌, Some, refl}
use Rattle.std.specs.Coded.{Coded-set, coded×, coded_option, coded_ℕ, le_prop, ×_prop, →_prop, Unit-prop}
use mathlib.Core.HLevel.{⊥_prop, is_prop→PathP}
use mathlib.Core.Path.{sym, ap, subst₂}
use Rattle.networks.specs.Networks.{Meaning}
use Rattle.journeys.specs.declared.question.Question.{Question}
use Rattle.journeys.specs.Walking.{Takes}
use Rattle.journeys.specs.Journeys.{Differ, Visits, last, Simple}

Takes-prop : (m : Meaning) (u t e v s : ℕ) → IsProp (Takes m u t e v s)
Takes-prop m u t e v s x y = λ i. record {
  leads = Coded-set (coded_option (coded× coded_ℕ coded_ℕ)) (m.ends e) (Some (u, v)) x.leads y.leads i;
  arrives = Coded-set (coded_option coded_ℕ) (m.lookup e t) (Some s) x.arrives y.arrives i;
}

Visits-prop : (m : Meaning) (u t : ℕ) (es vs : List ℕ) (a : ℕ) → IsProp (Visits m u t es vs a)
Visits-prop m u t [] [] a = Coded-set coded_ℕ t a
Visits-prop m u t [] (v ∷ vs) a = ⊥_prop
Visits-prop m u t (e ∷ es) [] a = ⊥_prop
Visits-prop m u t (e ∷ es) (v ∷ vs) a = λ x y.
    let k : x.0 ≡ y.0 = cc (x.1.arrives, y.1.arrives) in
    λ i. (
      k i,
      is_prop→PathP (λ i. Takes m u t e v (k i)) (λ i. Takes-prop m u t e v (k i)) x.1 y.1 i,
      is_prop→PathP (λ i. Visits m v (k i) es vs a) (λ i. Visits-prop m v (k i) es vs a) x.2 y.2 i,
    )

same_visits : (m : Meaning) (u t : ℕ) (es vs ws : List ℕ) (a b : ℕ) → Visits m u t es vs a → Visits m u t es ws b → (vs ≡ ws) × (a ≡ b)
same_visits m u t [] [] [] a b p q = (refl, cc)
same_visits m u t [] [] (w ∷ ws) a b p q = absurd q
same_visits m u t [] (v ∷ vs) ws a b p q = absurd p
same_visits m u t (e ∷ es) [] ws a b p q = absurd p
same_visits m u t (e ∷ es) (v ∷ vs) [] a b p q = absurd q
same_visits m u t (e ∷ es) (v ∷ vs) (w ∷ ws) a b (s, st, p) (r, st', q) =
    let k : s ≡ r = cc (st.arrives, st'.arrives) in
    let l : ◌≡◌ {A = ℕ × ℕ} (u, v) (u, w) = cc (st.leads, st'.leads) in
    let z : v ≡ w = ap (λ (x : ℕ × ℕ). x.1) l in
    let (f, h) = same_visits m v s es vs ws a b p (subst₂ (λ (x y : ℕ). Visits m x y es ws b) (sym z) (sym k) q) in
    (cc (z, f), h)

Differ-prop : (vs : List ℕ) → IsProp (Differ vs)
Differ-prop [] = Unit-prop
Differ-prop (v ∷ vs) = ×_prop (→_prop ⊥_prop) (Differ-prop vs)

pub Simple-prop : (m : Meaning) (q : Question) (y : List ℕ) → IsProp ((b : ℕ) × Simple m q b y)
Simple-prop m q y (b, j) (c, k) =
    let (vs, a) = same_visits m q.origin q.start y j.stops k.stops b c j.leads.visits k.leads.visits in
    λ i. (
      a i,
      record {
        stops = vs i;
        leads = record {
          visits = is_prop→PathP (λ i. Visits m q.origin q.start y (vs i) (a i)) (λ i. Visits-prop m q.origin q.start y (vs i) (a i)) j.leads.visits k.leads.visits i;
          differ = is_prop→PathP (λ i. Differ (q.origin ∷ vs i)) (λ i. Differ-prop (q.origin ∷ vs i)) j.leads.differ k.leads.differ i;
          reaches = is_prop→PathP (λ i. last q.origin (vs i) ≡ q.destination) (λ i. Coded-set coded_ℕ (last q.origin (vs i)) q.destination) j.leads.reaches k.leads.reaches i;
        };
        in_time = is_prop→PathP (λ i. a i ≤ q.latest) (λ i. le_prop) j.in_time k.in_time i;
      },
    )
