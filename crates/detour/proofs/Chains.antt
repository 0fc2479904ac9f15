-- One edge more in the groups.
use Rattle.std.proofs.Common.{◌≡◌, ℕ, ◌+◌, ◌<◌, ◌≢◌, List, length, get_or, set, Some, None, Option, sym, ap, ◌∙◌, subst, inl, inr, arith, get_or-set_other, get_or-set_same}
use native.Mathlib.Decide.{dec_lt}
use Rattle.std.proofs.lemmas.Bool.{cases_eq, cases_lt}
use Rattle.std.proofs.lemmas.List.{get_or_read}
use Rattle.networks.specs.Networks.{Meaning, Lawful, Stops}
use Rattle.journey_laws.specs.Arrivals.{Relaxed}
use Rattle.std.proofs.Common.{MatchOption, option_map}
use Rattle.std.specs.Option.{ForSome}
use Rattle.detour.specs.declared.departures.Leaving.{Leaving}
use Rattle.detour.specs.Leaving.{Steps}
use Rattle.detour.specs.Departing.{start_of, or_count, link, LeastFrom, Grouped, Ascending}

-- an edge with ends has a number below the count, and leaves a stop below 256
pub there : (m : Meaning) → Lawful m → (e : ℕ) (p : ℕ × ℕ) → m.ends e ≡ Some p → (e < m.count) × (p.0 < 256)
there m law e p h = at (dec_lt e m.count)
  where
    at : Dec (e < m.count) → (e < m.count) × (p.0 < 256)
    at (yes lt) = (lt, (subst Stops h (law.stops e lt)).0)
    at (no n) =
        let none = law.no_ends e (omega arith) in
        let z : ◌≡◌ {A = ℕ} 0 1 = cc in
        absurd (omega arith)

-- a link that was read is the one at its place
pub read : (es : List (Option ℕ)) (k : ℕ) (o : Option ℕ) → k < length es → o ≡ get_or es k o → get_or es k o ≡ link es k
read es k o lt e = sym e ∙ get_or_read es k o lt e None

pub leaves_stop : (m : Meaning) (e : ℕ) {s y : ℕ} → m.ends e ≡ Some (s, y) → start_of m e ≡ Some s
leaves_stop m e h = ap (option_map (λ p. p.0)) h

module _ {m : Meaning} where
  -- one edge more, which leaves another stop
  wider : {s k : ℕ} {o : Option ℕ} → LeastFrom m s (k + 1) o → start_of m k ≢ Some s → LeastFrom m s k o
  wider {s} {k} n other = record {
    low = omega (arith, n.low);
    most = n.most;
    gap = λ f le lt h. elim (cases_eq f k) [
      | inl i ↦ other (subst (λ j. start_of m j ≡ Some s) i h)
      | inr ne ↦ n.gap f (omega arith) lt h
    ];
    leaves = n.leaves;
  }

  pub group_more : {k x : ℕ} {first next : List (Option ℕ)} {here more : Option ℕ} → Grouped m (k + 1) first next → start_of m k ≡ Some x → k < m.count → x < 256 → x < length first → k < length next →
      here ≡ Some k → more ≡ link first x → Grouped m k (set first x here) (set next k more)
  group_more {k} {x} {first} {next} d leads hk hx within room is_here is_more = rw (is_here, is_more) record {
    firsts = λ s hs. elim (cases_eq s x) [
      | inl i ↦ subst (λ j. LeastFrom m j k (link (set first x (Some k)) j)) (sym i) (subst (LeastFrom m x k) (sym (get_or-set_same first x (Some k) None within)) begin)
      | inr ne ↦ subst (LeastFrom m s k) (sym (get_or-set_other first x s (Some k) None ne)) (wider (d.firsts s hs) (λ h. ne (same h)))
    ];
    nexts = λ s e le h. elim (cases_eq e k) [
      | inl i ↦
          subst (λ j. LeastFrom m s (j + 1) (link (set next k (link first x)) j)) (sym i)
          (subst (LeastFrom m s (k + 1)) (sym (get_or-set_same next k (link first x) None room)) (subst (λ j. LeastFrom m j (k + 1) (link first x)) (sym (same (subst (λ j. start_of m j ≡ Some s) i h))) (d.firsts x hx)))
      | inr ne ↦ subst (LeastFrom m s (e + 1)) (sym (get_or-set_other next k e (link first x) None ne)) (d.nexts s e (omega arith) h)
    ];
  }
    where
      same : {s : ℕ} → start_of m k ≡ Some s → s ≡ x
      same h = cc

      begin : LeastFrom m x k (Some k)
      begin = record {
        low = omega arith;
        most = omega arith;
        gap = λ f le lt h. absurd (omega arith);
        leaves = λ e h. (let i : k ≡ e = cc in subst (λ j. (j < m.count) × (start_of m j ≡ Some x)) i (hk, leads));
      }

  -- the link from one edge more leads to a greater one
  pub ascend_more : Lawful m → {k x : ℕ} {first next : List (Option ℕ)} {more : Option ℕ} → Grouped m (k + 1) first next → Ascending next → x < 256 → k < length next → more ≡ link first x → Ascending (set next k more)
  ascend_more law {k} {x} {first} {next} {more} d up hx room is_more e f h = elim (cases_eq e k) [
    | inl i ↦
        let to = sym is_more ∙ (sym (get_or-set_same next k more None room) ∙ (ap (link (set next k more)) (sym i) ∙ h)) in
        let low = (d.firsts x hx).low in
        let at = ap (or_count m) to in
        let below = ((d.firsts x hx).leaves f to).0 in
        (omega arith, omega (arith, law.few))
    | inr ne ↦ up e f (sym (get_or-set_other next k e more None ne) ∙ h)
  ]

  -- the edges between two of a group leave other stops
  pub skips : {S B : ℕ → Type 0} {u t n : ℕ} {o : Option ℕ} {old new : ℕ → ℕ} → Relaxed m S B u t n old new → LeastFrom m u n o → Relaxed m S B u t (or_count m o) old new
  skips {n = n} r next = record {
    lower = r.lower;
    each = λ f y a lt h. elim (cases_lt f n) [ inl less ↦ r.each f y a less h | inr more ↦ absurd (next.gap f more lt (leaves_stop m f h.takes.leads)) ];
    from = r.from;
  }

-- the edges that leave stop s, gone along up to edge e: the next is the least further one
module _ {m : Meaning} {first next : List (Option ℕ)} (d : Grouped m 0 first next) {s : ℕ} {before after : Leaving} {e : ℕ}
    (same : before.next.now ≡ next) (leaves : ForSome before.edge (λ e. (e < m.count) × (start_of m e ≡ Some s))) (steps : Steps before (Some e) after) where
  pub further : LeastFrom m s (e + 1) after.edge
  further =
      let on = subst (λ o. MatchOption o (after.edge ≡ None) (λ e. after.edge ≡ link before.next.now e)) (sym steps.here) steps.moved in
      subst (LeastFrom m s (e + 1)) (sym (on ∙ ap (λ es. link es e) same)) (d.nexts s e (omega arith) (leaves e (sym steps.here)).1)

  pub standing : or_count m before.edge ≡ e
  standing = ap (or_count m) (sym steps.here)

  pub still : after.next.now ≡ next
  still = steps.same ∙ same

  -- one edge more is tried, and so are those that follow before the next that leaves the stop
  pub tried : {S B : ℕ → Type 0} {t : ℕ} {old new newer : ℕ → ℕ} → Relaxed m S B s t (or_count m before.edge) old new → (Relaxed m S B s t e old new → Relaxed m S B s t (e + 1) old newer) →
      (after.next.now ≡ next) × ForSome after.edge (λ e. (e < m.count) × (start_of m e ≡ Some s)) × Relaxed m S B s t (or_count m after.edge) old newer
  tried {S} {B} {t} {old} {new} r more = (still, further.leaves, skips (more (subst (λ n. Relaxed m S B s t n old new) standing r)) further)
