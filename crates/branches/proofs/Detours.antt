-- What the detour at one place of the entries comes to.
use Rattle.std.proofs.Common.{◌≡◌, ℕ, ◌+◌, ◌<◌, ◌≤◌, ◌≢◌, ◌⊎◌, ◌↔◌, List, [], ◌∷◌, ◌++◌, length, Some, None, Ok, Err, Result, IsOk, IfOk, inl, inr, arith, length-append}
use Rattle.std.specs.Result.{result_ok}
use Rattle.std.proofs.lemmas.Bool.{cases_lt}
use Rattle.networks.specs.Networks.{Meaning, Lawful}
use Rattle.refusals.specs.Verdicts.{Verdict}
use Rattle.refusals.specs.declared.Refusal.{Refusal}
use Rattle.refusals.specs.declared.DetourRefusal.{DetourRefusal}
use Rattle.refusals.specs.declared.DetourRefusal.TheVariants.{StopsUnfit, InstantsUnfit, NoDetour}
use Rattle.stops.specs.Sets.{Holds}
use Rattle.journeys.specs.declared.question.Question.{Question}
use Rattle.journeys.specs.Journeys.{In, Unlisted, Detour}
use Rattle.journeys.specs.Rank.{Before, FirstInRank}
use Rattle.journey_laws.specs.Ways.{Also, Way, Onward}
use Rattle.journey_laws.specs.Branching.{Through, NextEdge, Place}
use Rattle.journey_laws.specs.Theorems.{SimpleEntries, Branches}
use Rattle.journey_laws.proofs.Taking.{arrives_after}
use Rattle.journey_laws.proofs.Ways.{no_return}
use Rattle.journey_laws.proofs.Greedy.{same_first}
use Rattle.journey_laws.proofs.Choosing.{same_onward}
use Rattle.journey_laws.proofs.Bridge.{detour_onward, first_detour}
use Rattle.journey_laws.proofs.Diverging.{not_there, sound}
use Rattle.journey_laws.proofs.Places.{place_beaten, one_through}
use Rattle.journey_laws.proofs.Entries.{ways, fresh, few_edges}
use Rattle.detour.specs.Detours.{Reason}
use Rattle.entries.specs.declared.entry.Journey.{Journey}
use Rattle.branches.specs.declared.position.Position.{Position}
use Rattle.branches.specs.Following.{At}
use Rattle.branches.specs.Bests.{FirstLeaving}

-- a reason holds where a call is refused
pub refused : {F A : Type 0} (refusal : F → Refusal) (order : List ℕ) (Holds : F → Type 0) (r : Result A Refusal) → Verdict refusal order Holds r → result_ok r ≡ None → (f : F) × Holds f
refused refusal order Holds (Ok x) v is = let z : ◌≡◌ {A = ℕ} 0 1 = cc in absurd (omega arith)
refused refusal order Holds (Err e) v is = (v.0, v.2.holds)

-- who travels arrives no earlier
later : (m : Meaning) → Lawful m → (S : ℕ → Type 0) (u t d a : ℕ) (es : List ℕ) → Way m S u t d a es → t ≤ a
later m law S u t d a [] (p, e) = omega arith
later m law S u t d a (e ∷ es) (v, s, st, k, w) = let l = arrives_after law st in let r = later m law (Also u S) v s d a es w in omega arith

-- a stop that is reached does not lie behind
not_behind : (m : Meaning) (before after : List ℕ) (u t v i : ℕ) (p : List ℕ) → Through m before u t p after v i → ¬ In u before → ¬ In v after
not_behind m before after u t v i [] (x, y, z) n = rw (x, y) n
not_behind m before after u t v i (e ∷ p) (w, s, st, k, al) n = not_behind m (u ∷ before) after w s v i p al k

pub before_le : (b a : ℕ) (xs ys : List ℕ) → Before b xs a ys → b ≤ a
before_le b a xs ys (inl l) = omega arith
before_le b a xs ys (inr (e, l)) = omega arith

in_time : (m : Meaning) (S B : ℕ → Type 0) (u t d by latest a : ℕ) (es : List ℕ) → a ≤ latest → Onward m S B u t d by a es → Onward m S B u t d latest a es
in_time m S B u t d by latest a es le j = record { way = j.way; unbarred = j.unbarred; in_time = le }

-- the first by an instant is the first by a later one
widen : (m : Meaning) (S B : ℕ → Type 0) (u t d by latest : ℕ) → by ≤ latest → (a : ℕ) (r : List ℕ) → FirstInRank (Onward m S B u t d by) a r → FirstInRank (Onward m S B u t d latest) a r
widen m S B u t d by latest le a r f =
    let l = f.member.in_time in
    record {
      member = in_time m S B u t d by latest a r (omega arith) f.member;
      none_before = λ b fs j h. let k = before_le b a fs r h in f.none_before b fs (in_time m S B u t d latest by b fs (omega arith) j) h;
    }

module _ (m : Meaning) (law : Lawful m) (q : Question) (ys : List (List ℕ)) (s : SimpleEntries m q ys) (p : List ℕ) (here : Position) (at : At m q p here)
    (place : Place (λ y. In y ys) p) (barred : List ℕ) (bars : (x : ℕ) → In x barred ↔ NextEdge (λ y. In y ys) p x)
    (by : ℕ) (le : by ≤ q.latest) where
  away : here.stop ≢ q.destination
  away = not_there m (λ y. In y ys) q.origin q.start q.destination q.latest q.apart (ways m q ys s) p at.behind here.stop here.instant at.through place

  -- what leaves the entries here, in the words of the theorems and in those of the detour
  abbrev Here : ℕ → List ℕ → Type 0
  Here = Onward m (λ x. In x at.behind) (NextEdge (λ y. In y ys) p) here.stop here.instant q.destination q.latest

  abbrev Out : ℕ → ℕ → List ℕ → Type 0
  Out by = Onward m (Holds here.behind) (λ e. In e barred) here.stop here.instant q.destination by

  same_shut : (x : ℕ) → Also here.stop (Holds here.behind) x ↔ Also here.stop (λ y. In y at.behind) x
  same_shut x = (
    (λ h. elim h [ inl e ↦ inl e | inr k ↦ inr ((at.held x).0 k) ]),
    λ h. elim h [ inl e ↦ inl e | inr k ↦ inr ((at.held x).1 k) ],
  )

  same : (a : ℕ) (r : List ℕ) → Out q.latest a r ↔ Here a r
  same = same_onward m (Holds here.behind) (λ x. In x at.behind) (λ e. In e barred) (NextEdge (λ y. In y ys) p) here.stop here.instant q.destination q.latest same_shut bars

  to_unlisted : (a : ℕ) (r : List ℕ) → Here a r → Unlisted m q ys a (p ++ r)
  to_unlisted a r j =
      (fresh m q ys s a (p ++ r)).0
      (sound m (λ y. In y ys) q.origin q.start q.destination q.latest q.apart (ways m q ys s) p a r
      (record { place = place; behind = at.behind; stop = here.stop; instant = here.instant; through = at.through; onward = j }))

  to_here : (a : ℕ) (r : List ℕ) → Branches m q ys p a r → Here a r
  to_here a r j = on (one_through m [] at.behind j.behind q.origin q.start here.stop j.stop here.instant j.instant p at.through j.through)
    where
      on : (j.behind ≡ at.behind) × (j.stop ≡ here.stop) × (j.instant ≡ here.instant) → Here a r
      on (x₁, x₂, x₃) = rw (x₁, x₂, x₃) at j.onward

  -- where a detour is refused, none leads on
  none_out : (f : DetourRefusal) → Reason m (Holds here.behind) (λ e. In e barred) here.stop here.instant q.destination by f → (a : ℕ) (r : List ℕ) → ¬ Out by a r
  none_out StopsUnfit (inl e) a r j = away e
  none_out StopsUnfit (inr (inl h)) a r j = not_behind m [] at.behind q.origin q.start here.stop here.instant p at.through (λ k. k) ((at.held here.stop).0 h)
  none_out StopsUnfit (inr (inr h)) a r j = no_return m (Holds here.behind) here.stop here.instant q.destination a r h away j.way
  none_out InstantsUnfit (inl h) a r j = let l = later m law (Holds here.behind) here.stop here.instant q.destination a r j.way in let k = j.in_time in omega arith
  none_out InstantsUnfit (inr h) a r j = let l = q.by_day_end in omega arith
  none_out NoDetour n a r j = n a r ((detour_onward m (Holds here.behind) (λ e. In e barred) here.stop here.instant q.destination by a r).1 j)

  pub none_leaves : (f : DetourRefusal) → Reason m (Holds here.behind) (λ e. In e barred) here.stop here.instant q.destination by f → FirstLeaving m q ys p by None
  none_leaves f h a r j = not_by (cases_lt by a)
    where
      not_by : (by < a) ⊎ (a ≤ by) → by < a
      not_by (inr l) = absurd (none_out f h a r (in_time m (Holds here.behind) (λ e. In e barred) here.stop here.instant q.destination q.latest by a r l ((same a r).1 (to_here a r j))))
      not_by (inl l) = l

  module _ (a : ℕ) (r : List ℕ) (f : FirstInRank (Detour m (Holds here.behind) (λ e. In e barred) here.stop here.instant q.destination by) a r) where
    -- the first by the instant is the first of all that leaves the entries here
    first_here : FirstInRank Here a r
    first_here =
        same_first (Out q.latest) Here same a r
        (widen m (Holds here.behind) (λ e. In e barred) here.stop here.instant q.destination by q.latest le a r
        ((first_detour m (Holds here.behind) (λ e. In e barred) here.stop here.instant q.destination by a r).0 f))

    fits : length p + length r ≤ 255
    fits =
        let k = few_edges m q law a (p ++ r) (to_unlisted a r first_here.member).simple in
        let l = length-append p r in
        omega arith

    one_leaves : (x : Journey) → x.arrival ≡ a → x.edges.items ≡ p ++ r → FirstLeaving m q ys p by (Some x)
    one_leaves x e₁ e₂ = rw (e₁, e₂) (to_unlisted a r first_here.member, λ b es n. place_beaten m ys q.origin q.start q.destination q.latest b es p at.behind here.stop here.instant at.through a r first_here n)

    pub joined_leaves : {E : Type 0} (x : Result Journey E) → IfOk x (λ j. (j.arrival ≡ a) × (j.edges.items ≡ p ++ r)) → IsOk x ↔ (length p + length r ≤ 255) → FirstLeaving m q ys p by (result_ok x)
    joined_leaves (Ok x) h v = one_leaves x h.0 h.1
    joined_leaves (Err e) h v = absurd (cc (v.1 fits))
