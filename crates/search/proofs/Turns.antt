-- One turn more of a run.
use Rattle.std.proofs.Common.{◌≡◌, ℕ, zero, suc, ◌+◌, ◌<◌, ◌≤◌, ◌⊎◌, List, [], ◌∷◌, ◌++◌, length, get_or, take, set, Ok, Err, Result, IsErr, IfOk, sym, refl, ap, ◌∙◌, subst, subst₂, inl, inr, append_assoc, append-nil, add-one, arith}
use Rattle.std.specs.Result.{IsErrAnd}
use Rattle.std.proofs.lemmas.Bool.{cases_lt}
use Rattle.networks.specs.Networks.{Meaning}
use Rattle.refusals.specs.Verdicts.{Verdict}
use Rattle.refusals.specs.declared.Refusal.{Refusal}
use Rattle.refusals.specs.declared.Refusal.TheVariants.{OfSearch}
use Rattle.refusals.specs.declared.SearchRefusal.{SearchRefusal}
use Rattle.refusals.specs.declared.SearchRefusal.TheVariants.{TooManyEntries, NoMore, NotGiven, NotSimple, AlreadyListed, SheetTooShort}
use Rattle.journeys.specs.declared.question.Question.{Question}
use Rattle.journeys.specs.Journeys.{Unlisted}
use Rattle.entries.specs.declared.entry.Entries.{Entries}
use Rattle.entries.specs.declared.entry.Journey.{Journey}
use Rattle.entries.specs.Listing.{listed, given_of}
use Rattle.search.specs.Reasons.{AgainstStrike}
use Rattle.search.specs.Calls.{told_journey}
use Rattle.search.specs.Sounds.{Sound}
use Rattle.search.specs.Runs.{Ask, Said, Turn, asked, turns, gives, given_by, Strikes, Lists, Right, LawAfter, Law, strike}
use Rattle.search.specs.Turning.{Entered, Ran}
use Rattle.search.specs.declared.calls.Call.{Call}
use Rattle.search.specs.declared.calls.Reply.TheVariants.{Struck}

-- the journey that is read back from a buffer
pub told_is : {E : Type 0} (x : Result Journey E) (j : Journey) (buffer : List ℕ) (p : ℕ × ℕ) → x ≡ Ok j → IfOk x (λ j. (j.arrival ≡ p.0) × (j.edges.items ≡ take p.1 buffer)) → j ≡ told_journey buffer p
told_is {E = E} x j buffer p e h =
    let (a, b) = subst (λ (x : Result Journey E). IfOk x (λ j. (j.arrival ≡ p.0) × (j.edges.items ≡ take p.1 buffer))) e h in
    λ i. record { arrival = a i; edges = record { items = b i } }

-- a refusal is passed on as it is
pub err_is : {A E : Type 0} (r : Result A E) (e : E) → IsErr r × IsErrAnd r (λ x. x ≡ e) → r ≡ Err e
err_is (Ok x) e h = absurd h.1
err_is (Err x) e h = ap Err h.1

module _ (m : Meaning) (q : Question) where
  pub entered : (old new : Entries) (ask : Ask) (said : Said) (more : List (List ℕ)) → Right m q (given_of old) (listed old) ask said → Lists m q (listed old) ask said more →
      listed new ≡ listed old ++ more → given_of new ≡ given_of old ++ gives ask said → Sound m q new → Entered m q old ask said new
  entered old new ask said more r l e f s = record {
    more = more;
    kept = record {
      right = r;
      lists = l;
      ordered = rw (← e, ← f) s.ordered;
    };
    lists = e;
    gave = f;
  }

  -- a turn that enters nothing
  pub unchanged : (old new : Entries) (ask : Ask) (said : Said) → Right m q (given_of old) (listed old) ask said → Lists m q (listed old) ask said [] → gives ask said ≡ [] →
      new ≡ old → Sound m q old → Entered m q old ask said new
  unchanged old new ask said r l n e s =
      entered old new ask said [] r l (ap listed e ∙ sym (append-nil (listed old)))
      (ap given_of e ∙ sym (append-nil (given_of old)) ∙ ap (λ (z : List Journey). given_of old ++ z) (sym n)) (subst (Sound m q) (sym e) s)

  -- where a strike is refused, it strikes nothing
  pub not_struck : (ys : List (List ℕ)) (es : List ℕ) (r : Refusal) → Verdict {F = SearchRefusal} {A = Unit {0}} OfSearch (53 ∷ 54 ∷ 50 ∷ []) (AgainstStrike m q ys es) (Err r) → ¬ Strikes m q ys es
  not_struck ys es r (f, e, w) = no_strike f w.holds
    where
      no_strike : (f : SearchRefusal) → AgainstStrike m q ys es f → ¬ Strikes m q ys es
      no_strike TooManyEntries h (room, k) = omega arith
      no_strike NoMore h k = h
      no_strike NotGiven h k = h
      no_strike NotSimple h (room, (a, j)) = h a j.simple
      no_strike AlreadyListed h (room, (a, j)) = j.not_listed h
      no_strike SheetTooShort h k = h

  -- a strike that is answered strikes its journey
  pub struck_turn : (old new : Entries) (es : List ℕ) → ((a : ℕ) × Unlisted m q (listed old) a es) → Verdict {F = SearchRefusal} {A = Unit {0}} OfSearch (53 ∷ 54 ∷ 50 ∷ []) (AgainstStrike m q (listed old) es) (Ok tt) →
      listed new ≡ listed old ++ (es ∷ []) → given_of new ≡ given_of old → Sound m q new → Entered m q old (strike es) (Ok Struck) new
  struck_turn old new es j v e f s =
      entered old new (strike es) (Ok Struck) (es ∷ []) ((room, j), v) (inl ((room, j), refl)) e (f ∙ sym (append-nil (given_of old))) s
    where
      room : length (listed old) < 16
      room = elim (cases_lt (length (listed old)) 16) [ inl l ↦ l | inr l ↦ absurd (v TooManyEntries l) ]

  given_last : (ts : List Turn) (t : Turn) → given_by (ts ++ (t ∷ [])) ≡ given_by ts ++ gives t.ask t.said
  given_last [] t = append-nil (gives t.ask t.said)
  given_last (x ∷ ts) t = ap (λ (z : List Journey). gives x.ask x.said ++ z) (given_last ts t) ∙ sym (append_assoc (gives x.ask x.said) (given_by ts) (gives t.ask t.said))

  pub ran_more : (old now new : Entries) (ts : List Turn) (t : Turn) → Ran m q old ts now → Entered m q now t.ask t.said new → Ran m q old (ts ++ (t ∷ [])) new
  ran_more old now new ts t r e = record {
    law = λ rest h. rw append_assoc (r.law (t ∷ rest) (e.more, e.kept, rw (← e.gave, ← e.lists) h));
    gave = e.gave ∙ ap (λ (z : List Journey). z ++ gives t.ask t.said) r.gave ∙ append_assoc (given_of old) (given_by ts) (gives t.ask t.said) ∙ ap (λ (z : List Journey). given_of old ++ z) (sym (given_last ts t));
  }

  -- a whole run from a search just opened
  pub whole_law : (old new : Entries) (ts : List Turn) → listed old ≡ [] → given_of old ≡ [] → Ran m q old ts new → Law m q ts
  whole_law old new ts e f r = subst₂ (λ (js : List Journey) (ys : List (List ℕ)). LawAfter m q js ys ts) f e (rw append-nil at (r.law [] tt))

-- the turns, call by call
turns_suc : (cs : List Call) (xs : List Said) (k : ℕ) (c : Call) (x : Said) → k < length cs → k < length xs →
    turns (take (suc k) cs) (take (suc k) (set xs k x)) ≡ turns (take k cs) (take k xs) ++ (record { ask = asked (get_or cs k c); said = x } ∷ [])
turns_suc [] xs k c x l n = absurd (omega arith)
turns_suc (d ∷ cs) [] k c x l n = absurd (omega arith)
turns_suc (d ∷ cs) (y ∷ xs) zero c x l n = refl
turns_suc (d ∷ cs) (y ∷ xs) (suc k) c x l n = ap (λ (z : List Turn). record { ask = asked d; said = y } ∷ z) (turns_suc cs xs k c x (omega arith) (omega arith))

pub turns_more : (cs : List Call) (xs : List Said) (k : ℕ) (c : Call) (x : Said) → k < length cs → k < length xs →
    turns (take (k + 1) cs) (take (k + 1) (set xs k x)) ≡ turns (take k cs) (take k xs) ++ (record { ask = asked (get_or cs k c); said = x } ∷ [])
turns_more cs xs k c x l n = rw add-one (turns_suc cs xs k c x l n)

pub turns_all : (cs : List Call) (xs : List Said) (k : ℕ) → (length cs ≤ k) ⊎ (length xs ≤ k) → turns (take k cs) (take k xs) ≡ turns cs xs
turns_all [] xs zero h = refl
turns_all [] xs (suc k) h = refl
turns_all (c ∷ cs) [] zero h = refl
turns_all (c ∷ cs) [] (suc k) h = refl
turns_all (c ∷ cs) (x ∷ xs) zero (inl h) = absurd (omega arith)
turns_all (c ∷ cs) (x ∷ xs) zero (inr h) = absurd (omega arith)
turns_all (c ∷ cs) (x ∷ xs) (suc k) (inl h) = ap (λ (z : List Turn). record { ask = asked c; said = x } ∷ z) (turns_all cs xs k (inl (omega arith)))
turns_all (c ∷ cs) (x ∷ xs) (suc k) (inr h) = ap (λ (z : List Turn). record { ask = asked c; said = x } ∷ z) (turns_all cs xs k (inr (omega arith)))
