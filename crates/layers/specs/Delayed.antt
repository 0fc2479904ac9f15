-- Late notices: the edge's notice is found, one more keeps them of different edges, and a network under notices keeps the laws.
use Rattle.std.specs.Prelude.{◌≡◌, ℕ, zero, suc, List, [], ◌∷◌, ◌++◌, false, is_some, Some, None, Option, ◌==◌, ◌≢◌, refl}
use Rattle.std.proofs.Common.{sym, ap, ◌∙◌, inl, inr, arith}
use Rattle.std.proofs.lemmas.List.{get_or_default}
use Rattle.std.proofs.lemmas.List.Quantifiers.{all_pairs_push}
use Rattle.std.proofs.lemmas.Bool.{cases_Bool, eqb-true, eqb-false}
use Rattle.std.proofs.lemmas.Bool.Decides.{nat_tests}
use Rattle.networks.specs.Networks.{Meaning, Lawful, InDay, NotBefore, NoLater}
use Rattle.layers.specs.Delays.{NoticeAt, TheNotice, Once, seconds_of, later, delayed}
use Rattle.layers.specs.declared.notices.Notice.{Notice}

-- a notice of another edge in front changes nothing
behind : (n : Notice) (ns : List Notice) (e : ℕ) (o : Option ℕ) → (n.edge ≢ e) → TheNotice ns e o → TheNotice (n ∷ ns) e o
behind n ns e None ne h = λ p. none p.0 p.1 where
  none : (k : ℕ) → NoticeAt (n ∷ ns) e k → ⊥
  none zero a = ne (a.1 n)
  none (suc k) a = let within = a.0 in h (k, (omega arith, a.1))
behind n ns e (Some s) ne h = let within = h.1.0 in (suc h.0, (omega arith, h.1.1), h.2, other h.0 h.3) where
  other : (k : ℕ) → ((j : ℕ) → NoticeAt ns e j → j ≡ k) → (j : ℕ) → NoticeAt (n ∷ ns) e j → j ≡ suc k
  other k only zero a = absurd (ne (a.1 n))
  other k only (suc j) a = let within = a.0 in ap suc (only j (omega arith, a.1))

-- one of the edge in front is its only one
front : (n : Notice) (ns : List Notice) (e : ℕ) → Once (n ∷ ns) → n.edge ≡ e → (j : ℕ) → NoticeAt (n ∷ ns) e j → j ≡ 0
front n ns e once is zero a = refl
front n ns e once is (suc j) a = let within = a.0 in absurd (once 0 (suc j) n (omega arith) (omega arith) (is ∙ sym (a.1 n)))

pub the_notice : (ns : List Notice) (e : ℕ) → Once ns → TheNotice ns e (seconds_of ns e)
the_notice [] e once = λ p. let within = p.1.0 in absurd (omega arith)
the_notice (n ∷ ns) e once =
    elim (cases_Bool (n.edge == e)) [
      | inl here ↦
          let is = eqb-true n.edge e here in
          rw here (0, (omega arith, λ d. is), (λ d. refl), front n ns e once is)
      | inr other ↦
          let fewer : Once ns = λ i j d l u. once (suc i) (suc j) d (omega arith) (omega arith) in
          rw other (behind n ns e (seconds_of ns e) (eqb-false n.edge e other) (the_notice ns e fewer))
    ]

-- one more notice, of an edge that has none
pub once_more : (ns : List Notice) (n : Notice) (o : Option ℕ) → Once ns → TheNotice ns n.edge o → is_some o ≡ false → Once (ns ++ n ∷ [])
once_more ns n (Some s) once is none = cc
once_more ns n None once is none =
    all_pairs_push (λ a b. a.edge ≢ b.edge) ns n once (λ k d l e. is (k, (l, λ d'. ap (λ z. z.edge) (get_or_default ns k d' d l) ∙ e)))

pub delayed_unchanged : (ns : List Notice) (m : Meaning) → ns ≡ [] → delayed ns m ≡ m
delayed_unchanged ns m e = ap (λ (ls : List Notice). delayed ls m) e

later_day : (o a : Option ℕ) → InDay a → InDay (later o a)
later_day None a h = h
later_day (Some s) None h = tt
later_day (Some s) (Some u) h = grind (arith, nat_tests)

later_early : (t : ℕ) (o a : Option ℕ) → NotBefore t a → NotBefore t (later o a)
later_early t None a h = h
later_early t (Some s) None h = tt
later_early t (Some s) (Some u) h = grind (arith, nat_tests)

later_mono : (o a b : Option ℕ) → NoLater a b → NoLater (later o a) (later o b)
later_mono None a b h = h
later_mono (Some s) a None h = tt
later_mono (Some s) None (Some v) h = absurd h
later_mono (Some s) (Some u) (Some v) h = grind (arith, nat_tests)

later_none : (o a : Option ℕ) → a ≡ None → later o a ≡ None
later_none None a e = e
later_none (Some s) a e = ap (later (Some s)) e

pub delayed_lawful : (ns : List Notice) (m : Meaning) → Lawful m → Lawful (delayed ns m)
delayed_lawful ns m l = record {
  few = l.few;
  stops = l.stops;
  no_ends = l.no_ends;
  no_edge = λ e t h. later_none (seconds_of ns e) (m.lookup e t) (l.no_edge e t h);
  past_day = λ e t h. later_none (seconds_of ns e) (m.lookup e t) (l.past_day e t h);
  in_day = λ e t. later_day (seconds_of ns e) (m.lookup e t) (l.in_day e t);
  never_early = λ e t. later_early t (seconds_of ns e) (m.lookup e t) (l.never_early e t);
  monotone = λ e s t h. later_mono (seconds_of ns e) (m.lookup e s) (m.lookup e t) (l.monotone e s t h);
}
