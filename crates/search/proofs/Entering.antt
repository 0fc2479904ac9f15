-- One entry more, and what stays true of the entries.
use Rattle.std.proofs.Common.{◌≡◌, ℕ, ◌<◌, ◌≤◌, Bool, true, false, List, [], ◌∷◌, ◌++◌, length, map, filter, Ok, Err, Result, Some, None, Option, ap, ◌∙◌, inl, inr, append-nil, arith}
use Rattle.std.proofs.lemmas.List.{map-append, length-map}
use Rattle.std.proofs.lemmas.List.Elements.{filter-append}
use Rattle.std.proofs.lemmas.Bool.{cases_lt}
use Rattle.std.specs.Option.{ok_or}
use Rattle.std.specs.Result.{IsOk, OnOk}
use Rattle.refusals.specs.Told.{told}
use Rattle.refusals.specs.Verdicts.{Precedes, Judged}
use Rattle.refusals.specs.declared.Refusal.TheVariants.{OfSearch}
use Rattle.refusals.specs.declared.SearchRefusal.{SearchRefusal}
use Rattle.refusals.specs.declared.SearchRefusal.TheVariants.{TooManyEntries, NoMore, NotGiven, NotSimple, AlreadyListed, SheetTooShort}
use Rattle.networks.specs.Networks.{Meaning}
use Rattle.journeys.specs.declared.question.Question.{Question}
use Rattle.journeys.specs.Journeys.{Simple, Unlisted}
use Rattle.journeys.specs.Rank.{FirstInRank}
use Rattle.entries.specs.declared.entry.Journey.{Journey}
use Rattle.entries.specs.declared.entry.Standing.TheVariants.{Given, Struck}
use Rattle.entries.specs.declared.entry.Entry.{Entry}
use Rattle.entries.specs.declared.entry.Entries.{Entries}
use Rattle.entries.specs.Listing.{edges_of, is_given, listed, given_of}
use Rattle.entries.proofs.Listed.{in_last}
use Rattle.branches.specs.Bests.{First}
use Rattle.search.specs.Reasons.{AgainstNext}
use Rattle.search.specs.Sounds.{Ordered, Sound}

-- where fewer than sixteen are listed, there is room for an entry
pub room : (es : Entries) → ¬ (16 ≤ length (listed es)) → length es.list.items < 16
room es few = let same = length-map es.list.items edges_of in omega arith

-- what is promised on Ok, where it is Ok
pub on_ok : {A E : Type 0} (r : Result A E) (P : Type 0) → IsOk r → OnOk r P → P
on_ok (Ok x) P h p = p
on_ok (Err e) P h p = absurd (cc h)

module _ (m : Meaning) (q : Question) (old new : Entries) (s : Sound m q old) where
  -- what is unlisted once more are listed was unlisted before
  fewer : (es : List ℕ) (a : ℕ) (x : List ℕ) → Unlisted m q (listed old ++ (es ∷ [])) a x → Unlisted m q (listed old) a x
  fewer es a x j = record { simple = j.simple; not_listed = λ h. j.not_listed ((in_last (listed old) x es).1 (inl h)) }

  sound_more : (given : List Journey) (es : List ℕ) (a : ℕ) → listed new ≡ listed old ++ (es ∷ []) → given_of new ≡ given → Simple m q a es → Ordered m q given (listed old ++ (es ∷ [])) → Sound m q new
  sound_more given es a e f j o = record {
    simple = rw e (λ y h. elim ((in_last (listed old) y es).0 h) [ inl k ↦ s.simple y k | inr k ↦ rw k (a, j) ]);
    ordered = rw (e, f) o;
  }

  listed_more : (x : Entry) → new.list.items ≡ old.list.items ++ (x ∷ []) → listed new ≡ listed old ++ (edges_of x ∷ [])
  listed_more x e = ap (map edges_of) e ∙ map-append edges_of old.list.items (x ∷ [])

  given_more : (x : Entry) → new.list.items ≡ old.list.items ++ (x ∷ []) → given_of new ≡ given_of old ++ map (λ e. e.journey) (filter is_given (x ∷ []))
  given_more x e =
      ap (λ (es : List Entry). map (λ e. e.journey) (filter is_given es)) e ∙ ap (map (λ (e : Entry). e.journey)) (filter-append is_given old.list.items (x ∷ []))
      ∙ map-append (λ (e : Entry). e.journey) (filter is_given old.list.items) (filter is_given (x ∷ []))

  module _ (x : Journey) where
    pub sound_given : new.list.items ≡ old.list.items ++ (record { standing = Given; journey = x } ∷ []) → FirstInRank (Unlisted m q (listed old)) x.arrival x.edges.items → Sound m q new
    sound_given e f =
        sound_more (given_of old ++ (x ∷ [])) x.edges.items x.arrival (listed_more (record { standing = Given; journey = x }) e) (given_more (record { standing = Given; journey = x }) e) f.member.simple
        (λ j h a es u.
        elim ((in_last (given_of old) j x).0 h) [
          | inl k ↦ s.ordered j k a es (fewer x.edges.items a es u)
          | inr k ↦ rw k (f.none_before a es (fewer x.edges.items a es u))
        ])

    pub sound_struck : new.list.items ≡ old.list.items ++ (record { standing = Struck; journey = x } ∷ []) → Simple m q x.arrival x.edges.items → Sound m q new
    sound_struck e j = sound_more (given_of old) x.edges.items x.arrival (listed_more (record { standing = Struck; journey = x }) e) (given_more (record { standing = Struck; journey = x }) e ∙ append-nil (given_of old)) j (λ i h a es u. s.ordered i h a es (fewer x.edges.items a es u))

pub not_full : (b : Bool) (n : ℕ) → b ≡ false → (16 ≤ n → b ≡ true) → n < 16
not_full b n e f = elim (cases_lt n 16) [ inl l ↦ l | inr l ↦ absurd (cc (e, f l)) ]

-- where there is room, next is refused only where no journey is unlisted
pub first_judged : (m : Meaning) (q : Question) (ys : List (List ℕ)) (o : Option Journey) → First m q ys o → length ys < 16 → Judged OfSearch (50 ∷ 51 ∷ []) (AgainstNext m q ys) (ok_or o NoMore)
first_judged m q ys (Some x) f room = none
  where
    none : (r : SearchRefusal) → AgainstNext m q ys r → ⊥
    none TooManyEntries k = omega arith
    none NoMore k = k x.arrival x.edges.items f.member
    none NotGiven k = k
    none NotSimple k = k
    none AlreadyListed k = k
    none SheetTooShort k = k
first_judged m q ys None f room = record { holds = f; none_before = before }
  where
    before : (r : SearchRefusal) → Precedes (50 ∷ 51 ∷ []) (told (OfSearch r)) (told (OfSearch NoMore)) → AgainstNext m q ys r → ⊥
    before TooManyEntries p k = omega arith
    before NoMore (inl l) k = omega arith
    before NoMore (inr (e, l)) k = omega arith
    before NotGiven p k = k
    before NotSimple p k = k
    before AlreadyListed p k = k
    before SheetTooShort p k = k
