-- Which reason holds first at a place, and that none holds where a record is in order.
use Rattle.std.proofs.Common.{◌≡◌, ℕ, suc, ◌+◌, ◌<◌, ◌≤◌, List, length, Some, Err, Option, sym, refl, ap, ◌∙◌, subst, inl, inr, arith}
use Rattle.std.proofs.lemmas.Bool.{cases_order}
use Rattle.refusals.specs.Told.{told}
use Rattle.refusals.specs.Verdicts.{position, turn, Precedes, First}
use Rattle.refusals.specs.declared.Refusal.TheVariants.{OfFile}
use Rattle.refusals.specs.declared.FileRefusal.{FileRefusal}
use Rattle.refusals.specs.declared.FileRefusal.TheVariants.{EndsEarly, UnknownMark, KindOutOfOrder, ListFull, BytesAfterEnd, BufferTooShort}
use Rattle.dayformat.specs.declared.Kind.{Kind}
use Rattle.dayformat.specs.declared.Kind.TheVariants as kind
use Rattle.dayformat.specs.declared.Lengths.{Lengths}
use Rattle.dayformat.specs.Layout.{layout, size, Mark}
use Rattle.dayformat.specs.Faults.{order, Stand, Later, Full, Says, Here, Next, Finds, Fault}
use Rattle.dayformat.specs.Whole.{arranged}
use Rattle.dayformat.proofs.Progress.{Checked}
use Rattle.dayformat.proofs.Stands.{same_kind, size_least, stand_same, stand_next}

-- where a reason stands in the order at one place
abbrev pub rank : FileRefusal → ℕ
rank f = turn order (told (OfFile f)).number

-- none of the first t reasons holds where the whole record of a mark stands, unless the kind belongs earlier, its list is full or bytes follow the end
module _ (file : List ℕ) (p : ℕ) (k : Kind) (Late Filled : Kind → Type 0) (m : Mark file p k) (whole : p + size k ≤ length file) where
  pub at_mark : (t : ℕ) → (2 < t → Late k → ⊥) → (3 < t → Filled k → ⊥) → (4 < t → k ≡ kind.End → length file ≤ p + 2) → (g : FileRefusal) → rank g < t → Says file p Late Filled g → ⊥
  at_mark t a b c (UnknownMark q) h s = s.1 k m
  at_mark t a b c (EndsEarly q) h (inl s) = omega (arith, size_least k)
  at_mark t a b c (EndsEarly q) h (inr s) = let e : size s.0 ≡ size k = ap size (same_kind s.0 k (sym s.1 ∙ m)) in omega (arith, s.2)
  at_mark t a b c (KindOutOfOrder q) h s = a h (subst Late (same_kind s.0 k (sym s.1 ∙ m)) s.2)
  at_mark t a b c (ListFull q) h s = b h (subst Filled (same_kind s.0 k (sym s.1 ∙ m)) s.2)
  at_mark t a b c (BytesAfterEnd q) h s = omega (arith, c h (same_kind k kind.End (sym m ∙ s.0)), s.1)
  at_mark t a b c BufferTooShort h s = s

turn_most : (k : Kind) → (layout k).turn ≤ 3
turn_most kind.Connection = omega arith
turn_most kind.Footpath = omega arith
turn_most kind.Line = omega arith
turn_most kind.End = omega arith

module _ (file : List ℕ) (at : ℕ) (latest : Kind) where
  -- a reader has reasons at its own place alone, so the first in the order is the first
  first_here : (f : FileRefusal) → Here file at latest f → ((g : FileRefusal) → rank g < rank f → Here file at latest g → ⊥) → First OfFile order (Here file at latest) f
  first_here f h n = record { holds = h; none_before = before }
    where
      before : (g : FileRefusal) → Precedes order (told (OfFile g)) (told (OfFile f)) → Here file at latest g → ⊥
      before g (inl l) r = omega (arith, ap position r.0, ap position h.0)
      before g (inr l) r = n g l.1 r

  no_mark_cut : (g : FileRefusal) → rank g < 1 → Here file at latest (EndsEarly at) → Here file at latest g → ⊥
  no_mark_cut (UnknownMark q) h (_, inl s) r = omega (arith, r.1.0)
  no_mark_cut (UnknownMark q) h (_, inr s) r = r.1.1 s.0 s.1
  no_mark_cut (EndsEarly q) h e r = omega arith
  no_mark_cut (KindOutOfOrder q) h e r = omega arith
  no_mark_cut (ListFull q) h e r = omega arith
  no_mark_cut (BytesAfterEnd q) h e r = omega arith
  no_mark_cut BufferTooShort h e r = r.1

  -- what the reader finds is the first reason
  pub found_first : (f : FileRefusal) → Finds file at latest (Err f) → First OfFile order (Here file at latest) f
  found_first (UnknownMark p) r = first_here (UnknownMark p) r (λ g h s. omega arith)
  found_first (EndsEarly p) r = first_here (EndsEarly p) r (λ g h s. no_mark_cut g h (refl, r.1) s)
  found_first (KindOutOfOrder p) (r, w) = first_here (KindOutOfOrder p) r
      (λ g h s. at_mark file at w.0 _ _ w.1 w.2 2 (λ x. absurd (omega arith)) (λ x. absurd (omega arith)) (λ x. absurd (omega arith)) g h s.1)
  found_first (ListFull p) r = absurd r
  found_first (BytesAfterEnd p) r = first_here (BytesAfterEnd p) r
      (λ g h s. at_mark file at kind.End _ _ r.1.0 (omega (arith, r.1.1)) 4 (λ _ l. omega (arith, turn_most latest)) (λ _ l. l) (λ x. absurd (omega arith)) g h s.1)
  found_first BufferTooShort r = absurd r

module _ (file : List ℕ) (room n : Lengths) (p : ℕ) (latest : Kind) (c : Checked file room n p latest) where
  -- what is said of the place p, by the records that stand before it
  abbrev pub Said : FileRefusal → Type 0
  Said f = Says file p (Later (arranged n)) (Full room (arranged n)) f

  settled : (f : FileRefusal) (d : Fault file room f) → d.place ≡ p → Said f
  settled f d e =
      let s : Stand file 0 d.kinds p = subst (λ (z : ℕ). Stand file 0 d.kinds z) e d.stand in
      subst (λ (ks : List Kind). Says file p (Later ks) (Full room ks) f) (stand_same file (arranged n) d.kinds p c.stand s)
      (subst (λ (z : ℕ). Says file z (Later d.kinds) (Full room d.kinds) f) e d.says)

  at_place : (f : FileRefusal) (d : Fault file room f) → position (told (OfFile f)).place ≡ suc d.place
  at_place f d = ap position d.named

  pub first_fault : (f : FileRefusal) → (told (OfFile f)).place ≡ Some p → Said f
      → ((g : FileRefusal) → (told (OfFile g)).place ≡ Some p → rank g < rank f → Said g → ⊥) → First OfFile order (Fault file room) f
  first_fault f e s none = record { holds = record { place = p; kinds = arranged n; named = e; stand = c.stand; says = s }; none_before = before }
    where
      before : (g : FileRefusal) → Precedes order (told (OfFile g)) (told (OfFile f)) → Fault file room g → ⊥
      before g (inl l) d = c.clear g (subst (λ (o : Option ℕ). position (told (OfFile g)).place < position o) e l) d
      before g (inr l) d =
          let q : d.place ≡ p = omega (arith, at_place g d, ap position e, l.0) in
          none g (d.named ∙ ap (λ (z : ℕ). Some z) q) l.1 (settled g d q)

  -- where a record at p is in order, no fault is before the place behind it
  pub clear_next : (k : Kind) → Mark file p k → p + size k ≤ length file → (Later (arranged n) k → ⊥) → (Full room (arranged n) k → ⊥) → (k ≡ kind.End → length file ≤ p + 2)
      → (f : FileRefusal) → position (told (OfFile f)).place < suc (p + size k) → Fault file room f → ⊥
  clear_next k m w a b e f h d = elim (cases_order d.place p) [
    | inl q ↦ at_mark file p k (Later (arranged n)) (Full room (arranged n)) m w (suc (rank f)) (λ _. a) (λ _. b) (λ _. e) f (omega arith) (settled f d q)
    | inr o ↦ elim o [
      | inl l ↦ c.clear f (omega (arith, at_place f d)) d
      | inr l ↦ omega (arith, at_place f d, (stand_next file (arranged n) d.kinds k p d.place c.stand m d.stand l).1)
    ]
  ]

  -- a whole file has no fault
  pub none_whole : Mark file p kind.End → p + 2 ≡ length file → (f : FileRefusal) → Fault file room f → ⊥
  none_whole m w f d = elim (cases_order d.place p) [
    | inl q ↦ clear_next kind.End m (omega arith) late (λ x. x) (λ _. omega arith) f (omega (arith, at_place f d)) d
    | inr o ↦ elim o [
      | inl l ↦ c.clear f (omega (arith, at_place f d)) d
      | inr l ↦ omega (arith, (stand_next file (arranged n) d.kinds kind.End p d.place c.stand m d.stand l).0)
    ]
  ]
    where
      late : Later (arranged n) kind.End → ⊥
      late l = omega (arith, c.later kind.End l, turn_most latest)

  -- what the reader has against the record at p, unpack has too
  said : (f : FileRefusal) → Here file p latest f → Said f
  said (UnknownMark q) r = r.1
  said (EndsEarly q) r = r.1
  said (KindOutOfOrder q) r = (r.1.0, r.1.1, c.earlier r.1.0 r.1.2)
  said (ListFull q) r = absurd r.1.2
  said (BytesAfterEnd q) r = r.1
  said BufferTooShort r = r.1

  -- a full list is a reason before the end mark alone
  no_full : (f : FileRefusal) → Here file p latest f → 3 < rank f → (k : Kind) → Mark file p k → Full room (arranged n) k → ⊥
  no_full (UnknownMark q) r h k m l = omega arith
  no_full (EndsEarly q) r h k m l = omega arith
  no_full (KindOutOfOrder q) r h k m l = omega arith
  no_full (ListFull q) r h k m l = omega arith
  no_full (BytesAfterEnd q) r h k m l = subst (λ (z : Kind). Full room (arranged n) z) (same_kind k kind.End (sym m ∙ r.1.0)) l
  no_full BufferTooShort r h k m l = r.1

  pub refused_read : (f : FileRefusal) → First OfFile order (Here file p latest) f → First OfFile order (Fault file room) f
  refused_read f r = first_fault f r.holds.0 (said f r.holds) none
    where
      against : (g : FileRefusal) → (told (OfFile g)).place ≡ Some p → rank g < rank f → Here file p latest g → ⊥
      against g e h s = r.none_before g (inr (ap position (e ∙ sym r.holds.0), h)) s

      none : (g : FileRefusal) → (told (OfFile g)).place ≡ Some p → rank g < rank f → Said g → ⊥
      none (UnknownMark q) e h s = against (UnknownMark q) e h (e, s)
      none (EndsEarly q) e h s = against (EndsEarly q) e h (e, s)
      none (KindOutOfOrder q) e h s = against (KindOutOfOrder q) e h (e, (s.0, s.1, c.later s.0 s.2))
      none (ListFull q) e h s = no_full f r.holds h s.0 s.1 s.2
      none (BytesAfterEnd q) e h s = against (BytesAfterEnd q) e h (e, s)
      none BufferTooShort e h s = s

  -- a record that the reader hands out, and for which there is no room
  pub refused_full : (k : Kind) → Next file p latest k → Full room (arranged n) k → First OfFile order (Fault file room) (ListFull p)
  refused_full k x l = first_fault (ListFull p) refl (k, x.mark, l)
      (λ g e h s. at_mark file p k _ _ x.mark x.whole 3 (λ _ q. omega (arith, c.later k q, x.follows)) (λ q. absurd (omega arith)) (λ q. absurd (omega arith)) g h s)
