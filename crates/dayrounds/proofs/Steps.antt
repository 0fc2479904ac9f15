-- The round trips, from what pack and unpack promise.
use Rattle.std.proofs.Common.{◌≡◌, ℕ, suc, ◌≤◌, List, [], ◌∷◌, length, take, drop, Ok, Err, Result, sym, refl, ap, ◌∙◌, subst, inl, inr, arith}
use Rattle.std.proofs.lemmas.List.{take_at, length-take-le}
use Rattle.refusals.specs.Told.{told}
use Rattle.refusals.specs.Verdicts.{Verdict, First, Precedes, turn}
use Rattle.refusals.specs.declared.Refusal.{Refusal}
use Rattle.refusals.specs.declared.Refusal.TheVariants.{OfFile}
use Rattle.refusals.specs.declared.FileRefusal.{FileRefusal}
use Rattle.refusals.specs.declared.FileRefusal.TheVariants.{EndsEarly, UnknownMark, KindOutOfOrder, ListFull, BytesAfterEnd, BufferTooShort}
use Rattle.dayformat.specs.declared.Lengths.{Lengths}
use Rattle.dayformat.specs.Faults.{order, Fault}
use Rattle.dayfile.specs.Records.{Records, counts, front, encoding}
use Rattle.dayfile.specs.Calls.{Front, Taken, Short, Written, Unpacked}
use Rattle.dayrounds.specs.Rounds.{both_orders, Blocked, Returned, Reread}

-- pack has no reason where the buffer is long enough
long_enough : (file buffer : List ℕ) (f : FileRefusal) → length file ≤ length buffer → Short file buffer f → ⊥
long_enough file buffer (EndsEarly p) h s = s
long_enough file buffer (UnknownMark p) h s = s
long_enough file buffer (KindOutOfOrder p) h s = s
long_enough file buffer (ListFull p) h s = s
long_enough file buffer (BytesAfterEnd p) h s = s
long_enough file buffer BufferTooShort h s = omega arith

-- the reasons of unpack keep their order
shifted : (file : List ℕ) (room : Lengths) (f : FileRefusal) → Fault file room f → turn both_orders (told (OfFile f)).number ≡ suc (turn order (told (OfFile f)).number)
shifted file room (EndsEarly p) d = refl
shifted file room (UnknownMark p) d = refl
shifted file room (KindOutOfOrder p) d = refl
shifted file room (ListFull p) d = refl
shifted file room (BytesAfterEnd p) d = refl
shifted file room BufferTooShort d = absurd d.says

pub blocked_fault : (file : List ℕ) (room : Lengths) (buffer : List ℕ) (f : FileRefusal) → length file ≤ length buffer → First OfFile order (Fault file room) f → First OfFile both_orders (Blocked file room buffer) f
blocked_fault file room buffer f h x = record { holds = inr x.holds; none_before = before }
  where
    before : (g : FileRefusal) → Precedes both_orders (told (OfFile g)) (told (OfFile f)) → Blocked file room buffer g → ⊥
    before g p (inl s) = long_enough file buffer g h s
    before g (inl p) (inr d) = x.none_before g (inl p) d
    before g (inr p) (inr d) = x.none_before g (inr (p.0, omega (arith, p.1, shifted file room g d, shifted file room f x.holds))) d

-- what was read is written, where the buffer is long enough for the file
pub written_back : (file buffer : List ℕ) (was is r : Records) (n : Lengths) → length file ≤ length buffer → ((f : FileRefusal) → Fault file (counts was) f → ⊥) → Taken file was is n → r ≡ front n is
    → (a : Result ℕ Refusal) → Verdict OfFile (6 ∷ []) (Short (encoding r) buffer) a → Verdict OfFile both_orders (Blocked file (counts was) buffer) a
written_back file buffer was is r n h none t e (Ok m) v = λ f b. elim b [ inl s ↦ long_enough file buffer f h s | inr d ↦ none f d ]
written_back file buffer was is r n h none t e (Err x) v =
    absurd (long_enough file buffer v.0 h (subst (λ (z : List ℕ). Short z buffer v.0) (ap encoding e ∙ sym t.read.encoded) v.2.holds))

-- what was written is read as the same records
module _ (r was is : Records) (buffer buffer' : List ℕ) (n : ℕ) (w : Written (encoding r) buffer buffer' n) where
  part_is : take n buffer' ≡ encoding r
  part_is = ap (take n) w.front ∙ take_at (encoding r) (drop n buffer) n (omega (arith, w.count))

  enough : length (encoding r) ≤ length buffer
  enough = omega (arith, w.count, w.fits)

  returned : (m : Lengths) → Taken (encoding r) was is m → Returned r was is m
  returned m t =
      let o : r ≡ front m is = t.read.only r refl in
      let a : m.connections ≡ length r.connections = sym (ap (λ (z : Records). length z.connections) o ∙ length-take-le m.connections is.connections (omega (arith, t.connections.fits, t.connections.long))) in
      let b : m.footpaths ≡ length r.footpaths = sym (ap (λ (z : Records). length z.footpaths) o ∙ length-take-le m.footpaths is.footpaths (omega (arith, t.footpaths.fits, t.footpaths.long))) in
      let c : m.lines ≡ length r.lines = sym (ap (λ (z : Records). length z.lines) o ∙ length-take-le m.lines is.lines (omega (arith, t.lines.fits, t.lines.long))) in
      let e : m ≡ counts r = λ i. record { connections = a i; footpaths = b i; lines = c i } in
      record {
        count = e;
        records = ap (λ (z : Lengths). front z is) (sym e) ∙ sym o;
        connections = subst (λ (z : ℕ). Front was.connections is.connections z) a t.connections;
        footpaths = subst (λ (z : ℕ). Front was.footpaths is.footpaths z) b t.footpaths;
        lines = subst (λ (z : ℕ). Front was.lines is.lines z) c t.lines;
      }

  again : (a : Result Lengths Refusal) → Verdict OfFile order (Fault (encoding r) (counts was)) a → Unpacked (encoding r) was is a
      → Verdict OfFile both_orders (Blocked (encoding r) (counts was) buffer) a × Reread buffer r was is a
  again (Ok m) v u = ((λ f b. elim b [ inl s ↦ long_enough (encoding r) buffer f enough s | inr d ↦ v f d ]), returned m u)
  again (Err e) v u = (
    (v.0, v.1, blocked_fault (encoding r) (counts was) buffer v.0 enough v.2),
    record { cause = λ fits. absurd (u.unread r.connections r.footpaths r.lines fits refl); same = u.same },
  )

  pub reread : (a : Result Lengths Refusal) → Verdict OfFile order (Fault (take n buffer') (counts was)) a → Unpacked (take n buffer') was is a
      → Verdict OfFile both_orders (Blocked (encoding r) (counts was) buffer) a × Reread buffer r was is a
  reread a v u = again a (subst (λ (z : List ℕ). Verdict OfFile order (Fault z (counts was)) a) part_is v) (subst (λ (z : List ℕ). Unpacked z was is a) part_is u)
