-- What a turn of the checking loop finds, from what the reader handed out.
use Rattle.std.proofs.Common.{◌≡◌, ℕ, ◌+◌, List, Some, None, sym, refl, ◌∙◌, subst}
use Rattle.refusals.specs.Verdicts.{First}
use Rattle.refusals.specs.declared.Refusal.{Refusal}
use Rattle.refusals.specs.declared.Refusal.TheVariants.{OfFile}
use Rattle.refusals.specs.declared.FileRefusal.{FileRefusal}
use Rattle.refusals.specs.declared.FileRefusal.TheVariants.{ListFull}
use Rattle.dayformat.specs.declared.Kind.{Kind}
use Rattle.dayformat.specs.declared.Kind.TheVariants as kind
use Rattle.dayformat.specs.declared.Lengths.{Lengths}
use Rattle.dayformat.specs.Layout.{step}
use Rattle.dayformat.specs.Faults.{order, Here, Next, Fault}
use Rattle.dayformat.specs.Whole.{Fits, Whole, Unread, Added}
use Rattle.dayformat.proofs.Progress.{Checked}
use Rattle.dayformat.proofs.Reasons.{refused_read, refused_full, none_whole}
use Rattle.dayformat.proofs.Checks.{checked_next, full_next}
use Rattle.dayformat.proofs.Files.{none_encoded}
use Rattle.dayreader.specs.declared.record.Record.{Record}
use Rattle.dayreader.specs.declared.record.Reader.{Reader}
use Rattle.dayreader.specs.Reads.{kind_of, Handed}

-- a file with a first fault encodes no lists
pub unread : (file : List ℕ) (room : Lengths) (f : FileRefusal) → First OfFile order (Fault file room) f → Unread file room
unread file room f x cs fs ls fits is = none_encoded file room cs fs ls fits is f x.holds

-- the loop stands at the reader's place
abbrev pub Stood : List ℕ → Lengths → Lengths → Reader → Type 0
Stood file room n r = (r.file.now ≡ file) × Checked file room n r.at r.latest

module _ (file : List ℕ) (room n : Lengths) (reader : Reader) (s : Stood file room n reader) where
  pub reader_refused : (e : Refusal) → ((f : FileRefusal) × (e ≡ OfFile f) × First OfFile order (Here reader.file.now reader.at reader.latest) f)
      → ((f : FileRefusal) × (e ≡ OfFile f) × First OfFile order (Fault file room) f)
  reader_refused e r = (r.0, r.1, refused_read file room n reader.at reader.latest s.1 r.0 (subst (λ (z : List ℕ). First OfFile order (Here z reader.at reader.latest) r.0) s.0 r.2))

  next_in : (r : Record) (after : Reader) → Handed reader r after → Next file reader.at reader.latest (kind_of r)
  next_in r after h = subst (λ (z : List ℕ). Next z reader.at reader.latest (kind_of r)) s.0 h.next

  pub list_full : (r : Record) (after : Reader) (k : Kind) → Handed reader r after → k ≡ kind_of r → Added room n k None → First OfFile order (Fault file room) (ListFull reader.at)
  list_full r after k h e a =
      refused_full file room n reader.at reader.latest s.1 (kind_of r) (next_in r after h) (full_next file room n reader.at reader.latest s.1 (kind_of r) (subst (λ (z : Kind). Added room n z None) e a))

  pub file_whole : (r : Record) (after : Reader) → Handed reader r after → kind_of r ≡ kind.End → ((f : FileRefusal) → Fault file room f → ⊥) × Whole file n × Fits n room
  file_whole r after h e =
      let x : Next file reader.at reader.latest kind.End = subst (λ (z : Kind). Next file reader.at reader.latest z) e (next_in r after h) in
      let l = x.last refl in
      (none_whole file room n reader.at reader.latest s.1 x.mark l, record { place = reader.at; stand = s.1.stand; end = x.mark; last = l }, s.1.fits)

  pub one_further : (r : Record) (after : Reader) (k : Kind) (m : Lengths) → Handed reader r after → (kind_of r ≡ kind.End → ⊥) → k ≡ kind_of r → Added room n k (Some m) → Stood file room m after
  one_further r after k m h o e a = (
    h.file ∙ s.0,
    subst (λ (p : ℕ). Checked file room m p after.latest) (sym h.place)
        (subst (λ (z : Kind). Checked file room m (reader.at + step (kind_of r)) z) (sym h.latest)
        (checked_next file room n reader.at reader.latest s.1 (kind_of r) m o (next_in r after h) (subst (λ (z : Kind). Added room n z (Some m)) e a))),
  )
