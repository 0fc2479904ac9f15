-- Why a file is turned down: what each reason says of a place in it.
use Rattle.std.specs.Prelude.{◌≡◌, ℕ, ◌+◌, ◌<◌, ◌≤◌, ◌⊎◌, List, [], ◌∷◌, length, Some, Ok, Err, count_by, Result, nat_eq}
use Rattle.refusals.specs.Told.{told}
use Rattle.refusals.specs.declared.Refusal.TheVariants.{OfFile}
use Rattle.refusals.specs.declared.FileRefusal.{FileRefusal}
use Rattle.refusals.specs.declared.FileRefusal.TheVariants.{EndsEarly, UnknownMark, KindOutOfOrder, ListFull, BytesAfterEnd, BufferTooShort}
use Rattle.dayformat.specs.declared.Kind.{Kind}
use Rattle.dayformat.specs.declared.Kind.TheVariants as kind
use Rattle.dayformat.specs.declared.Lengths.{Lengths}
use Rattle.dayformat.specs.Layout.{layout, size, Mark}

-- the order of the reasons at one place
abbrev pub order : List ℕ
order = 2 ∷ 1 ∷ 3 ∷ 4 ∷ 5 ∷ []

-- from the place p on, whole records of these kinds stand one after another, up to the place q; none of them is the end mark
abbrev pub Stand : List ℕ → ℕ → List Kind → ℕ → Type 0
Stand file p [] q = (p ≡ q) × (q ≤ length file)
Stand file p (k ∷ ks) q = ((layout k).turn < (layout kind.End).turn) × Mark file p k × Stand file (p + size k) ks q

-- one of the kinds comes later in the order of a file than k
abbrev pub Later : List Kind → Kind → Type 0
Later [] k = ⊥
Later (j ∷ js) k = ((layout k).turn < (layout j).turn) ⊎ Later js k

-- how many of the kinds are k
abbrev pub count : Kind → List Kind → ℕ
count k ks = count_by (λ j. nat_eq (layout j).turn (layout k).turn) ks

-- the list of the kind k has no room for one more
abbrev pub Full : Lengths → List Kind → Kind → Type 0
Full room ks kind.Connection = room.connections ≤ count kind.Connection ks
Full room ks kind.Footpath = room.footpaths ≤ count kind.Footpath ks
Full room ks kind.Line = room.lines ≤ count kind.Line ks
Full room ks kind.End = ⊥

-- a mark stands at p, of a kind with the property R
abbrev pub Marked : List ℕ → ℕ → (Kind → Type 0) → Type 0
Marked file p R = (k : Kind) × Mark file p k × R k

-- what a reason says of the place p, where Late are the kinds that belong earlier and Filled those whose list is full
abbrev pub Says : List ℕ → ℕ → (Kind → Type 0) → (Kind → Type 0) → FileRefusal → Type 0
-- two bytes that are no mark
Says file p Late Filled (UnknownMark _) = (p + 2 ≤ length file) × ((k : Kind) → Mark file p k → ⊥)
-- the file ends before its end mark, or inside a record
Says file p Late Filled (EndsEarly _) = (length file < p + 2) ⊎ Marked file p (λ k. length file < p + size k)
-- the kind belongs earlier
Says file p Late Filled (KindOutOfOrder _) = Marked file p Late
-- the list of that kind is full
Says file p Late Filled (ListFull _) = Marked file p Filled
-- bytes follow the end mark
Says file p Late Filled (BytesAfterEnd _) = Mark file p kind.End × (p + size kind.End < length file)
-- a reason of pack alone
Says file p Late Filled BufferTooShort = ⊥

-- A reason to turn a file down holds if whole records stand before the place that it names, and what it says is so there.
pub record Fault (file : List ℕ) (room : Lengths) (f : FileRefusal) : Type 0 where
  pub place : ℕ
  pub kinds : List Kind
  pub named : (told (OfFile f)).place ≡ Some place
  pub stand : Stand file 0 kinds place
  pub says : Says file place (Later kinds) (Full room kinds) f

-- A reason to turn down the record that a reader comes to: it names the reader's place, and what it says is so there. The record before was of the kind `latest`.
abbrev pub Here : List ℕ → ℕ → Kind → FileRefusal → Type 0
Here file at latest f = ((told (OfFile f)).place ≡ Some at) × Says file at (λ k. (layout k).turn < (layout latest).turn) (λ _. ⊥) f

-- a whole record of the kind k stands at the reader's place and may follow one of the kind `latest`; no byte follows the end mark
pub record Next (file : List ℕ) (at : ℕ) (latest k : Kind) : Type 0 where
  pub mark : Mark file at k
  pub whole : at + size k ≤ length file
  pub follows : (layout latest).turn ≤ (layout k).turn
  pub last : k ≡ kind.End → at + size k ≡ length file

-- what a reader finds at its place: the next record, or a reason, which is looked for behind the mark only where the record is whole
abbrev pub Finds : List ℕ → ℕ → Kind → Result Kind FileRefusal → Type 0
Finds file at latest (Ok k) = Next file at latest k
Finds file at latest (Err (UnknownMark p)) = Here file at latest (UnknownMark p)
Finds file at latest (Err (EndsEarly p)) = Here file at latest (EndsEarly p)
Finds file at latest (Err (KindOutOfOrder p)) = Here file at latest (KindOutOfOrder p) × Marked file at (λ k. at + size k ≤ length file)
Finds file at latest (Err (ListFull p)) = ⊥
Finds file at latest (Err (BytesAfterEnd p)) = Here file at latest (BytesAfterEnd p)
Finds file at latest (Err BufferTooShort) = ⊥
