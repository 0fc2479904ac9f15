-- How far a file has been checked.
use Rattle.std.proofs.Common.{◌≡◌, ℕ, suc, ◌<◌, List}
use Rattle.refusals.specs.Told.{told}
use Rattle.refusals.specs.Verdicts.{position}
use Rattle.refusals.specs.declared.Refusal.TheVariants.{OfFile}
use Rattle.refusals.specs.declared.FileRefusal.{FileRefusal}
use Rattle.dayformat.specs.declared.Kind.{Kind}
use Rattle.dayformat.specs.declared.Lengths.{Lengths}
use Rattle.dayformat.specs.Layout.{layout}
use Rattle.dayformat.specs.Faults.{Stand, Later, Fault}
use Rattle.dayformat.specs.Whole.{Fits, arranged}

-- a file is in order up to the place p: so many records stand before it, the last of the kind `latest`, and no fault is there
pub record Checked (file : List ℕ) (room n : Lengths) (p : ℕ) (latest : Kind) : Type 0 where
  pub stand : Stand file 0 (arranged n) p
  pub fits : Fits n room
  pub clear : (f : FileRefusal) → position (told (OfFile f)).place < suc p → Fault file room f → ⊥
  pub later : (k : Kind) → Later (arranged n) k → (layout k).turn < (layout latest).turn
  pub earlier : (k : Kind) → (layout k).turn < (layout latest).turn → Later (arranged n) k
  pub no_footpath : (layout latest).turn < 1 → n.footpaths ≡ 0
  pub no_line : (layout latest).turn < 2 → n.lines ≡ 0
