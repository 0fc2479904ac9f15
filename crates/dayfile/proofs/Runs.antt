-- Records of one kind read from a file, and written into a buffer, one after another.
use Rattle.std.proofs.lemmas.Grind.{common_steps}
use Rattle.std.proofs.Common.{◌≡◌, ℕ, ◌+◌, ◌-◌, ◌*◌, ◌<◌, ◌≤◌, List, [], ◌++◌, length, take, drop, set, replicate, sym, ap, ◌∙◌, subst, mul-le-mul_left, arith, take-add}
use Rattle.std.specs.List.{flat_map}
use Rattle.std.proofs.lemmas.List.{drop-drop, take_more_set, flat_map_more, length-take-le, take-take}
use Rattle.dayformat.specs.declared.Kind.{Kind}
use Rattle.dayformat.specs.Layout.{layout, size, Mark}
use Rattle.dayformat.specs.Faults.{Stand}
use Rattle.dayformat.proofs.Stands.{size_least, stand_within, mark_in_run}

wider : (w i : ℕ) → w * i + w ≡ w * (i + 1)
wider w i = grind (arith, common_steps)

pub next_place : (w from i at width : ℕ) → at ≡ from + w * i → width ≡ w → at + width ≡ from + w * (i + 1)
next_place w from i at width e v = grind (arith, common_steps)

-- a record of the kind k stands in the file at a place, in so many bytes
pub record There (file : List ℕ) (k : Kind) (at width : ℕ) : Type 0 where
  pub within : at + width ≤ length file
  pub marked : take 2 (take (at + width - at) (drop at file)) ≡ (layout k).mark

-- n records of the kind k stand in the file from a place on; the i-th of them, for the i-th place of the list's front, stands at the place `at`
pub there : {X : Type 0} (list : List X) (file : List ℕ) (k : Kind) (from n i at width : ℕ) → n ≤ length list → Stand file from (replicate n k) (from + size k * n) → i < length (take n list)
    → at ≡ from + size k * i → width ≡ size k → There file k at width
there list file k from n i at width room s h e v = record { within = within; marked = marked } where
  before : i < n
  before = omega (arith, length-take-le n list room)

  within : at + width ≤ length file
  within = omega (arith, next_place (size k) from i at width e v, mul-le-mul_left {m = i + 1} {n = n} (size k) (omega (arith, before)), stand_within file (replicate n k) from (from + size k * n) s)

  marked : take 2 (take (at + width - at) (drop at file)) ≡ (layout k).mark
  marked = take-take 2 (at + width - at) (drop at file) (omega (arith, size_least k)) ∙ subst (λ (z : ℕ). Mark file z k) (sym e) (mark_in_run file k n from (from + size k * n) i s before)

module _ {X : Type 0} (f : X → List ℕ) (w : ℕ) where
  pub read_more : (file : List ℕ) (from : ℕ) (list : List X) (i at width : ℕ) (x : X) → i < length list → at ≡ from + w * i → width ≡ w → f x ≡ take (at + width - at) (drop at file)
      → flat_map f (take i list) ≡ take (w * i) (drop from file) → flat_map f (take (i + 1) (set list i x)) ≡ take (w * (i + 1)) (drop from file)
  read_more file from list i at width x h e v b r =
      let d : drop at file ≡ drop (w * i) (drop from file) = ap (λ (z : ℕ). drop z file) e ∙ sym (drop-drop (w * i) from file) in
      let q : at + width - at ≡ w = omega arith in
      ap (flat_map f) (take_more_set list i x h) ∙ sym (flat_map_more f [] (take i list) x) ∙ ap (λ (z : List ℕ). z ++ f x) r
      ∙ ap (λ (z : List ℕ). take (w * i) (drop from file) ++ z) (b ∙ (λ j. take (q j) (d j)))
      ∙ sym (take-add (w * i) w (drop from file)) ∙ ap (λ (z : ℕ). take z (drop from file)) (wider w i)
