-- A file that encodes lists is whole, and a whole file encodes lists.
use Rattle.std.proofs.lemmas.Grind.{common_steps}
use Rattle.std.proofs.Common.{◌≡◌, ℕ, ◌+◌, ◌*◌, ◌<◌, ◌≤◌, List, [], ◌∷◌, ◌++◌, length, take, drop, replicate, sym, refl, ap, ◌∙◌, subst, arith}
use Rattle.std.specs.List.{flat_map}
use Rattle.std.proofs.lemmas.List.{append-nil, append_assoc, drop_at, drop-drop, length-drop, length-append, take_all, take-append-drop}
use Rattle.refusals.specs.declared.FileRefusal.{FileRefusal}
use Rattle.timetable.specs.declared.records.Connection.{Connection}
use Rattle.timetable.specs.declared.records.Footpath.{Footpath}
use Rattle.timetable.specs.declared.records.Line.{Line}
use Rattle.dayformat.specs.declared.Kind.{Kind}
use Rattle.dayformat.specs.declared.Kind.TheVariants as kind
use Rattle.dayformat.specs.declared.Lengths.{Lengths}
use Rattle.dayformat.specs.Layout.{layout, size, Mark}
use Rattle.dayformat.specs.Code.{coded, connection_bytes, footpath_bytes, line_bytes, encode}
use Rattle.dayformat.specs.Faults.{Stand, Fault}
use Rattle.dayformat.specs.Whole.{Fits, Whole}
use Rattle.dayformat.proofs.Progress.{Checked}
use Rattle.dayformat.proofs.Stands.{stand_run}
use Rattle.dayformat.proofs.Reasons.{none_whole}
use Rattle.dayformat.proofs.Checks.{checked_none, checked_connection, checked_footpath, checked_line}

abbrev counts : ℕ → ℕ → ℕ → Lengths
counts a b c = record { connections = a; footpaths = b; lines = c }

-- a file checked up to where the bytes rest are left, the kinds so far at most t in the order
record Left (file : List ℕ) (room n : Lengths) (t : ℕ) (rest : List ℕ) : Type 0 where
  place : ℕ
  latest : Kind
  checked : Checked file room n place latest
  early : (layout latest).turn ≤ t
  left : drop place file ≡ rest

-- the records of one list, one after another: step adds the i-th
module _ (file : List ℕ) (room : Lengths) {X : Type 0} (f : X → List ℕ) (k : Kind) (wide : (x : X) → length (f x) ≡ size k) (marks : (x : X) (r : List ℕ) → take 2 (f x ++ r) ≡ (layout k).mark) (some : 0 < size k)
    (at : ℕ → Lengths) (m : ℕ)
    (step : (i p : ℕ) (latest : Kind) → i < m → Checked file room (at i) p latest → (layout latest).turn ≤ (layout k).turn → Mark file p k → p + size k ≤ length file → Checked file room (at (i + 1)) (p + size k) k) where
  listed : (xs : List X) (i : ℕ) (rest : List ℕ) → i + length xs ≤ m → Left file room (at i) (layout k).turn (flat_map f xs ++ rest) → Left file room (at (i + length xs)) (layout k).turn rest
  listed [] i rest h l = subst (λ (z : ℕ). Left file room (at z) (layout k).turn rest) (omega arith) l
  listed (x ∷ xs) i rest h l =
      let p = l.place in
      let e : drop p file ≡ f x ++ (flat_map f xs ++ rest) = l.left ∙ append_assoc (f x) (flat_map f xs) rest in
      let mark : Mark file p k = ap (take 2) e ∙ marks x (flat_map f xs ++ rest) in
      let whole : p + size k ≤ length file = omega (arith, length-drop p file, ap length e, length-append (f x) (flat_map f xs ++ rest), wide x) in
      let further : drop (p + size k) file ≡ flat_map f xs ++ rest = sym (drop-drop (size k) p file) ∙ ap (drop (size k)) e ∙ drop_at (f x) (flat_map f xs ++ rest) (size k) (wide x) in
      subst (λ (z : ℕ). Left file room (at z) (layout k).turn rest) (omega arith)
      (listed xs (i + 1) rest (omega arith)
      (record { place = p + size k; latest = k; checked = step i p l.latest (omega arith) l.checked l.early mark whole; early = omega arith; left = further }))

-- what is left after one kind may be of a later one
onward : (file : List ℕ) (room n : Lengths) (t u : ℕ) (rest : List ℕ) → t ≤ u → Left file room n t rest → Left file room n u rest
onward file room n t u rest h l = grind (arith, common_steps)

module _ (file : List ℕ) (room : Lengths) (cs : List Connection) (fs : List Footpath) (ls : List Line) (fits : Fits (counts (length cs) (length fs) (length ls)) room) (is : file ≡ encode cs fs ls) where
  abbrev footpaths_on : List ℕ
  footpaths_on = flat_map footpath_bytes fs ++ (flat_map line_bytes ls ++ coded kind.End [])

  abbrev lines_on : List ℕ
  lines_on = flat_map line_bytes ls ++ coded kind.End []

  connections_read : Left file room (counts (length cs) 0 0) 0 footpaths_on
  connections_read = subst (λ (z : ℕ). Left file room (counts z 0 0) 0 footpaths_on) (omega arith)
      (listed file room connection_bytes kind.Connection (λ x. refl) (λ x r. refl) (omega arith) (λ i. counts i 0 0) (length cs)
      (λ i p latest h c o mark whole. checked_connection file room (counts i 0 0) p latest c mark whole o (omega (arith, fits.connections))) cs 0 footpaths_on (omega arith)
      (record { place = 0; latest = kind.Connection; checked = checked_none file room; early = omega arith; left = is }))

  footpaths_read : Left file room (counts (length cs) (length fs) 0) 1 lines_on
  footpaths_read = subst (λ (z : ℕ). Left file room (counts (length cs) z 0) 1 lines_on) (omega arith)
      (listed file room footpath_bytes kind.Footpath (λ x. refl) (λ x r. refl) (omega arith) (λ i. counts (length cs) i 0) (length fs)
      (λ i p latest h c o mark whole. checked_footpath file room (counts (length cs) i 0) p latest c mark whole o (omega (arith, fits.footpaths))) fs 0 lines_on (omega arith)
      (onward file room (counts (length cs) 0 0) 0 1 footpaths_on (omega arith) connections_read))

  lines_read : Left file room (counts (length cs) (length fs) (length ls)) 2 (coded kind.End [])
  lines_read = subst (λ (z : ℕ). Left file room (counts (length cs) (length fs) z) 2 (coded kind.End [])) (omega arith)
      (listed file room line_bytes kind.Line (λ x. refl) (λ x r. refl) (omega arith) (λ i. counts (length cs) (length fs) i) (length ls)
      (λ i p latest h c o mark whole. checked_line file room (counts (length cs) (length fs) i) p latest c mark whole o (omega (arith, fits.lines))) ls 0 (coded kind.End []) (omega arith)
      (onward file room (counts (length cs) (length fs) 0) 1 2 lines_on (omega arith) footpaths_read))

  -- a file that encodes lists with room for them has no fault
  pub none_encoded : (f : FileRefusal) → Fault file room f → ⊥
  none_encoded =
      let e = lines_read in
      none_whole file room (counts (length cs) (length fs) (length ls)) e.place e.latest e.checked (ap (take 2) e.left) (omega (arith, length-drop e.place file, ap length e.left))

-- a list from i on: its next n, and the rest
pub next_part : (b : List ℕ) (i n : ℕ) → drop i b ≡ take n (drop i b) ++ drop (i + n) b
next_part b i n = sym (take-append-drop n (drop i b)) ∙ ap (λ (z : List ℕ). take n (drop i b) ++ z) (drop-drop n i b)

module _ (file : List ℕ) (n : Lengths) (w : Whole file n) where
  abbrev one : ℕ
  one = 0 + 14 * n.connections

  abbrev two : ℕ
  two = one + 8 * n.footpaths

  abbrev three : ℕ
  three = two + 20 * n.lines

  connections_and : Stand file 0 (replicate n.connections kind.Connection) one × Stand file one (replicate n.footpaths kind.Footpath ++ replicate n.lines kind.Line) w.place
  connections_and = stand_run file kind.Connection _ n.connections 0 w.place w.stand

  footpaths_and : Stand file one (replicate n.footpaths kind.Footpath) two × Stand file two (replicate n.lines kind.Line) w.place
  footpaths_and = stand_run file kind.Footpath _ n.footpaths one w.place connections_and.1

  lines_and : Stand file two (replicate n.lines kind.Line) three × Stand file three [] w.place
  lines_and = stand_run file kind.Line [] n.lines two w.place (subst (λ (ks : List Kind). Stand file two ks w.place) (sym (append-nil (replicate n.lines kind.Line))) footpaths_and.1)

  -- the three runs of records in a whole file
  pub run_connections : Stand file 0 (replicate n.connections kind.Connection) (0 + 14 * n.connections)
  run_connections = connections_and.0

  pub run_footpaths : Stand file (0 + 14 * n.connections) (replicate n.footpaths kind.Footpath) (0 + 14 * n.connections + 8 * n.footpaths)
  run_footpaths = footpaths_and.0

  pub run_lines : Stand file (0 + 14 * n.connections + 8 * n.footpaths) (replicate n.lines kind.Line) (0 + 14 * n.connections + 8 * n.footpaths + 20 * n.lines)
  run_lines = lines_and.0

  -- their bytes, with the end mark, are the file
  pub parts_join : (x y z : List ℕ) → x ≡ take (14 * n.connections) (drop 0 file) → y ≡ take (8 * n.footpaths) (drop (0 + 14 * n.connections) file)
      → z ≡ take (20 * n.lines) (drop (0 + 14 * n.connections + 8 * n.footpaths) file) → file ≡ x ++ (y ++ (z ++ coded kind.End []))
  parts_join x y z p q r =
      next_part file 0 (14 * n.connections) ∙ ap (λ (l : List ℕ). l ++ drop one file) (sym p)
      ∙ ap (λ (l : List ℕ). x ++ l) (next_part file one (8 * n.footpaths) ∙ ap (λ (l : List ℕ). l ++ drop two file) (sym q)
      ∙ ap (λ (l : List ℕ). y ++ l) (next_part file two (20 * n.lines) ∙ ap (λ (l : List ℕ). l ++ drop three file) (sym r)
      ∙ ap (λ (l : List ℕ). z ++ l) tail))
    where
      tail : drop three file ≡ coded kind.End []
      tail = ap (λ (i : ℕ). drop i file) lines_and.1.0 ∙ sym (take_all 2 (drop w.place file) (omega (arith, length-drop w.place file, w.last))) ∙ w.end
