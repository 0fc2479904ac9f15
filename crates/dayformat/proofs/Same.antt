-- Equal files hold equal records.
use Rattle.std.proofs.lemmas.Grind.{common_steps}
use Rattle.std.proofs.Common.{◌≡◌, ℕ, List, [], ◌∷◌, ◌++◌, length, get_or, take, drop, sym, refl, ap, ◌∙◌, append_assoc, arith}
use Rattle.std.specs.List.{flat_map}
use Rattle.std.proofs.lemmas.List.{take_at, drop_at}
use Rattle.timetable.specs.declared.records.Connection.{Connection}
use Rattle.timetable.specs.declared.records.Footpath.{Footpath}
use Rattle.timetable.specs.declared.records.Line.{Line}
use Rattle.dayformat.specs.declared.Kind.TheVariants as kind
use Rattle.dayformat.specs.Code.{bytes, coded, connection_bytes, footpath_bytes, line_bytes, encode}

same_four : (m n : ℕ) → bytes 4 m ≡ bytes 4 n → m ≡ n
same_four m n e = grind (arith, common_steps)

same_two : (m n : ℕ) → bytes 2 m ≡ bytes 2 n → m ≡ n
same_two m n e = grind (arith, common_steps)

-- the byte at i, and the four bytes from i on
one : (x y : List ℕ) (i : ℕ) → x ≡ y → get_or x i 0 ≡ get_or y i 0
one x y i e = ap (λ (l : List ℕ). get_or l i 0) e

four : (x y : List ℕ) (i : ℕ) → x ≡ y → take 4 (drop i x) ≡ take 4 (drop i y)
four x y i e = ap (λ (l : List ℕ). take 4 (drop i l)) e

same_connection : (r s : Connection) → connection_bytes r ≡ connection_bytes s → r ≡ s
same_connection r s e =
    let a : r.from ≡ s.from = one (connection_bytes r) (connection_bytes s) 2 e in
    let b : r.to ≡ s.to = one (connection_bytes r) (connection_bytes s) 3 e in
    let c : r.departure ≡ s.departure = same_four r.departure s.departure (four (connection_bytes r) (connection_bytes s) 4 e) in
    let d : r.arrival ≡ s.arrival = same_four r.arrival s.arrival (four (connection_bytes r) (connection_bytes s) 8 e) in
    let t : r.trip ≡ s.trip = same_two r.trip s.trip (ap (λ (l : List ℕ). take 2 (drop 12 l)) e) in
    λ i. record { from = a i; to = b i; departure = c i; arrival = d i; trip = t i }

same_footpath : (r s : Footpath) → footpath_bytes r ≡ footpath_bytes s → r ≡ s
same_footpath r s e =
    let a : r.from ≡ s.from = one (footpath_bytes r) (footpath_bytes s) 2 e in
    let b : r.to ≡ s.to = one (footpath_bytes r) (footpath_bytes s) 3 e in
    let c : r.duration ≡ s.duration = same_four r.duration s.duration (four (footpath_bytes r) (footpath_bytes s) 4 e) in
    λ i. record { from = a i; to = b i; duration = c i }

same_line : (r s : Line) → line_bytes r ≡ line_bytes s → r ≡ s
same_line r s e =
    let a : r.from ≡ s.from = one (line_bytes r) (line_bytes s) 2 e in
    let b : r.to ≡ s.to = one (line_bytes r) (line_bytes s) 3 e in
    let c : r.first ≡ s.first = same_four r.first s.first (four (line_bytes r) (line_bytes s) 4 e) in
    let d : r.last ≡ s.last = same_four r.last s.last (four (line_bytes r) (line_bytes s) 8 e) in
    let t : r.interval ≡ s.interval = same_four r.interval s.interval (four (line_bytes r) (line_bytes s) 12 e) in
    let u : r.ride ≡ s.ride = same_four r.ride s.ride (four (line_bytes r) (line_bytes s) 16 e) in
    λ i. record { from = a i; to = b i; first = c i; last = d i; interval = t i; ride = u i }

-- records that begin with the byte m, before what does not
module _ {X : Type 0} (f : X → List ℕ) (w m : ℕ) (wide : (x : X) → length (f x) ≡ w) (marks : (x : X) (r : List ℕ) → get_or (f x ++ r) 0 0 ≡ m) (same : (x y : X) → f x ≡ f y → x ≡ y) where
  same_joined : (xs ys : List X) (r s : List ℕ) → (get_or r 0 0 ≡ m → ⊥) → (get_or s 0 0 ≡ m → ⊥) → flat_map f xs ++ r ≡ flat_map f ys ++ s → (xs ≡ ys) × (r ≡ s)
  same_joined [] [] r s nr ns e = (refl, e)
  same_joined [] (y ∷ ys) r s nr ns e = absurd (nr (ap (λ (l : List ℕ). get_or l 0 0) (e ∙ append_assoc (f y) (flat_map f ys) s) ∙ marks y (flat_map f ys ++ s)))
  same_joined (x ∷ xs) [] r s nr ns e = absurd (ns (ap (λ (l : List ℕ). get_or l 0 0) (sym e ∙ append_assoc (f x) (flat_map f xs) r) ∙ marks x (flat_map f xs ++ r)))
  same_joined (x ∷ xs) (y ∷ ys) r s nr ns e =
      let g : f x ++ (flat_map f xs ++ r) ≡ f y ++ (flat_map f ys ++ s) = sym (append_assoc (f x) (flat_map f xs) r) ∙ e ∙ append_assoc (f y) (flat_map f ys) s in
      let h : x ≡ y = same x y (sym (take_at (f x) (flat_map f xs ++ r) w (wide x)) ∙ ap (take w) g ∙ take_at (f y) (flat_map f ys ++ s) w (wide y)) in
      let k : flat_map f xs ++ r ≡ flat_map f ys ++ s = sym (drop_at (f x) (flat_map f xs ++ r) w (wide x)) ∙ ap (drop w) g ∙ drop_at (f y) (flat_map f ys ++ s) w (wide y) in
      let t : (xs ≡ ys) × (r ≡ s) = same_joined xs ys r s nr ns k in
      (λ i. h i ∷ t.0 i, t.1)

no_line : get_or (coded kind.End []) 0 0 ≡ 72 → ⊥
no_line e = omega arith

no_footpath : (ls : List Line) → get_or (flat_map line_bytes ls ++ coded kind.End []) 0 0 ≡ 70 → ⊥
no_footpath [] e = omega arith
no_footpath (x ∷ ls) e = omega arith

no_connection : (fs : List Footpath) (ls : List Line) → get_or (flat_map footpath_bytes fs ++ (flat_map line_bytes ls ++ coded kind.End [])) 0 0 ≡ 67 → ⊥
no_connection [] [] e = omega arith
no_connection [] (x ∷ ls) e = omega arith
no_connection (x ∷ fs) ls e = omega arith

pub same_encode : (cs cs' : List Connection) (fs fs' : List Footpath) (ls ls' : List Line) → encode cs fs ls ≡ encode cs' fs' ls' → (cs ≡ cs') × (fs ≡ fs') × (ls ≡ ls')
same_encode cs cs' fs fs' ls ls' e =
    let a = same_joined connection_bytes 14 67 (λ x. refl) (λ x r. refl) same_connection cs cs' _ _ (no_connection fs ls) (no_connection fs' ls') e in
    let b = same_joined footpath_bytes 8 70 (λ x. refl) (λ x r. refl) same_footpath fs fs' _ _ (no_footpath ls) (no_footpath ls') a.1 in
    let c = same_joined line_bytes 20 72 (λ x. refl) (λ x r. refl) same_line ls ls' _ _ no_line no_line b.1 in
    (a.0, b.0, c.0)
