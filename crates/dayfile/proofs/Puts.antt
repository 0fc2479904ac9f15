-- Bytes written one after another into a buffer.
use Rattle.std.proofs.lemmas.Grind.{common_steps}
use Rattle.std.proofs.Common.{◌≡◌, ℕ, ◌+◌, ◌*◌, ◌<◌, ◌≤◌, List, [], ◌∷◌, ◌++◌, length, get_or, take, sym, refl, ap, ◌∙◌, subst, mul-suc, arith}
use lib.Seq.{paste}
use Rattle.std.specs.List.{flat_map}
use Rattle.std.proofs.lemmas.List.{length-append, flat_map_more, take_more}
use Rattle.std.proofs.lemmas.List.Edits.{paste-paste}
use Rattle.timetable.specs.declared.records.Connection.{Connection}
use Rattle.timetable.specs.declared.records.Footpath.{Footpath}
use Rattle.timetable.specs.declared.records.Line.{Line}
use Rattle.dayformat.specs.Code.{connection_bytes, footpath_bytes, line_bytes, encode}
use Rattle.dayfile.specs.Wrote.{Wrote}
use Rattle.dayfile.specs.Calls.{Written}

pub wrote_then : {d s t b b' : List ℕ} {at p q : ℕ} → at ≤ length d → Wrote d at s p b → Wrote b p t q b' → Wrote d at (s ++ t) q b'
wrote_then {d} {s} {t} {b} {b'} {at} {p} {q} h w v =
    record {
      place = omega (arith, w.place, v.place, length-append s t);
      bytes = v.bytes ∙ ap (λ (z : ℕ). paste b z t (length t)) w.place ∙ ap (λ (z : List ℕ). paste z (at + length s) t (length t)) w.bytes
          ∙ paste-paste d at s t (length s) (length t) refl refl h ∙ ap (λ (z : ℕ). paste d at (s ++ t) z) (sym (length-append s t));
    }

pub wrote_front : {d s b : List ℕ} {p : ℕ} → length s ≤ length d → Wrote d 0 s p b → Written s d b p
wrote_front {d} {s} {b} {p} h w = grind (arith, common_steps)

module _ {X : Type 0} (f : X → List ℕ) where
  pub wrote_more : (d : List ℕ) (xs : List X) (b b' : List ℕ) (at i p q : ℕ) (x : X) → i < length xs → x ≡ get_or xs i x → at ≤ length d
      → Wrote d at (flat_map f (take i xs)) p b → Wrote b p (f x) q b' → Wrote d at (flat_map f (take (i + 1) xs)) q b'
  wrote_more d xs b b' at i p q x h e g w v = subst (λ (s : List ℕ). Wrote d at s q b')
      (flat_map_more f [] (take i xs) x ∙ ap (flat_map f) (ap (λ (z : X). take i xs ++ z ∷ []) e ∙ sym (take_more xs i x h))) (wrote_then g w v)

  length_joined : (w : ℕ) → ((x : X) → length (f x) ≡ w) → (xs : List X) → length (flat_map f xs) ≡ w * length xs
  length_joined w wide [] = omega arith
  length_joined w wide (x ∷ xs) = length-append (f x) (flat_map f xs) ∙ omega (arith, wide x, length_joined w wide xs, mul-suc w (length xs))

-- how long a file is, by its parts and by its records
pub length_parts : (cs : List Connection) (fs : List Footpath) (ls : List Line) → length (encode cs fs ls) ≡ length (flat_map connection_bytes cs) + (length (flat_map footpath_bytes fs) + (length (flat_map line_bytes ls) + 2))
length_parts cs fs ls = grind (arith, common_steps)

pub length_encode : (cs : List Connection) (fs : List Footpath) (ls : List Line) → length (encode cs fs ls) ≡ 14 * length cs + 8 * length fs + 20 * length ls + 2
length_encode cs fs ls =
    omega (arith, length_parts cs fs ls, length_joined connection_bytes 14 (λ x. refl) cs, length_joined footpath_bytes 8 (λ x. refl) fs, length_joined line_bytes 20 (λ x. refl) ls)
