-- The records read from a whole file are those that it encodes.
use Rattle.std.proofs.Common.{◌≡◌, ℕ, ◌+◌, ◌*◌, List, take, drop, sym, ap, ◌∙◌}
use Rattle.std.specs.List.{flat_map}
use Rattle.dayformat.specs.declared.Lengths.{Lengths}
use Rattle.dayformat.specs.Code.{connection_bytes, footpath_bytes, line_bytes}
use Rattle.dayformat.specs.Whole.{Whole}
use Rattle.dayformat.proofs.Same.{same_encode}
use Rattle.dayformat.proofs.Files.{parts_join}
use Rattle.dayfile.specs.Records.{Records, encoding}
use Rattle.dayfile.specs.Calls.{Read}

pub taken_read : (file : List ℕ) (n : Lengths) (w : Whole file n) (a b : ℕ) (r : Records) → a ≡ 0 + 14 * n.connections → b ≡ a + 8 * n.footpaths
    → flat_map connection_bytes r.connections ≡ take (14 * n.connections) (drop 0 file) → flat_map footpath_bytes r.footpaths ≡ take (8 * n.footpaths) (drop a file)
    → flat_map line_bytes r.lines ≡ take (20 * n.lines) (drop b file) → Read file r
taken_read file n w a b r ea eb p q l =
    let b-is : b ≡ 0 + 14 * n.connections + 8 * n.footpaths = eb ∙ ap (λ (z : ℕ). z + 8 * n.footpaths) ea in
    let e : file ≡ encoding r = parts_join file n w _ _ _ p (q ∙ ap (λ (z : ℕ). take (8 * n.footpaths) (drop z file)) ea) (l ∙ ap (λ (z : ℕ). take (20 * n.lines) (drop z file)) b-is) in
    record {
      encoded = e;
      only = λ s o. let t = same_encode s.connections r.connections s.footpaths r.footpaths s.lines r.lines (sym o ∙ e) in λ i. record { connections = t.0 i; footpaths = t.1 i; lines = t.2 i };
    }
