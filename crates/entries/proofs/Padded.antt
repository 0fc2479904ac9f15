-- More items at the front of n places, and blanks behind them.
use Rattle.std.proofs.Common.{◌≡◌, ℕ, ◌+◌, ◌-◌, ◌<◌, ◌≤◌, List, ◌++◌, length, take, drop, set, replicate, length-set, length-take-le, length-append, length-drop, arith, sym, ap, ◌∙◌}
use Rattle.std.proofs.lemmas.List.{drop-set-lt, drop-replicate, drop-drop}
use Rattle.std.proofs.Math.Seq.{drop-append_seam}

module _ {T : Type 0} (blank : T) (places : List T) (k n : ℕ) (h : (k ≤ n) × (length places ≡ n) × (drop k places ≡ replicate (n - k) blank)) where
  -- behind m more places
  blanks : (m : ℕ) → drop (k + m) places ≡ replicate (n - (k + m)) blank
  blanks m =
      let e : n - k - m ≡ n - (k + m) = omega arith in
      sym (drop-drop m k places) ∙ ap (drop m) h.2 ∙ drop-replicate m (n - k) blank ∙ ap (λ (j : ℕ). replicate j blank) e

  -- one item more
  pub one_more : (x : T) → k < n → (k + 1 ≤ n) × (length (set places k x) ≡ n) × (drop (k + 1) (set places k x) ≡ replicate (n - (k + 1)) blank)
  one_more x room = (omega (arith, room), length-set places k x ∙ h.1, drop-set-lt (k + 1) places k x (omega arith) ∙ blanks 1)

  -- some items more
  pub some_more : (items after : List T) → length items ≤ n - k → after ≡ take k places ++ items ++ drop (k + length items) places →
      (k + length items ≤ n) × (length after ≡ n) × (drop (k + length items) after ≡ replicate (n - (k + length items)) blank)
  some_more items after room e =
      let (le, l, behind) = h in
      let c : length (take k places) ≡ k = length-take-le k places (omega (arith, le, l)) in
      let d : length (take k places ++ items) ≡ k + length items = length-append (take k places) items ∙ ap (λ (m : ℕ). m + length items) c in
      let r : length (drop (k + length items) places) ≡ n - (k + length items) = length-drop (k + length items) places ∙ ap (λ (m : ℕ). m - (k + length items)) l in (
        omega (arith, room, le),
        ap length e ∙ length-append (take k places ++ items) _ ∙ omega (arith, d, r, room, le),
        ap (drop (k + length items)) e ∙ ap (λ (m : ℕ). drop m (take k places ++ items ++ drop (k + length items) places)) (sym d) ∙ drop-append_seam (take k places ++ items) _ ∙ blanks (length items),
      )
