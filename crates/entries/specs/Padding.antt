-- Items at the front of n places, and blanks behind them.
use Rattle.std.proofs.Common.{◌≡◌, ℕ, ◌-◌, ◌≤◌, List, ◌++◌, length, take, drop, replicate, take-append-drop, length-take-le, arith, sym, ap, ◌∙◌}

-- the items lead back to the places
pub padded_back : {T : Type 0} (blank : T) (places : List T) (k n : ℕ) → (k ≤ n) × (length places ≡ n) × (drop k places ≡ replicate (n - k) blank) →
    (take k places ++ replicate (n - length (take k places)) blank ≡ places) × (length (take k places) ≡ k)
padded_back {T} blank places k n (le, l, behind) =
    let c : length (take k places) ≡ k = length-take-le k places (omega (arith, le, l)) in
    (ap (λ (m : ℕ). take k places ++ replicate (n - m) blank) c ∙ ap (λ (xs : List T). take k places ++ xs) (sym behind) ∙ take-append-drop k places, c)
