-- The bits of a list of words: none, one that is tested, and what an `or` with a power of two leaves.
use Rattle.std.proofs.Common.{◌≡◌, ℕ, zero, suc, ◌*◌, ◌/◌, ◌%◌, ◌^◌, ◌<◌, true, false, eqb, ◌≢◌, List, [], ◌∷◌, length, get_or, set, sym, ap, ◌∙◌, refl, inl, inr, arith, w64, get_or-set_other, get_or-set_same}
use lib.Bits.{bit_and, bit_or, and_mask}
use Rattle.std.proofs.lemmas.Nat.{mod_below}
use Rattle.std.proofs.lemmas.Nat.Bits.{bit_at_set_same, bit_at_set_other, bit_at-zero}
use Rattle.std.proofs.lemmas.Bool.{cases_eq, eq-eqb}
use Rattle.std.specs.Int.{bit_at}
use Rattle.stops.specs.Words.{bit}

-- the words with the bit of stop s set
abbrev marked : List ℕ → ℕ → List ℕ
marked ws s = set ws (s / 64) (bit_or (get_or ws (s / 64) 0) ((1 * 2 ^ (s % 64)) % 2 ^ 64))

zeros : (i : ℕ) → ◌≡◌ {A = ℕ} (get_or (0 ∷ 0 ∷ 0 ∷ 0 ∷ []) i 0) 0
zeros zero = refl
zeros (suc zero) = refl
zeros (suc (suc zero)) = refl
zeros (suc (suc (suc zero))) = refl
zeros (suc (suc (suc (suc i)))) = refl

pub none : (s : ℕ) → bit (0 ∷ 0 ∷ 0 ∷ 0 ∷ []) s ≡ false
unfolding bit
none s = ap (λ w. eqb (bit_at w (s % 64)) 1) (zeros (s / 64)) ∙ ap (λ x. eqb x 1) (bit_at-zero (s % 64))

pub tested : (ws : List ℕ) (s : ℕ) → eqb (bit_and (get_or ws (s / 64) 0 / 2 ^ (s % 64)) 1) 1 ≡ bit ws s
unfolding bit
tested ws s = ap (λ x. eqb x 1) (and_mask (get_or ws (s / 64) 0 / 2 ^ (s % 64)) 1)

pub set_here : (ws : List ℕ) (s : ℕ) → s / 64 < length ws → bit (marked ws s) s ≡ true
unfolding bit
set_here ws s h =
    let k : ℕ = s % 64 in
    let word = ap (λ w. bit_at w k) (get_or-set_same ws (s / 64) _ 0 h) in
    eq-eqb _ 1 (word ∙ bit_at_set_same w64 _ k (mod_below s 64 (omega arith)))

pub set_elsewhere : (ws : List ℕ) (s : ℕ) → s / 64 < length ws → (y : ℕ) → y ≢ s → bit (marked ws s) y ≡ bit ws y
unfolding bit
set_elsewhere ws s h y ne = elim (cases_eq (y / 64) (s / 64)) [
  | inr other ↦ ap (λ w. eqb (bit_at w (y % 64)) 1) (get_or-set_other ws (s / 64) (y / 64) _ 0 other)
  | inl same ↦
      let k : ℕ = y % 64 in
      let word = ap (λ w. bit_at w k) (ap (λ i. get_or (marked ws s) i 0) same ∙ get_or-set_same ws (s / 64) _ 0 h) in
      let kept = bit_at_set_other w64 (get_or ws (s / 64) 0) (s % 64) (mod_below s 64 (omega arith)) k (λ e. ne (omega arith)) in
      ap (λ x. eqb x 1) (word ∙ kept ∙ ap (λ i. bit_at (get_or ws i 0) k) (sym same))
]
