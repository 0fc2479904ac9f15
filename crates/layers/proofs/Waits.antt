-- A wait goes on at the end of the first window that shuts the edge, and is over where there is none.
use Rattle.std.proofs.Common.{◌≡◌, ℕ, ◌<◌, List, length, Some, None, option_map, ◌∙◌, sym, subst, inl, inr, arith}
use Rattle.std.proofs.lemmas.Bool.{cases_lt}
use Rattle.std.proofs.lemmas.List.Folds.{find_at, list_any_none}
use Rattle.std.proofs.lemmas.List.Sums.{passes_at_first, fails_before_first}
use Rattle.std.proofs.lemmas.Option.{slice_get-get_or, slice_get_past}
use Rattle.std.specs.List.{All, find, position_or_len}
use Rattle.layers.specs.Gates.{covers, least_open, ending_after, Wait}
use Rattle.layers.specs.Gated.{Ends, wait_over, wait_goes_on}
use Rattle.layers.specs.declared.windows.Window.{Window}

waits : (ws : List Window) (e t : ℕ) → All Ends ws → Wait ws e t (option_map (λ w. w.until) (find (covers e t) ws))
waits ws e t h =
    let k = position_or_len (covers e t) ws in
    let none : Window = record { edge = 0; from = 0; until = 0 } in
    elim (cases_lt k (length ws)) [
      | inl lt ↦ rw (find_at (covers e t) ws ∙ slice_get-get_or ws k none lt) (wait_goes_on ws e t k none h lt (passes_at_first (covers e t) ws none lt))
      | inr past ↦ rw (find_at (covers e t) ws ∙ slice_get_past ws k past) (wait_over ws e t h (list_any_none (covers e t) ws (λ j d l. fails_before_first (covers e t) ws j d (omega arith))))
    ]

pub on : (ws : List Window) (e t : ℕ) (w : Window) → All Ends ws → Some w ≡ find (covers e t) ws → (ending_after w.until ws < ending_after t ws) × (least_open ws e w.until ≡ least_open ws e t)
on ws e t w h y = subst (λ o. Wait ws e t (option_map (λ v. v.until) o)) (sym y) (waits ws e t h)

pub over : (ws : List Window) (e t : ℕ) → All Ends ws → None ≡ find (covers e t) ws → least_open ws e t ≡ t
over ws e t h y = subst (λ o. Wait ws e t (option_map (λ v. v.until) o)) (sym y) (waits ws e t h)
