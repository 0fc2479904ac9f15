-- No reason stands against a detour between fit stops, at fit instants, where a journey exists.
use Rattle.std.proofs.Common.{◌≡◌, ℕ, ◌≤◌, ◌≢◌, Bool, false, List, inl, inr, sym, ◌∙◌, arith}
use Rattle.std.proofs.lemmas.Bool.{both_ways}
use Rattle.stops.specs.declared.StopSet.{StopSet}
use Rattle.stops.specs.Sets.{member, Holds}
use Rattle.networks.specs.Networks.{Meaning, day_end}
use Rattle.refusals.specs.declared.DetourRefusal.{DetourRefusal}
use Rattle.refusals.specs.declared.DetourRefusal.TheVariants.{StopsUnfit, InstantsUnfit, NoDetour}
use Rattle.journeys.specs.Journeys.{Detour}
use Rattle.detour.specs.Detours.{Reason}

pub no_reason : (m : Meaning) (S B : ℕ → Type 0) (u t d latest a : ℕ) (es : List ℕ) → u ≢ d → ¬ S u → ¬ S d → t ≤ latest → latest ≤ day_end → Detour m S B u t d latest a es →
    (f : DetourRefusal) → Reason m S B u t d latest f → ⊥
no_reason m S B u t d latest a es apart free goal in_order in_day j StopsUnfit (inl e) = apart e
no_reason m S B u t d latest a es apart free goal in_order in_day j StopsUnfit (inr (inl h)) = free h
no_reason m S B u t d latest a es apart free goal in_order in_day j StopsUnfit (inr (inr h)) = goal h
no_reason m S B u t d latest a es apart free goal in_order in_day j InstantsUnfit (inl h) = omega arith
no_reason m S B u t d latest a es apart free goal in_order in_day j InstantsUnfit (inr h) = omega arith
no_reason m S B u t d latest a es apart free goal in_order in_day j NoDetour h = h a es j

pub not_held : (shut : StopSet) (s : ℕ) (held : Bool) → held ≡ member shut s → held ≡ false → ¬ Holds shut s
not_held shut s held e f h = both_ways (member shut s) (sym e ∙ f) h
