use Rattle.std.proofs.Common.{◌≡◌, ℕ, ◌≤◌, Option, None, replicate, sym, ◌∙◌, subst, inl, inr}
use Rattle.std.proofs.lemmas.Bool.{cases_lt}
use Rattle.std.proofs.lemmas.List.{get_or-replicate, get_or_past, length-replicate}
use Rattle.detour.specs.Departing.{link}
use Rattle.detour.proofs.departures.no_edges.Goals as goal

no_edge : (n k : ℕ) (o : Option ℕ) → o ≡ None → link (replicate n o) k ≡ None
no_edge n k o e = elim (cases_lt k n) [
  | inl less ↦ get_or-replicate n k o None less ∙ e
  | inr more ↦ get_or_past (replicate n o) k None (subst (λ j. j ≤ k) (sym (length-replicate n o)) more)
]

pub returns : goal.returns
returns g c k = no_edge g.row.N k _ c.none.ensures
