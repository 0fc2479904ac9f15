-- An edge or none, as one number of two bytes.
use Rattle.std.specs.Prelude.{◌≡◌, ℕ, cond, ◌==◌, Some, None, Option, unwrap_or}
use Rattle.std.proofs.Common.{sym, refl, ap, subst, inl, inr}
use Rattle.std.proofs.lemmas.Bool.{cases_eq, eq-eqb, ne_eqb}
use Rattle.detour.specs.declared.departures.Link.TheInside.{Inside}

-- the edge of a number: the greatest has none
abbrev pub edge_of : ℕ → Option ℕ
edge_of n = cond (n == 65535) None (Some n)

-- the number of an edge or none
abbrev pub number_of : Option ℕ → ℕ
number_of o = unwrap_or o 65535

same_number : (n : ℕ) → number_of (edge_of n) ≡ n
same_number n = elim (cases_eq n 65535) [
  | inl e ↦ subst (λ b. number_of (cond b None (Some n)) ≡ n) (sym (eq-eqb n 65535 e)) (sym e)
  | inr ne ↦ subst (λ b. number_of (cond b None (Some n)) ≡ n) (sym (ne_eqb n 65535 ne)) refl
]

abbrev inside : ℕ → Inside
inside n = record { number = n }

-- a link is had back from its edge or none
pub same_link : (l : Inside) → inside (number_of (edge_of l.number)) ≡ l
same_link l = ap inside (same_number l.number)
