-- What a contract sees of a list that lies in the value itself.
use Rattle.std.specs.Prelude.{List, refl}
use Rattle.std.specs.Coded.{Coded, code_by, coded_list}

pub record Items (T : Type 0) : Type 0 where
  pub items : List T

-- it is stored as the list of its items
abbrev pub items_code : {T : Type 0} → Coded T → Coded (Items T)
items_code {T} code = code_by (List T) (coded_list code) (λ l. l.items) (λ xs. record { items = xs }) (λ _. refl)
