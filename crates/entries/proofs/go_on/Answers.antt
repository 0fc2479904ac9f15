use Rattle.std.proofs.Common.{rules, is_some, tests}
use Rattle.std.proofs.lemmas.Iterator.{YieldsList-from_slice}
use Rattle.std.proofs.lemmas.Iterator.Search.{any_from_yields_List}
use Rattle.entries.specs.Listing.{edges_of, next_after}
use Rattle.entries.proofs.Listed.{goes_on}
use Rattle.entries.proofs.go_on.Goals as goal

pub returns : goal.returns
returns c =
    let es = c.args.entries.now in
    let p = c.args.beginning.now in
    rw (any_from_yields_List (λ e. is_some (next_after p (edges_of e))) _ _ c.any.result c.any.ensures.ran (YieldsList-from_slice es cc) (λ x b q k. search (rules, tests))) (goes_on es p)
