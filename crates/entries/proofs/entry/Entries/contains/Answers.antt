use Rattle.std.proofs.Common.{rules, ◌==◌, tests}
use Rattle.std.specs.Cmp.Lexicographic.{pointwise}
use Rattle.std.proofs.lemmas.Iterator.{YieldsList-from_slice}
use Rattle.std.proofs.lemmas.Iterator.Search.{any_from_yields_List}
use Rattle.entries.specs.Listing.{edges_of}
use Rattle.entries.proofs.Listed.{found}
use Rattle.entries.proofs.entry.Entries.contains.Goals as goal

pub returns : goal.returns
returns c =
    let es = c.args.self.now.list.items in
    let ys = c.args.edges.now in
    rw (any_from_yields_List (λ e. pointwise ◌==◌ (edges_of e) ys) _ _ c.any.result c.any.ensures.ran (YieldsList-from_slice es cc) (λ x b q k. search (rules, tests))) (found es ys)
