use Rattle.std.proofs.Common.{rules, filter, sym, ◌∙◌, tests}
use Rattle.std.proofs.lemmas.List.{length-map}
use Rattle.std.proofs.lemmas.Iterator.{YieldsList-from_slice}
use Rattle.std.proofs.lemmas.Iterator.Consumers.{YieldsList-from_filter, count_from_yields_List}
use Rattle.entries.specs.Listing.{is_given}
use Rattle.entries.proofs.entry.Entries.count_given.Goals as goal

pub returns : goal.returns
returns c =
    let es = c.args.self.now.list.items in
    count_from_yields_List c.filter.result _ c.count.ensures.ran (YieldsList-from_filter _ is_given (YieldsList-from_slice es cc) c.filter.ensures.closure (λ x b q k. search (rules, tests))) ∙ sym (length-map (filter is_given es) (λ e. e.journey))
