use Rattle.std.proofs.Common.{rules, tests}
use Rattle.std.proofs.lemmas.Iterator.{YieldsList-from_slice, YieldsList-from_map_by}
use Rattle.std.proofs.lemmas.Iterator.Consumers.{YieldsList-at, YieldsList-from_filter, nth_from_yields_List}
use Rattle.entries.specs.Listing.{is_given}
use Rattle.entries.proofs.entry.Entries.lent_at.Goals as goal

pub returns : goal.returns
returns c =
    let es = c.args.self.now.list.items in
    nth_from_yields_List c.nth.result _ c.args.place c.nth.ensures.ran
    (YieldsList-from_map_by _ (λ j. j.now) (λ e. e.journey) (YieldsList-at c.map.ensures.source (YieldsList-from_filter _ is_given (YieldsList-from_slice es cc) c.filter-given.ensures.closure (λ x b q k. search (rules, tests)))) c.map.ensures.closure (λ x r q k. search rules))
