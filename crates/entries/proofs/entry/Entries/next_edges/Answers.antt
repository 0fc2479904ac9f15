use Rattle.std.proofs.Common.{arith, length, take_all, ap, ◌∙◌}
use Rattle.std.specs.List.{filter_map}
use Rattle.entries.specs.declared.entry.Entry.{Entry}
use Rattle.entries.specs.Listing.{edges_of, next_after}
use Rattle.entries.proofs.Listed.{next_in}
use Rattle.entries.proofs.entry.Entries.next_edges.Goals as goal

pub returns : goal.returns
returns c = λ x.
    let es = c.args.self.now.list.items in
    let p = c.args.beginning.now in
    rw (c.loop-entry.invariant.gathered ∙ ap (filter_map (λ (e : Entry). next_after p (edges_of e))) (take_all c.loop-entry.entry-index es (omega (arith, ap length c.deref-entry-items.ensures.0)))) (next_in es p x)
