use Rattle.std.proofs.Common.{◌≡◌, ◌≤◌, length, take}
use Rattle.std.specs.List.{filter_map}
use Rattle.entries.specs.Listing.{edges_of, next_after}
use Rattle.entries.proofs.entry.Entries.next_edges.Given as goal

abbrev pub invariant-loop-entry : goal.invariant-loop-entry
invariant-loop-entry l = record {
  few : length l.edges.items ≤ l.entry-index;
  gathered : l.edges.items ≡ filter_map (λ e. next_after l.beginning (edges_of e)) (take l.entry-index l.self.list.items);
}
