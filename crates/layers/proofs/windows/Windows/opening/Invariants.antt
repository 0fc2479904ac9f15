use Rattle.std.proofs.Common.{◌≡◌}
use Rattle.layers.specs.Gates.{least_open, ending_after}
use Rattle.layers.proofs.windows.Windows.opening.Given as goal

abbrev pub invariant-loop-window : goal.invariant-loop-window
invariant-loop-window l =
    least_open l.self.list.items l.edge l.open ≡ least_open l.self.list.items l.edge l.instant

abbrev pub decreases-loop-window : goal.decreases-loop-window
decreases-loop-window l = ending_after l.open l.self.list.items
