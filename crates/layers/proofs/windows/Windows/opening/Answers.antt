use Rattle.layers.proofs.Waits.{on}
use Rattle.layers.proofs.windows.Windows.opening.Goals as goal

pub loop-window-smaller : goal.loop-window-smaller
loop-window-smaller c =
    (on c.args.self.now.list.items c.args.edge c.loop-window.open c.in-Some.window.now c.args.self.now.ending c.in-Some.ensures).0
