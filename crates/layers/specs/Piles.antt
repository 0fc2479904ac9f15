-- What a layer holds, and what it means over the network below it.
use Rattle.std.specs.Prelude.{List}
use Rattle.networks.specs.Networks.{Meaning}
use Rattle.layers.specs.declared.windows.Window.{Window}
use Rattle.layers.specs.declared.windows.Windows.{Windows}
use Rattle.layers.specs.declared.notices.Notice.{Notice}
use Rattle.layers.specs.declared.notices.Notices.{Notices}
use Rattle.layers.specs.declared.layer.Layer.{Layer}

-- the windows that a gate holds, in the order in which they were added
abbrev pub windows_of : {N : Type 0} → Layer N Windows → List Window
windows_of g = g.rule.list.items

-- the notices that a late layer holds, in the order in which they were added
abbrev pub notices_of : {N : Type 0} → Layer N Notices → List Notice
notices_of l = l.rule.list.items

-- what a layer means, from what its rule makes of a network and what the network below it means
abbrev pub layer_meaning : {N R : Type 0} → (R → Meaning → Meaning) → (N → Meaning) → Layer N R → Meaning
layer_meaning over meaning l = over l.rule (meaning l.below)
