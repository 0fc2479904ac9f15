-- What stands in a place of the entries that holds none.
use Rattle.std.specs.Prelude.{[]}
use Rattle.entries.specs.declared.entry.Standing.TheVariants.{Struck}
use Rattle.entries.specs.declared.entry.Entry.{Entry}

-- a struck journey of no edges
abbrev pub blank_entry : Entry
blank_entry = record { standing = Struck; journey = record { arrival = 0; edges = record { items = [] } } }
