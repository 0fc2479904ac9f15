use Rattle.journey_laws.proofs.Entries.{none_begins}
use Rattle.journey_laws.proofs.beginnings.Goals as goal

pub returns : goal.returns
returns c = none_begins
