use Rattle.journey_laws.proofs.Entries.{leaves_once}
use Rattle.journey_laws.proofs.leavings.Goals as goal

pub returns : goal.returns
returns c = leaves_once
