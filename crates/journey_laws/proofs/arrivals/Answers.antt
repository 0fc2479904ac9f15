use Rattle.journey_laws.proofs.Entries.{same_arrival}
use Rattle.journey_laws.proofs.arrivals.Goals as goal

pub returns : goal.returns
returns c = same_arrival
