use Rattle.journey_laws.proofs.Entries.{next_is_least}
use Rattle.journey_laws.proofs.branches.Goals as goal

pub returns : goal.returns
returns c = next_is_least
