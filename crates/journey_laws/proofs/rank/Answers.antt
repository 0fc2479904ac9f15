use Rattle.journey_laws.proofs.Entries.{ranked}
use Rattle.journey_laws.proofs.rank.Goals as goal

pub returns : goal.returns
returns c = ranked
