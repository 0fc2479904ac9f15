use Rattle.journey_laws.proofs.Entries.{one_first}
use Rattle.journey_laws.proofs.firsts.Goals as goal

pub returns : goal.returns
returns c = one_first
