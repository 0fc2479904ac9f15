use Rattle.journey_laws.proofs.Entries.{few_edges}
use Rattle.journey_laws.proofs.lengths.Goals as goal

pub returns : goal.returns
returns c m law q = few_edges m q law
