use Rattle.std.proofs.Common.{◌∙◌, arith}
use Rattle.detour.proofs.Chains.{read}
use Rattle.detour.proofs.departures.edge_at.Goals as goal

pub returns : goal.returns
returns g c = c.edge.ensures ∙ read c.args.links.now c.args.place _ (omega arith) c.index-links-place.is
