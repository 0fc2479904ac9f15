use Rattle.std.proofs.Common.{length}
use Rattle.entries.specs.Listing.{listed}
use Rattle.search.proofs.Entering.{not_full, first_judged}
use Rattle.search.proofs.open.OpenSearch.first.Goals as goal

pub returns-clause-refusal : goal.returns-clause-refusal
returns-clause-refusal g c =
    let s = c.args.self.now in
    rw c.ok_or.ensures.value
    (first_judged (g.N.Network.meaning s.network) s.question (listed s.entries) c.first_unlisted.result (c.first_unlisted.ensures s.sound.simple) (not_full c.is_full.result (length (listed s.entries)) c.if-is_full.false c.is_full.ensures.1))
