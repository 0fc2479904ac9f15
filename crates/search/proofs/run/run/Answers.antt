use Rattle.search.specs.Runs.{turns}
use Rattle.search.proofs.Turns.{whole_law}
use Rattle.search.proofs.run.run.Goals as goal

pub returns-clause-law : goal.returns-clause-law
returns-clause-law g c =
    let z = c.new-search in
    let s = c.send_all in
    let mean = g.N.Network.meaning in
    let ts = turns c.args.calls.now s.new.answers in
    rw (← z.ensures.answer.0, ← z.ensures.answer.1) (whole_law (mean z.result.network) z.result.question z.result.entries s.new.search.entries ts z.ensures.listed z.ensures.given s.ensures.ran)
