use Rattle.std.proofs.Common.{take, sym, ap, ◌∙◌, arith, rules}
use Rattle.std.proofs.lemmas.Result.{MatchResult-at_ok}
use Rattle.dayformat.specs.Layout.{size}
use Rattle.dayfile.proofs.Runs.{next_place, there, read_more}
use Rattle.dayfile.proofs.reading.read_all.Goals as goal

pub overflow_add-at : goal.overflow_add-at
overflow_add-at g c = let t = (there c.args.list.now c.args.file.now g.T.Stored.kind c.args.from c.args.n c.loop-record.record-index c.loop-record.at g.row.N c.requires.room c.requires.stand c.loop-record-test.true c.loop-record.invariant.0 (sym g.met.T.Stored.width)).within in search rules

pub slice_bounds-try_into-end : goal.slice_bounds-try_into-end
slice_bounds-try_into-end g c = (there c.args.list.now c.args.file.now g.T.Stored.kind c.args.from c.args.n c.loop-record.record-index c.loop-record.at g.row.N c.requires.room c.requires.stand c.loop-record-test.true c.loop-record.invariant.0 (sym g.met.T.Stored.width)).within

pub of_bytes-requires : goal.of_bytes-requires
of_bytes-requires g c =
    let t = there c.args.list.now c.args.file.now g.T.Stored.kind c.args.from c.args.n c.loop-record.record-index c.loop-record.at g.row.N c.requires.room c.requires.stand c.loop-record-test.true c.loop-record.invariant.0 (sym g.met.T.Stored.width) in
    let mark = ap (take 2) (MatchResult-at_ok _ _ _ c.unwrap.ensures c.try_into.ensures.1).same ∙ t.marked in let within = t.within in search rules

pub loop-record-preserved : goal.loop-record-preserved
loop-record-preserved g c = let i = c.loop-record.invariant in let w = size g.T.Stored.kind in let v = sym g.met.T.Stored.width in
    let same = (MatchResult-at_ok _ _ _ c.unwrap.ensures c.try_into.ensures.1).same in (
      next_place w c.args.from c.loop-record.record-index c.loop-record.at g.row.N i.0 v,
      read_more g.T.Stored.code w c.args.file.now c.args.from c.loop-record.front c.loop-record.record-index c.loop-record.at g.row.N c.of_bytes.result (omega arith) i.0 v (c.of_bytes.ensures ∙ same) i.1,
    )
