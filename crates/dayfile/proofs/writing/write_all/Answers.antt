use Rattle.std.proofs.Common.{ℕ, List, subst, arith}
use Rattle.std.proofs.lemmas.Grind.{common_steps}
use Rattle.dayfile.specs.Wrote.{Wrote}
use Rattle.dayfile.proofs.Puts.{wrote_more}
use Rattle.dayfile.proofs.writing.write_all.Goals as goal

pub loop-record-preserved : goal.loop-record-preserved
loop-record-preserved g c = let x = c.record-item.result in
    let w = subst (λ (s : List ℕ). Wrote c.loop-record.buffer c.loop-record.at s c.put-at.result c.put-at.new.buffer) c.to_bytes.ensures c.put-at.ensures in (
      wrote_more g.T.Stored.code c.args.buffer.now c.args.list.now c.loop-record.buffer _ c.args.from c.loop-record.record-index c.loop-record.at _ x (omega arith) c.record-item.is (omega (arith, c.requires)) c.loop-record.invariant.0 w,
      grind (arith, common_steps),
    )
