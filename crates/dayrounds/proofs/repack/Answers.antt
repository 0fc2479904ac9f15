use Rattle.std.proofs.Common.{arith}
use Rattle.std.proofs.lemmas.Result.{err_from_is_err_and}
use Rattle.dayfile.specs.Records.{listed, held, counts}
use Rattle.dayrounds.proofs.Steps.{blocked_fault, written_back}
use Rattle.dayrounds.proofs.repack.Goals as goal

pub returns-in_err-n-clause-answer : goal.returns-in_err-n-clause-answer
returns-in_err-n-clause-answer c =
    let v = c.in_err-n.ensures.answer in
    let p = err_from_is_err_and c.from_residual.result c.from_residual.ensures.1 in
    rw (p.1, p.2) (v.0, v.1, blocked_fault c.args.file.now (counts (held c.args.room.now)) c.args.buffer.now v.0 (omega arith) v.2)

pub returns-clause-answer : goal.returns-clause-answer
returns-clause-answer c =
    let u = c.in_ok-n.ensures in
    written_back c.args.file.now c.args.buffer.now (held c.args.room.now) (held c.unpack.new.room) (listed c.front.result) c.in_ok-n.n (omega arith) u.answer u.after c.front.ensures c.pack.result c.pack.ensures.answer
