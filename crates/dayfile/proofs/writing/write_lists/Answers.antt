use Rattle.std.proofs.Common.{arith}
use Rattle.dayfile.proofs.Puts.{length_parts, wrote_then, wrote_front}
use Rattle.dayfile.proofs.writing.write_lists.Goals as goal

pub returns : goal.returns
returns c =
    let e = length_parts c.args.lists.now.connections.now c.args.lists.now.footpaths.now c.args.lists.now.lines.now in
    let a = c.write_all-footpaths_from in let b = c.write_all-lines_from in let d = c.write_all-end in
    wrote_front c.requires (wrote_then (omega arith) a.ensures (wrote_then (omega (arith, a.ensures.place, a.auto.buffer)) b.ensures
    (wrote_then (omega (arith, a.ensures.place, a.auto.buffer, b.ensures.place, b.auto.buffer)) d.ensures c.put.ensures)))
