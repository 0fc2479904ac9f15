use Rattle.dayfile.specs.Records.{listed, held}
use Rattle.dayrounds.proofs.Steps.{reread}
use Rattle.dayrounds.proofs.pack_and_reread.Goals as goal

pub returns-clause-answer : goal.returns-clause-answer
returns-clause-answer c = let u = c.unpack in
    (reread (listed c.args.lists.now) (held c.args.again.now) (held u.new.room) c.args.buffer.now c.pack.new.buffer c.in_ok-n.n c.in_ok-n.ensures.after u.result u.ensures.answer u.ensures.after).0

pub returns-clause-after : goal.returns-clause-after
returns-clause-after c = let u = c.unpack in
    (reread (listed c.args.lists.now) (held c.args.again.now) (held u.new.room) c.args.buffer.now c.pack.new.buffer c.in_ok-n.n c.in_ok-n.ensures.after u.result u.ensures.answer u.ensures.after).1
