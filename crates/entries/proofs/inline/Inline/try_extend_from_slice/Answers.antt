use Rattle.std.proofs.Common.{arith}
use Rattle.entries.proofs.Padded.{some_more}
use Rattle.entries.proofs.inline.Inline.try_extend_from_slice.Goals as goal

pub invariant_of-self : goal.invariant_of-self
invariant_of-self g c =
    let s = c.self.inside in
    some_more g.T.Blank.blank s.places s.count g.row.N c.self.invariant c.args.items.now c.write_at.new.places (omega (arith, c.if-self-items.false)) c.write_at.ensures
