use Rattle.std.proofs.Common.{arith}
use Rattle.entries.proofs.Padded.{one_more}
use Rattle.entries.proofs.inline.Inline.try_push.Goals as goal

pub invariant_of-self : goal.invariant_of-self
invariant_of-self g c = let s = c.self.inside in one_more g.T.Blank.blank s.places s.count g.row.N c.self.invariant _ (omega (arith, c.if-self.false))
