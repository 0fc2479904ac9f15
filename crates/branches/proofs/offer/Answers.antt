use Rattle.branches.proofs.Offering.{lesser_kept}
use Rattle.branches.proofs.offer.Goals as goal

pub returns-in-Some : goal.returns-in-Some
returns-in-Some c = rw (c.in-Some.is, c.min.ensures) (lesser_kept c.args.journey c.in-Some.best)
