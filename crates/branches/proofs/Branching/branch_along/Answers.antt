use Rattle.std.proofs.Common.{take}
use Rattle.journey_laws.proofs.Entries.{ways}
use Rattle.entries.specs.Listing.{listed}
use Rattle.branches.proofs.Advancing.{no_way, at_next}
use Rattle.branches.proofs.Passing.{none_yet, passed, branched, place_at}
use Rattle.branches.proofs.Branching.branch_along.Goals as goal
use Rattle.branches.proofs.Branching.branch_along.Goals.{then-not-is_place, else-not-is_place}

pub loop-k-init : goal.loop-k-init
loop-k-init g c =
    let m = g.N.Network.meaning c.args.self.now.network.now in
    let q = c.args.self.now.question.now in
    record {
      here = c.at_origin-position.ensures m;
      far = λ h s u. none_yet m q (listed c.args.self.now.entries.now) c.args.edges.now c.args.best u;
    }

pub branch-best-requires-clause-place : goal.branch-best-requires-clause-place
branch-best-requires-clause-place g c =
    place_at (g.N.Network.meaning c.args.self.now.network.now) c.args.self.now.question.now (listed c.args.self.now.entries.now) c.args.edges.now c.loop-k.k c.requires c.loop-k-test.true

pub returns-in_default : goal.returns-in_default
returns-in_default g c = λ h s u.
    let m = g.N.Network.meaning c.args.self.now.network.now in
    let q = c.args.self.now.question.now in
    absurd (no_way m q c.args.edges.now c.loop-k.k c.loop-k-test.true (c.in_default.ensures q _ c.loop-k.invariant.here) q.destination _ (ways m q (listed c.args.self.now.entries.now) s c.args.edges.now c.requires).1)

pub loop-k-preserved : goal.loop-k-preserved
loop-k-preserved g c =
    let m = g.N.Network.meaning c.args.self.now.network.now in
    let q = c.args.self.now.question.now in
    let ys = listed c.args.self.now.entries.now in
    let es = c.args.edges.now in
    let k = c.loop-k.k in
    record {
      here = at_next m q es k c.loop-k-test.true c.in-Some.next (c.in-Some.ensures q _ c.loop-k.invariant.here);
      far = λ h s u.
          let x = c.loop-k.invariant.far h s u in
          elim c.if-not-is_place.branch [
            | then-not-is_place w ↦ rw w.best-is (branched m q ys es k c.args.best c.loop-k.best w.branch-best.result x (w.branch-best.ensures s x.unlisted))
            | else-not-is_place w ↦ rw w.best-is (passed m q ys es k c.args.best c.loop-k.best (h (take k es) (c.is_place.ensures.0 w.if-not-is_place.false)) x)
          ];
    }
