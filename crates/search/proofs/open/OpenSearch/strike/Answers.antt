use Rattle.refusals.specs.declared.SearchRefusal.TheVariants.{TooManyEntries}
use Rattle.search.proofs.Entering.{room, on_ok, sound_struck}
use Rattle.search.proofs.open.OpenSearch.strike.Goals as goal

pub unwrap-requires : goal.unwrap-requires
unwrap-requires g c = c.try_push.ensures.variant.1 (room c.args.self.now.entries (c.in_ok-journey.ensures.refusal TooManyEntries))

pub invariant_of-self : goal.invariant_of-self
invariant_of-self g c =
    let s = c.args.self.now in
    let pushed = on_ok c.try_push.result _ (c.try_push.ensures.variant.1 (room s.entries (c.in_ok-journey.ensures.refusal TooManyEntries))) c.try_push.ensures.ok in
    let (e, j) = c.in_ok-journey.ensures.answer in
    record { sound = sound_struck (g.N.Network.meaning s.network) s.question s.entries (record { list = c.try_push.new.self }) s.sound c.in_ok-journey.journey pushed (rw e j.simple) }
