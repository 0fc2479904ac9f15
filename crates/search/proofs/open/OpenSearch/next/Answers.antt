use Rattle.refusals.specs.declared.SearchRefusal.TheVariants.{TooManyEntries}
use Rattle.search.proofs.Entering.{room, on_ok, sound_given}
use Rattle.search.proofs.open.OpenSearch.next.Goals as goal

pub unwrap-requires : goal.unwrap-requires
unwrap-requires g c = c.try_push.ensures.variant.1 (room c.args.self.now.entries (c.in_ok-journey.ensures.refusal TooManyEntries))

pub invariant_of-self : goal.invariant_of-self
invariant_of-self g c =
    let s = c.args.self.now in
    let pushed = on_ok c.try_push.result _ (c.try_push.ensures.variant.1 (room s.entries (c.in_ok-journey.ensures.refusal TooManyEntries))) c.try_push.ensures.ok in
    record { sound = sound_given (g.N.Network.meaning s.network) s.question s.entries (record { list = c.try_push.new.self }) s.sound c.in_ok-journey.journey pushed c.in_ok-journey.ensures.answer }
