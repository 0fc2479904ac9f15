use Rattle.std.proofs.Common.{◌≡◌, ℕ, [], ◌∷◌, Ok, Result, IfOk, sym, ◌∙◌, subst, take, rules}
use Rattle.refusals.specs.declared.Refusal.{Refusal}
use Rattle.refusals.specs.declared.Refusal.TheVariants.{OfDetour}
use Rattle.stops.specs.Sets.{Holds}
use Rattle.journeys.specs.Journeys.{In}
use Rattle.detour.specs.Detours.{Answers}
use Rattle.entries.specs.Listing.{listed}
use Rattle.branches.proofs.Detours.{refused, none_leaves, joined_leaves}
use Rattle.branches.proofs.Branching.first_leaving.Goals as goal

pub returns-in_err-arrival : goal.returns-in_err-arrival
returns-in_err-arrival g c = rw c.from_residual.ensures (λ s le.
    let m = g.N.Network.meaning c.args.self.now.network.now in
    let (f, h) = refused OfDetour (71 ∷ 72 ∷ 73 ∷ []) _ c.detour.result c.detour.ensures.refusal (sym c.ok.ensures.value ∙ c.in_err-arrival.was) in
    none_leaves m (g.met.N.Network.lawful c.args.self.now.network.now) c.args.self.now.question.now (listed c.args.self.now.entries.now) s
    c.args.beginning.now c.args.position c.requires.here c.requires.place c.next_edges-barred.result.items c.next_edges-barred.ensures c.args.by le f
    (rw (← c.deref.ensures.0, ← c.destination.ensures) h))

pub returns : goal.returns
returns g c = λ s le.
    let m = g.N.Network.meaning c.args.self.now.network.now in
    let gave : ◌≡◌ {A = Result (ℕ × ℕ) Refusal} c.detour.result (Ok (c.in_ok-arrival.arrival, c.in_ok-arrival.count)) = search rules in
    let answered = subst (λ r. IfOk r (Answers m (Holds c.args.position.behind) (λ e. In e c.deref.result.now) c.args.position.stop c.args.position.instant c.destination.result c.args.by c.detour.new.edges)) gave c.detour.ensures.answer in
    rw c.ok-2.ensures.value
    (joined_leaves m (g.met.N.Network.lawful c.args.self.now.network.now) c.args.self.now.question.now (listed c.args.self.now.entries.now) s
    c.args.beginning.now c.args.position c.requires.here c.requires.place c.next_edges-barred.result.items c.next_edges-barred.ensures c.args.by le c.in_ok-arrival.arrival (take c.in_ok-arrival.count c.detour.new.edges)
    (rw (← c.deref.ensures.0, ← c.destination.ensures) answered.first) c.joined.result c.joined.ensures.ok c.joined.ensures.variant)
