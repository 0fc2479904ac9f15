use Rattle.std.proofs.Common.{◌≡◌, ℕ, Option, Some, IfSome, take, subst, arith, rules}
use Rattle.stops.specs.Sets.{Holds}
use Rattle.journeys.specs.Journeys.{In}
use Rattle.detour.specs.Detours.{Answers}
use Rattle.detour.proofs.Refusing.{no_reason, not_held}
use Rattle.detour.proofs.detour.Goals as goal

pub returns-clause-refusal : goal.returns-clause-refusal
returns-clause-refusal g c =
    let m = g.N.Network.meaning c.args.network.now in
    let S = Holds c.args.shut.now in
    let B : ℕ → Type 0 = λ e. In e c.args.barred.now in
    let q = c.args.course in
    let p = c.in_ok-answer.answer in
    let some : ◌≡◌ {A = Option (ℕ × ℕ)} c.find.result (Some p) = search rules in
    let found = subst (λ o. IfSome o (Answers m S B q.stop q.instant q.destination q.latest c.find.new.edges)) some c.find.ensures.answer in
    no_reason m S B q.stop q.instant q.destination q.latest p.0 (take p.1 c.find.new.edges)
    c.if-stop-destination.false (not_held _ _ _ c.contains.ensures c.if-contains.false) (not_held _ _ _ c.contains-else-contains.ensures c.if-contains-2.false)
    (omega (arith, c.if-instant-latest.false)) (omega (arith, c.if-latest-gt-DAY_END.false)) found.first.member
