use Rattle.std.proofs.Common.{◌≡◌, ◌<◌, List, length, get_or, take, sym, ◌∙◌, subst, inl, inr, arith, drop-set-lt, get_or-take}
use Rattle.std.proofs.lemmas.Bool.{cases_lt}
use Rattle.std.proofs.lemmas.List.{length-take-le}
use Rattle.search.specs.Runs.{Turn, asked, turns}
use Rattle.search.specs.Turning.{Ran}
use Rattle.search.specs.declared.calls.Call.TheVariants.{Next}
use Rattle.search.proofs.Turns.{ran_more, turns_more, turns_all}
use Rattle.search.proofs.run.send_all.Goals as goal

pub loop-k-preserved : goal.loop-k-preserved
loop-k-preserved g c =
    let z = c.args.search.now in
    let mean = g.N.Network.meaning in
    let inv = c.loop-k.invariant in
    let k = c.loop-k.k in
    let t = c.answer.ensures.turn in
    let calls = c.args.calls.now in
    let xs = c.loop-k.answers in
    let long : length (take c.min-count.result calls) ≡ c.min-count.result = length-take-le c.min-count.result calls (omega arith) in
    let here : k < c.min-count.result = omega arith in
    record {
      same = (c.answer.ensures.same.0 ∙ inv.same.0, c.answer.ensures.same.1 ∙ inv.same.1);
      ran =
          subst (λ (ts : List Turn). Ran (mean z.network) z.question z.entries ts c.answer.new.search.entries) (sym (turns_more calls xs k Next c.answer.result (omega arith) (omega arith)))
          (ran_more (mean z.network) z.question z.entries c.loop-k.search.entries c.answer.new.search.entries (turns (take k calls) (take k xs)) (record { ask = asked (get_or calls k Next); said = c.answer.result }) inv.ran
          (rw (← inv.same.0, ← inv.same.1) (rw (get_or-take c.min-count.result calls k Next here) at t)));
      rest = λ j l. drop-set-lt j xs k c.answer.result (omega arith) ∙ inv.rest j (omega arith);
    }

pub returns-clause-ran : goal.returns-clause-ran
returns-clause-ran g c =
    let z = c.args.search.now in
    let calls = c.args.calls.now in
    let xs = c.loop-k.answers in
    let k = c.loop-k.k in
    let m = c.min-count.ensures in
    subst (λ (ts : List Turn). Ran (g.N.Network.meaning z.network) z.question z.entries ts c.loop-k.search.entries) (turns_all calls xs k (elim (cases_lt k (length calls)) [ inl l ↦ inr (omega (arith, length-take-le c.min-count.result calls (omega arith))) | inr l ↦ inl l ])) c.loop-k.invariant.ran
