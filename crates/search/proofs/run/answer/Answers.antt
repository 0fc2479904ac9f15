use Rattle.std.proofs.Common.{Ok, Err, [], ◌∷◌, refl, inr}
use Rattle.entries.specs.Listing.{listed}
use Rattle.search.specs.Calls.{told_journey}
use Rattle.search.specs.Runs.{next, again, strike}
use Rattle.search.specs.declared.calls.Reply.TheVariants.{Gave}
use Rattle.search.proofs.Turns.{told_is, err_is, entered, unchanged, struck_turn, not_struck}
use Rattle.search.proofs.run.answer.Goals as goal
use Rattle.search.proofs.run.answer.Goals.{in-Next+in_ok-next-in-Next, in-Again+in_ok-arrival-in-Again}

pub returns-in_err-next-in-Next-clause-turn : goal.returns-in_err-next-in-Next-clause-turn
returns-in_err-next-in-Next-clause-turn g c =
    let s = c.args.search.now in
    let h = c.in_err-next-in-Next.ensures in
    let r = c.in_err-next-in-Next.field-0.0 in
    rw (c.in-Next.is, err_is c.from_residual.result r c.from_residual.ensures) (unchanged (g.N.Network.meaning s.network) s.question s.entries c.next.new.self.entries next (Err r) h.refusal refl refl h.after s.sound)

pub returns-in_err-arrival-in-Again-clause-turn : goal.returns-in_err-arrival-in-Again-clause-turn
returns-in_err-arrival-in-Again-clause-turn g c =
    let s = c.args.search.now in
    let h = c.in_err-arrival-in-Again.ensures in
    let r = c.in_err-arrival-in-Again.field-0.0 in
    rw (c.in-Again.is, err_is c.from_residual-in_err-arrival-in-Again.result r c.from_residual-in_err-arrival-in-Again.ensures)
    (unchanged (g.N.Network.meaning s.network) s.question s.entries s.entries (again c.in-Again.i) (Err r) h.refusal refl refl refl s.sound)

pub returns-in_err-strike-in-Strike-clause-turn : goal.returns-in_err-strike-in-Strike-clause-turn
returns-in_err-strike-in-Strike-clause-turn g c =
    let s = c.args.search.now in
    let h = c.in_err-strike-in-Strike.ensures in
    let r = c.in_err-strike-in-Strike.field-0.0 in
    let es = c.in-Strike.edges.now in
    rw (c.in-Strike.is, err_is c.from_residual-in_err-strike-in-Strike.result r c.from_residual-in_err-strike-in-Strike.ensures)
    (unchanged (g.N.Network.meaning s.network) s.question s.entries c.strike.new.self.entries (strike es) (Err r) h.refusal
    (inr (not_struck (g.N.Network.meaning s.network) s.question (listed s.entries) es r h.refusal, refl)) refl h.after s.sound)

pub returns-in-Strike-clause-turn : goal.returns-in-Strike-clause-turn
returns-in-Strike-clause-turn g c =
    let s = c.args.search.now in
    let h = c.in_ok-strike-in-Strike.ensures in
    let new = c.strike.new.self in
    let mean = g.N.Network.meaning in
    rw c.in-Strike.is
    (struck_turn (mean s.network) s.question s.entries new.entries c.in-Strike.edges.now h.answer h.refusal h.after.0 h.after.1
    (rw (← h.same.0, ← h.same.1) new.sound))

pub returns-clause-turn : goal.returns-clause-turn
returns-clause-turn g c =
    let s = c.args.search.now in
    let mean = g.N.Network.meaning in
    let told = told_is c.new.result c.unwrap.result c.match-call.buffer c.match-call.arrival c.unwrap.ensures c.new.ensures.ok in
    elim c.match-call.branch [
      | in-Next+in_ok-next-in-Next w ↦
          let h = w.in_ok-next-in-Next.ensures in
          let new = w.next.new.self in
          let j = told_journey w.next.new.buffer (w.in_ok-next-in-Next.arrival, w.in_ok-next-in-Next.count) in
          rw (w.in-Next.is, told, w.buffer-is, w.arrival-is, w.search-is)
          (entered (mean s.network) s.question s.entries new.entries next (Ok (Gave j)) (j.edges.items ∷ []) (h.answer, h.refusal) refl h.after.0 h.after.1
          (rw (← h.same.0, ← h.same.1) new.sound))
      | in-Again+in_ok-arrival-in-Again w ↦
          let h = w.in_ok-arrival-in-Again.ensures in
          let j = told_journey w.again.new.buffer (w.in_ok-arrival-in-Again.arrival, w.in_ok-arrival-in-Again.count) in
          rw (w.in-Again.is, told, w.buffer-is, w.arrival-is, w.search-is)
          (unchanged (mean s.network) s.question s.entries s.entries (again w.in-Again.i) (Ok (Gave j)) (h.answer, h.refusal) refl refl refl s.sound)
    ]
