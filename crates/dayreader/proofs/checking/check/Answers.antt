use Rattle.std.proofs.Common.{◌≡◌, Option, Some, None, ap, ◌∙◌, sym, rules, subst, arith}
use Rattle.std.proofs.lemmas.Result.{err_from_is_err_and}
use Rattle.dayformat.specs.declared.Kind.TheVariants as kind
use Rattle.dayformat.specs.declared.Lengths.{Lengths}
use Rattle.dayformat.specs.Whole.{Added}
use Rattle.refusals.specs.declared.Refusal.TheVariants.{OfFile}
use Rattle.refusals.specs.declared.FileRefusal.TheVariants.{ListFull}
use Rattle.dayreader.proofs.Turns.{unread, reader_refused, list_full, file_whole, one_further}
use Rattle.dayreader.proofs.checking.check.Goals as goal

pub returns-in_err-next_record : goal.returns-in_err-next_record
returns-in_err-next_record c =
    let v = reader_refused c.args.file.now c.args.room.now c.loop-kind.n c.loop-kind.reader c.loop-kind.invariant _ c.in_err-next_record.ensures.answer in
    let p = err_from_is_err_and c.from_residual.result c.from_residual.ensures.1 in
    rw (p.1, p.2) (record { answer = v; law = unread c.args.file.now c.args.room.now v.0 v.2 })

pub returns-then-eq : goal.returns-then-eq
returns-then-eq c =
    let e : c.kind-kind.result ≡ kind.End = search rules in
    let v = file_whole c.args.file.now c.args.room.now c.loop-kind.n c.loop-kind.reader c.loop-kind.invariant _ _ c.in_ok-next_record.ensures.after (sym c.kind-kind.ensures ∙ e) in
    record { answer = v.0; law = (v.1, v.2) }

pub returns-in_err-n : goal.returns-in_err-n
returns-in_err-n c =
    let none : c.one_more.result ≡ None = grind arith in
    let full : c.in_err-n.field-0.0 ≡ ListFull c.loop-kind.reader.at = grind arith in
    let v = list_full c.args.file.now c.args.room.now c.loop-kind.n c.loop-kind.reader c.loop-kind.invariant _ _ c.kind-kind.result c.in_ok-next_record.ensures.after c.kind-kind.ensures
    (subst (λ (o : Option Lengths). Added c.args.room.now c.loop-kind.n c.kind-kind.result o) none c.one_more.ensures) in
    let p = err_from_is_err_and c.from_residual-in_err-n.result c.from_residual-in_err-n.ensures.1 in
    rw (p.1, p.2) (record { answer = (_, ap OfFile full, v); law = unread c.args.file.now c.args.room.now _ v })

pub loop-kind-preserved : goal.loop-kind-preserved
loop-kind-preserved c =
    let some : c.one_more.result ≡ Some c.in_ok-n.n = grind arith in
    let onward : c.kind-kind.result ≡ kind.End → ⊥ = λ e. search rules in
    one_further c.args.file.now c.args.room.now c.loop-kind.n c.loop-kind.reader c.loop-kind.invariant _ _ c.kind-kind.result c.in_ok-n.n c.in_ok-next_record.ensures.after
    (λ e. onward (c.kind-kind.ensures ∙ e)) c.kind-kind.ensures (subst (λ (o : Option Lengths). Added c.args.room.now c.loop-kind.n c.kind-kind.result o) some c.one_more.ensures)
