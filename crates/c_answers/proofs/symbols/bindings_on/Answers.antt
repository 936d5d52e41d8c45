use Rattle.std.proofs.Common.{inl, inr, subst}
use Rattle.c_answers.specs.Contents.{IsGiven}
use Rattle.c_answers.proofs.Bindings.{another, text-number}
use Rattle.c_answers.proofs.symbols.bindings_on.Goals as goal

pub returns-in-Ok-told-clause-answered : goal.returns-in-Ok-told-clause-answered
returns-in-Ok-told-clause-answered c =
    let ok = c.in-Ok.ensures.ok in
    let told = c.in-Ok-told.told in
    inl (
      ok.0,
      ok.1,
      ok.3,
      inl (
        told.number,
        told.text.items,
        c.in-Ok-told.ensures.ok ok.0 ok.2,
        subst (λ l. IsGiven told.number 0 l c.give.new.bytes c.give.result c.give.result.status) c.deref.ensures.value c.give.ensures.given,
      ),
    )

pub returns-in-Ok-told-clause-left : goal.returns-in-Ok-told-clause-left
returns-in-Ok-told-clause-left c done missing undefined =
    let ok = c.in-Ok.ensures.ok in
    let told = c.in-Ok-told.told in
    let tells = text-number ok.0 c.args.program.now c.args.base told.number told.text.items (c.in-Ok-told.ensures.ok ok.0 ok.2) in
    c.give.ensures.left (another told.number c.give.result.status tells done missing undefined)

pub returns-in-Err-told-clause-answered : goal.returns-in-Err-told-clause-answered
returns-in-Err-told-clause-answered c =
    let ok = c.in-Ok.ensures.ok in
    inl (ok.0, ok.1, ok.3, inr (c.in-Err-told.refusal, c.in-Err-told.ensures.err ok.0 ok.2, c.tell.ensures))
