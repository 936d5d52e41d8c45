use Rattle.std.proofs.Common.{◌≡◌, ◌++◌, ◌∙◌, inl, ap, subst}
use Rattle.executable.specs.Outcome.{executable_refusal_text}
use Rattle.c_answers.specs.Answers.{HasText}
use Rattle.c_answers.specs.declared.answer.Answer.{Answer}
use Rattle.c_answers.proofs.Given.{nothing_said}
use Rattle.c_answers.proofs.bound.tell_no_file.Goals as goal

pub returns-in-Ok : goal.returns-in-Ok
returns-in-Ok c =
    let all = executable_refusal_text c.args.refusal.now in
    let said = nothing_said c.of.result c.executable_status.result c.of.ensures in
    let unsaid = said.0 in
    let same : c.deref.result.now ≡ all = c.deref.ensures.value ∙ c.in-Ok.ensures ∙ ap (λ l. l ++ all) c.new-whole.ensures.items in (
      inl (record {
        status = ap (λ (a : Answer). a.status) c.of.ensures ∙ c.executable_status.ensures;
        file = said.1.file;
        has_text = subst (λ said. HasText said c.put_text.new.text c.put_text.result) same c.put_text.ensures;
      }),
      record {
        count = unsaid.count;
        bytes = unsaid.bytes;
        unlisted = record { preloads = unsaid.unlisted.preloads; generation = unsaid.unlisted.generation };
        unbound = record { objects = unsaid.unbound.objects };
      },
    )
