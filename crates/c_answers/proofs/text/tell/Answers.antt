use Rattle.std.proofs.Common.{◌≡◌, ◌++◌, ◌∙◌, inl, ap, subst}
use Rattle.std.proofs.lemmas.Bool.{both_ways}
use Rattle.program_parts.specs.Reply.{reply_text}
use Rattle.c_answers.specs.Answers.{HasText}
use Rattle.c_answers.specs.declared.answer.Answer.{Answer}
use Rattle.c_answers.proofs.Given.{nothing_said}
use Rattle.c_answers.proofs.text.tell.Goals as goal

pub returns-in-Ok : goal.returns-in-Ok
returns-in-Ok c =
    let all = reply_text c.args.reply.now in
    let unsaid = (nothing_said c.of.result c.reply_status.result c.of.ensures).0 in
    let same : c.deref.result.now ≡ all = c.deref.ensures.value ∙ c.in-Ok.ensures ∙ ap (λ l. l ++ all) c.new-whole.ensures.items in (
      inl (record {
        status = ap (λ (a : Answer). a.status) c.of.ensures ∙ c.reply_status.ensures;
        file = c.reply_file_refusal.ensures;
        has_text = subst (λ said. HasText said c.put_text.new.text c.put_text.result) same c.put_text.ensures;
        device = λ is. both_ways c.is_failure.result c.if-is_failure.false (c.is_failure.ensures.1 is);
      }),
      record {
        count = unsaid.count;
        bytes = unsaid.bytes;
        unlisted = record { preloads = unsaid.unlisted.preloads; generation = unsaid.unlisted.generation };
        unbound = record { objects = unsaid.unbound.objects };
      },
    )
