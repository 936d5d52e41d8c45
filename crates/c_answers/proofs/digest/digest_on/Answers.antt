use Rattle.std.proofs.Common.{inl, inr, refl, subst, ap, arith}
use Rattle.byte_disk.proofs.ReadOnly.{no_failure}
use Rattle.requests.specs.declared.refusal.Refusal.{Refusal}
use Rattle.requests.specs.declared.reply.Reply.TheVariants.{Refused}
use Rattle.c_answers.specs.Answers.{IsToldAlone}
use Rattle.c_answers.specs.declared.answer.Answer.{Answer}
use Rattle.c_answers.proofs.Contents.{unread_of}
use Rattle.c_answers.proofs.Given.{nothing_said}
use Rattle.c_answers.proofs.digest.digest_on.Goals as goal

pub returns-in-Ok-read-clause-answered : goal.returns-in-Ok-read-clause-answered
returns-in-Ok-read-clause-answered c =
    let ok = c.in-Ok.ensures.ok in
    let had = c.in-Ok-read.ensures.ok ok.0 ok.2 in
    let said = nothing_said c.of.result 0 c.of.ensures in
    inl (ok.0, ok.1, inl (had.0, had.1, had.2, ap (λ (a : Answer). a.status) c.of.ensures, said.0, said.1))

pub returns-in-Err-read-clause-answered : goal.returns-in-Err-read-clause-answered
returns-in-Err-read-clause-answered c =
    let ok = c.in-Ok.ensures.ok in
    let why = c.in-Err-read.unread in
    let none_failed = no_failure c.in-Ok.contents.disk c.digest-read.new.self.disk (record { either = inl (c.digest-read.ensures.read.unchanged refl).log }) in
    inl (
      ok.0,
      ok.1,
      inr (
        why,
        unread_of ok.0 c.args.name.now why (c.in-Err-read.ensures.not_installed ok.0 ok.2)
            (λ unreadable. omega (arith, c.in-Err-read.ensures.device unreadable, none_failed)),
        subst
            (λ (r : Refusal). IsToldAlone (Refused r) c.tell.new.text c.tell.result c.tell.result.status) c.refusal_of.ensures c.tell.ensures,
      ),
    )
