use Rattle.std.proofs.Common.{inl, inr, refl, subst, arith}
use Rattle.byte_disk.proofs.ReadOnly.{no_failure}
use Rattle.requests.specs.declared.refusal.Refusal.{Refusal}
use Rattle.requests.specs.declared.reply.Reply.TheVariants.{Refused}
use Rattle.c_answers.specs.Answers.{IsToldAlone}
use Rattle.c_answers.specs.Contents.{IsFileGiven}
use Rattle.c_answers.proofs.Contents.{unread_of}
use Rattle.c_answers.proofs.file.file_on.Goals as goal

pub returns-in-Ok-read : goal.returns-in-Ok-read
returns-in-Ok-read c =
    let ok = c.in-Ok.ensures.ok in
    inl (
      ok.0,
      ok.1,
      inl (
        c.in-Ok-read.file.items,
        c.in-Ok-read.ensures.ok ok.0 ok.2,
        subst
            (λ l. IsFileGiven l c.give.new.bytes c.give.result c.give.result.status) c.deref.ensures.value c.give.ensures.given,
      ),
    )

pub returns-in-Err-read : goal.returns-in-Err-read
returns-in-Err-read c =
    let ok = c.in-Ok.ensures.ok in
    let why = c.in-Err-read.unread in
    let none_failed = no_failure c.in-Ok.contents.disk c.file-read.new.self.disk (record { either = inl (c.file-read.ensures.read.unchanged refl).log }) in
    inl (
      ok.0,
      ok.1,
      inr (
        why,
        unread_of ok.0 c.args.name.now why (c.in-Err-read.ensures.not_installed ok.0 ok.2)
            (λ unreadable. omega (arith, c.in-Err-read.ensures.device unreadable, none_failed)),
        subst
            (λ (r : Refusal). IsToldAlone (Refused r) c.tell.new.text c.tell.result c.tell.result.status) c.refusal_of.ensures c.tell.ensures,
      ),
    )
