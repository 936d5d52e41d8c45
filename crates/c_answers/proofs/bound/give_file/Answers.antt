use Rattle.std.proofs.Common.{◌≡◌, ◌++◌, ◌∙◌, inl, ap, subst}
use Rattle.elf_file.specs.Header.{header_count}
use Rattle.c_answers.specs.Contents.{IsGiven}
use Rattle.c_answers.proofs.bound.give_file.Goals as goal

pub returns-in-Ok-clause-given : goal.returns-in-Ok-clause-given
returns-in-Ok-clause-given c =
    let file = c.args.file.now in
    let give = c.give in
    let same : c.deref.result.now ≡ file = c.deref.ensures.value ∙ c.in-Ok.ensures ∙ ap (λ l. l ++ file) c.new-whole.ensures.items in
    let counted = subst (λ n. IsGiven 0 n c.deref.result.now give.new.bytes give.result give.result.status) (c.from.ensures ∙ c.header_count.ensures) give.ensures.given in
    inl (subst (λ l. IsGiven 0 (header_count file) l give.new.bytes give.result give.result.status) same counted)
