use Rattle.std.proofs.Common.{◌≡◌, ◌↔◌, ◌≤◌, None, ℕ, List, inl, length, ap, subst}
use Rattle.contents.specs.Info.{IsInfo}
use Rattle.store.specs.Names.{IsFileSize}
use Rattle.store.specs.Step.{longest_unused, refusal_of_new}
use Rattle.c_answers.specs.declared.answer.Answer.{Answer}
use Rattle.c_answers.proofs.Given.{nothing_said}
use Rattle.c_answers.proofs.information.info_on.Goals as goal

pub returns-in-Ok-clause-answered : goal.returns-in-Ok-clause-answered
returns-in-Ok-clause-answered c =
    let ok = c.in-Ok.ensures.ok in
    let s = ok.0 in
    let info = c.info.result in
    let said = nothing_said c.of.result 0 c.of.ensures in
    inl (
      ap (λ (a : Answer). a.status) c.of.ensures,
      record {
        state = s;
        holds = ok.1;
        store = c.in-Ok.contents;
        at = ok.2;
        now = c.in-Ok.ensures.now;
        unheld = c.in-Ok.ensures.unheld;
        told = info;
        is = c.information_of.ensures;
        numbers = subst (λ n. IsInfo n s info) c.in-Ok.ensures.sectors (c.info.ensures.state s ok.2);
        unused = c.info.ensures.unused;
        runs = c.info.ensures.runs;
        largest = subst (λ n. (file : List ℕ) → IsFileSize (length file)
            → (length file ≤ info.unused.largest) ↔ (refusal_of_new n (longest_unused c.in-Ok.contents) s file ≡ None)) c.in-Ok.ensures.sectors
            (c.info.ensures.largest s ok.2);
        form = c.info.ensures.form;
      },
      said.0,
      said.1,
    )
